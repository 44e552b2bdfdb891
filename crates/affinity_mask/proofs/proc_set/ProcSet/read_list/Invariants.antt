use Rattle.std.proofs.Common.{List, length}
use Rattle.affinity_mask.specs.ListText.{Item}
use Rattle.affinity_mask.specs.ListSteps.{IsReadSoFar}
use Rattle.affinity_mask.proofs.proc_set.ProcSet.read_list.Given as goal

abbrev pub invariant-loop-item : goal.invariant-loop-item
invariant-loop-item l = (done : List Item) × IsReadSoFar l.text l.set l.rest done

abbrev pub decreases-loop-item : goal.decreases-loop-item
decreases-loop-item l = length l.rest
