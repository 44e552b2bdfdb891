use Rattle.std.proofs.Common.{◌≡◌, replicate}
use Rattle.affinity_mask.specs.ProcSet.{empty}
use Rattle.link_table.proofs.set_tree.SetTree.new.Given as goal

abbrev pub invariant-loop-k : goal.invariant-loop-k
invariant-loop-k l = l.nodes.items ≡ replicate l._k empty
