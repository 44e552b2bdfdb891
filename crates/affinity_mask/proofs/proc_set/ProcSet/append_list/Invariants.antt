use Rattle.std.proofs.Common.{◌≡◌, ◌-◌, ◌++◌}
use Rattle.affinity_mask.specs.ListSteps.{list_below, IsBetween}
use Rattle.affinity_mask.proofs.proc_set.ProcSet.append_list.Given as goal

abbrev pub invariant-loop-low : goal.invariant-loop-low
invariant-loop-low l = IsBetween l.self l.from × (l.into.items ≡ l.fn.into.items ++ list_below l.self l.from)

abbrev pub decreases-loop-low : goal.decreases-loop-low
decreases-loop-low l = 64 - l.from
