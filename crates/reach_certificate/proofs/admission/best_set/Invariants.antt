use Rattle.std.proofs.Common.{not}
use Rattle.strong_apa.specs.State.{is_ready, task_count}
use Rattle.strong_apa.proofs.Counts.{count_below}
use Rattle.reach_certificate.proofs.Greedy.{IsGreedy}
use Rattle.reach_certificate.proofs.admission.best_set.Given as goal

abbrev pub invariant-loop-t : goal.invariant-loop-t
invariant-loop-t l = IsGreedy l.set l.ready l.links l.best.items

-- how many tasks are absent
abbrev pub decreases-loop-t : goal.decreases-loop-t
decreases-loop-t l = count_below (λ t. not (is_ready l.links t)) (task_count l.links)
