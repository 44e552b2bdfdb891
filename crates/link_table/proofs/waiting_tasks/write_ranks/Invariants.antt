use Rattle.std.proofs.Common.{◌≡◌, ℕ, ◌<◌, get_or}
use Rattle.link_table.specs.declared.ranked.Ranked.{Ranked}
use Rattle.link_table.proofs.waiting_tasks.write_ranks.Given as goal

abbrev pub invariant-loop-r : goal.invariant-loop-r
invariant-loop-r l = (k : ℕ) (d : Ranked) → k < l.r → get_or l.ranks (get_or l.order k d).task 0 ≡ k
