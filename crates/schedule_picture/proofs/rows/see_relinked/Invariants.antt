use Rattle.std.proofs.Common.{◌≡◌, ℕ, ◌<◌}
use Rattle.strong_apa.specs.State.{task_on, is_task}
use Rattle.schedule_picture.specs.Tracks.{EachSeesOrStays, last_on}
use Rattle.schedule_picture.proofs.rows.see_relinked.Given as goal

abbrev pub invariant-loop-p : goal.invariant-loop-p
invariant-loop-p l = EachSeesOrStays l.n l.links (λ t. (p : ℕ) → p < l.p → is_task t (last_on l.lanes p) ≡ is_task t (task_on l.links p))
    l.fn.rows.items l.rows.items
