use Rattle.std.proofs.Common.{sym, ap, ◌∙◌, length}
use Rattle.live_core.specs.Live.{LiveData}
use Rattle.live_core.proofs.live.LiveCore.links.Goals as goal

pub returns-clause-seen : goal.returns-clause-seen
returns-clause-seen c =
    ap (λ (d : LiveData). length d.seen) (sym c.self.view_is) ∙ c.len-count.ensures.tasks
    ∙ sym (ap length c.self.invariant.tasks.priorities)
    ∙ ap (λ (d : LiveData). length d.links.priorities) c.self.view_is
