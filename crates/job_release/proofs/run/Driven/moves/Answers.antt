use Rattle.std.proofs.Common.{◌∙◌}
use Rattle.job_release.proofs.Runs.{moves_fit, moves_of_rows}
use Rattle.job_release.proofs.run.Driven.moves.Goals as goal

pub moves_in_all-requires : goal.moves_in_all-requires
moves_in_all-requires g c =
    let a = c.self.inside in
    let kept = c.self.invariant in
    rw c.deref.ensures.value (moves_fit (g.S.JobScheduler.seen a.scheduler).states a.horizon a.rows.items kept.within kept.few kept.rows)

pub returns : goal.returns
returns g c =
    let a = c.self.inside in
    let kept = c.self.invariant in
    rw (← c.self.view_is) ((rw c.deref.ensures.value at c.moves_in_all.ensures)
    ∙ moves_of_rows (g.S.JobScheduler.seen a.scheduler).states a.horizon a.rows.items kept.rows)
