use Rattle.job_release.proofs.Seen.{departs, on_ok}
use Rattle.job_release.proofs.weak_history.WeakHistoryJobScheduler.depart.Goals as goal

pub returns : goal.returns
returns c = on_ok c.enter.result (departs c.args.self.now c.enter.new.self c.args.t c.enter.ensures.valid_before c.requires.number)
    c.enter.ensures.continues
