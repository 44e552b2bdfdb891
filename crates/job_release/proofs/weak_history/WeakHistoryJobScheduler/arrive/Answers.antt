use Rattle.job_release.proofs.Seen.{arrives, on_ok}
use Rattle.job_release.proofs.weak_history.WeakHistoryJobScheduler.arrive.Goals as goal

pub returns : goal.returns
returns c = on_ok c.enter.result (arrives c.args.self.now c.enter.new.self c.args.t c.enter.ensures.valid_before c.requires.number)
    c.enter.ensures.continues
