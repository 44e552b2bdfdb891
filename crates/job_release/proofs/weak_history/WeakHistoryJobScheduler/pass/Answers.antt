use Rattle.job_release.proofs.Seen.{passes, on_ok}
use Rattle.job_release.proofs.weak_history.WeakHistoryJobScheduler.pass.Goals as goal

pub returns : goal.returns
returns c =
    on_ok c.enter.result (passes c.args.self.now c.enter.new.self c.args.units c.enter.ensures.valid_before) c.enter.ensures.continues
