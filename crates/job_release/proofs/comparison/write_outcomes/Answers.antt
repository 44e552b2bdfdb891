use Rattle.job_release.specs.WeakJobsText.{mark_text}
use Rattle.job_release.proofs.ComparisonWritten.{outcomes_written}
use Rattle.job_release.proofs.comparison.write_outcomes.Goals as goal

pub returns : goal.returns
returns c =
    outcomes_written c.args.weak.finish c.args.strong.finish (mark_text c.args.weak.is_late c.args.strong.is_late)
    _ _ _ _ _ _ _ _ c.in_ok-push.ensures.items c.in_ok-write_finish.ensures c.in_ok-push-2.ensures.items
    c.in_ok-write_finish-2.ensures c.in_ok-push-3.ensures.items
    (rw (c.as_bytes.ensures.value, c.mark.ensures) at c.in_ok-extend_from_slice.ensures.items) c.in_ok-push-4.ensures.items
