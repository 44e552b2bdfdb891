use Rattle.job_release.proofs.ComparisonWritten.{heading_written}
use Rattle.job_release.proofs.comparison.heading.Goals as goal

pub returns : goal.returns
returns c =
    heading_written c.args.input.now.version c.args.input.now.horizon c.args.weak c.args.strong _ _ _ _ _ _ _ _ c.new-text.ensures.items
    (rw c.version.ensures.value at c.in_ok-write_worded.ensures)
    c.in_ok-push.ensures.items (rw c.horizon.ensures.value at c.in_ok-write_worded-2.ensures)
    c.in_ok-push-2.ensures.items c.in_ok-write_worded-3.ensures c.in_ok-write_worded-4.ensures c.in_ok-push-3.ensures.items
