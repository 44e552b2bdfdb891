use Rattle.job_release.proofs.JobsWritten.{text_written}
use Rattle.job_release.proofs.write.write_jobs.Goals as goal

pub returns : goal.returns
returns c =
    text_written c.args.input.now c.args.run.now.core.history _ _ _ _ c.new-text.ensures.items c.in_ok-write_heading.ensures
    c.in_ok-write_tasks.ensures c.in_ok-extend_from_slice.ensures.items
