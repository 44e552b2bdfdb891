use Rattle.job_release.proofs.JobsWritten.{heading_written}
use Rattle.job_release.proofs.write.write_heading.Goals as goal

pub returns : goal.returns
returns c =
    heading_written c.args.input.now _ _ _ _ _ _ c.in_ok-extend_from_slice.ensures.items
    (rw c.version.ensures.value at c.in_ok-write_number.ensures) c.in_ok-extend_from_slice-2.ensures.items
    (rw c.horizon.ensures.value at c.in_ok-write_number-2.ensures) c.in_ok-push.ensures.items
