use Rattle.job_release.proofs.JobsWritten.{job_written}
use Rattle.job_release.proofs.write.write_job.Goals as goal

pub returns : goal.returns
returns c =
    job_written c.args.name.now c.args.k c.args.release c.args.finish _ _ _ _ _ _ _ _ _
    (rw c.as_bytes.ensures.value at c.in_ok-extend_from_slice.ensures.items) c.in_ok-push.ensures.items c.in_ok-write_number.ensures
    c.in_ok-push-2.ensures.items c.in_ok-write_number-2.ensures c.in_ok-push-3.ensures.items c.in_ok-write_response.ensures
    c.in_ok-push-4.ensures.items
