use Rattle.job_release.proofs.JobListWritten.{listed_job_written}
use Rattle.job_release.proofs.job_list.write_job_line.Goals as goal

pub returns : goal.returns
returns c =
    listed_job_written c.args.set.now c.args.job _ _ _ _ _ _ _ _ c.in_ok-extend_from_slice.ensures.items c.in_ok-write_name.ensures
    c.in_ok-push.ensures.items
    c.in_ok-write_number.ensures c.in_ok-push-2.ensures.items c.in_ok-write_number-2.ensures c.in_ok-push-3.ensures.items
