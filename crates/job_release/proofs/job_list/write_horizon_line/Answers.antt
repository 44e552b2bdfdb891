use Rattle.job_release.proofs.JobListWritten.{horizon_written}
use Rattle.job_release.proofs.job_list.write_horizon_line.Goals as goal

pub returns : goal.returns
returns c =
    horizon_written c.args.horizon _ _ _ _ c.in_ok-extend_from_slice.ensures.items c.in_ok-write_number.ensures c.in_ok-push.ensures.items
