use Rattle.job_release.proofs.JobListWritten.{list_written}
use Rattle.job_release.proofs.job_list.write_job_list.Goals as goal

pub returns : goal.returns
returns c =
    list_written c.args.set.now c.args.horizon c.args.jobs.now _ _ _ _ _ _ _ c.new-text.ensures.items
    c.in_ok-extend_from_slice.ensures.items c.in_ok-write_processors_line.ensures
    c.in_ok-write_horizon_line.ensures c.in_ok-write_task_lines.ensures.written c.in_ok-write_job_lines.ensures
    c.in_ok-extend_from_slice-2.ensures.items
