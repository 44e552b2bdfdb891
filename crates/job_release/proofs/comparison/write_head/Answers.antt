use Rattle.text_fields.specs.EventText.{name_of}
use Rattle.job_release.specs.Jobs.{job_at}
use Rattle.job_release.specs.JobInput.{jobs_at}
use Rattle.job_release.proofs.ComparisonWritten.{head_written}
use Rattle.job_release.proofs.comparison.write_head.Goals as goal

pub returns : goal.returns
returns c =
    let input = c.args.input.now in
    head_written (name_of input.set c.args.t) c.args.k (job_at (jobs_at input.jobs c.args.t) c.args.k).release _ _ _ _ _ _ _
    c.in_ok-extend_from_slice.ensures.items
    (rw c.set.ensures.value at c.in_ok-write_name.ensures) c.in_ok-push.ensures.items c.in_ok-write_number.ensures
    c.in_ok-push-2.ensures.items (rw c.jobs.ensures.value at c.in_ok-write_number-2.ensures)
