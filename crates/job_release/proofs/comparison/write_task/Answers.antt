use Rattle.std.proofs.Common.{length}
use Rattle.text_fields.specs.EventText.{name_of}
use Rattle.job_release.specs.JobInput.{jobs_at}
use Rattle.job_release.specs.WeakJobsText.{figures_text}
use Rattle.job_release.proofs.ComparisonWritten.{task_written}
use Rattle.job_release.proofs.comparison.write_task.Goals as goal

pub returns : goal.returns
returns c = λ list other late too weak strong.
    let input = c.args.input.now in
    task_written (name_of input.set c.args.t) (length (jobs_at input.jobs c.args.t)) (figures_text list late) (figures_text other too)
    _ _ _ _ _ _ _ _ _ c.in_ok-extend_from_slice.ensures.items
    (rw c.set.ensures.value at c.in_ok-write_name.ensures) (rw c.jobs.ensures.value at c.in_ok-write_worded.ensures)
    c.in_ok-extend_from_slice-2.ensures.items (c.in_ok-write.ensures list late weak)
    c.in_ok-extend_from_slice-3.ensures.items (c.in_ok-write-2.ensures other too strong) c.in_ok-push.ensures.items
