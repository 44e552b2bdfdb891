use Rattle.std.proofs.Common.{refl}
use Rattle.text_fields.specs.EventText.{name_of}
use Rattle.job_release.specs.Jobs.{job_at}
use Rattle.job_release.specs.JobInput.{jobs_at}
use Rattle.job_release.specs.WeakJobsText.{row_of_job, job_head}
use Rattle.job_release.proofs.JobsWritten.{pieces_more}
use Rattle.job_release.proofs.ComparisonWritten.{row_written}
use Rattle.job_release.proofs.comparison.write_rows.Goals as goal

pub loop-k-preserved : goal.loop-k-preserved
loop-k-preserved g c =
    let input = c.args.input.now in
    let weak = c.new-weak_outcome.ensures in
    let strong = c.new-strong_outcome.ensures in
    record {
      end = c.loop-k.invariant.end;
      written = pieces_more (row_of_job input (g.W.JobScheduler.seen c.args.weak.now.scheduler).states
          (g.S.JobScheduler.seen c.args.strong.now.scheduler).states c.args.t)
          c.loop-k.k c.args.text.now.items _ _ _ c.loop-k.invariant.written
          (row_written (job_head (name_of input.set c.args.t) c.loop-k.k (job_at (jobs_at input.jobs c.args.t) c.loop-k.k).release)
          _ _ _ _ c.in_ok-write_head.ensures c.in_ok-write_outcomes.ensures)
          (rw (weak.finish, strong.finish, weak.late, strong.late) refl);
    }
