use Rattle.std.proofs.Common.{refl}
use Rattle.job_release.specs.WeakJobsText.{row_of_task}
use Rattle.job_release.proofs.JobsWritten.{pieces_more}
use Rattle.job_release.proofs.comparison.write_tasks.Goals as goal

pub loop-t-preserved : goal.loop-t-preserved
loop-t-preserved g c = record {
  end = c.loop-t.invariant.end;
  written = pieces_more (row_of_task c.args.input.now (g.W.JobScheduler.seen c.args.weak.now.scheduler).states
      (g.S.JobScheduler.seen c.args.strong.now.scheduler).states) c.loop-t.t c.args.text.now.items _ _ _
      c.loop-t.invariant.written (c.in_ok-write_task.ensures _ _ _ _ c.new-weak_figures.ensures.summary
      c.new-strong_figures.ensures.summary) refl;
}
