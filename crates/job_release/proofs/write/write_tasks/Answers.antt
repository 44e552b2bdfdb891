use Rattle.std.proofs.Common.{refl}
use Rattle.strong_apa.specs.State.{start_of}
use Rattle.job_release.specs.JobsText.{lines_of_task}
use Rattle.job_release.specs.Moments.{state_of_moment}
use Rattle.job_release.proofs.JobsWritten.{pieces_more}
use Rattle.job_release.proofs.write.write_tasks.Goals as goal

pub loop-t-preserved : goal.loop-t-preserved
loop-t-preserved c = record {
  end = c.loop-t.invariant.end;
  written = pieces_more (lines_of_task c.args.input.now (state_of_moment (start_of c.args.input.now.set) c.args.run.now.core.history))
      c.loop-t.t c.args.text.now.items _ _ _ c.loop-t.invariant.written
      c.in_ok-write_task.ensures refl;
}
