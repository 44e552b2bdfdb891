use Rattle.std.proofs.Common.{◌≡◌, ◌≤◌, ℕ, IfSome, refl, sym, subst}
use Rattle.strong_apa.specs.State.{start_of}
use Rattle.text_fields.specs.EventText.{name_of}
use Rattle.text_fields.proofs.NamedTasks.{named_task}
use Rattle.job_release.specs.Jobs.{no_job, goal_of}
use Rattle.job_release.specs.JobInput.{jobs_at}
use Rattle.job_release.specs.JobsText.{line_of_job, finish_of}
use Rattle.job_release.specs.Moments.{state_of_moment}
use Rattle.job_release.proofs.Finishes.{released_before_finish}
use Rattle.job_release.proofs.JobsWritten.{pieces_more, finish_is, job_read, inside}
use Rattle.job_release.proofs.write.write_task.Goals as goal

pub loop-k-preserved : goal.loop-k-preserved
loop-k-preserved c =
    let input = c.args.input.now in
    let of_input = c.requires.run.of_input in
    let states = state_of_moment (start_of input.set) c.args.run.now.core.history in
    let jobs = jobs_at input.jobs c.args.t in
    let k = c.loop-k.k in
    let name : c.name.result.now ≡ name_of input.set c.args.t = (named_task input.set c.args.t c.name.result.now
    (rw c.set.ensures.value at c.name.ensures)).1 in
    let release = job_read jobs c.jobs-jobs.result.now k no_job c.jobs-jobs.ensures.value c.loop-k-test.true in
    let finish : c.finish-finish.result ≡ finish_of states c.args.t (goal_of jobs k) input.horizon =
    finish_is states c.args.t (goal_of jobs k) input.horizon c.finish-finish.result
    (rw (of_input.start, of_input.jobs, of_input.horizon) at c.finish-finish.ensures) in
    record {
      end = c.loop-k.invariant.end;
      written = pieces_more (line_of_job input states c.args.t) k c.args.text.now.items _ _ _ c.loop-k.invariant.written
          c.in_ok-write_job.ensures (rw (name, release, finish) refl);
    }

pub write_job-requires : goal.write_job-requires
write_job-requires c =
    let input = c.args.input.now in
    let of_input = c.requires.run.of_input in
    let states = state_of_moment (start_of input.set) c.args.run.now.core.history in
    let jobs = jobs_at input.jobs c.args.t in
    let k = c.loop-k.k in
    let release = job_read jobs c.jobs-jobs.result.now k no_job c.jobs-jobs.ensures.value c.loop-k-test.true in
    let P : ℕ → Type 0 = λ moment. IfSome c.finish-finish.result (λ x. moment ≤ x) in
    subst P (sym release)
    (released_before_finish input states c.args.t k c.finish-finish.result c.jobs-jobs.ensures.valid c.requires.run.runs.served
    c.requires.task
    (inside jobs c.jobs-jobs.result.now k c.jobs-jobs.ensures.value c.loop-k-test.true)
    (rw (of_input.start, of_input.jobs, of_input.horizon) at c.finish-finish.ensures))
