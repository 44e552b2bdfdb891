use Rattle.std.proofs.Common.{◌≡◌, ℕ, List, ap, ◌∙◌}
use Rattle.job_release.specs.Jobs.{goal_of, due_of}
use Rattle.job_release.specs.JobInput.{jobs_at}
use Rattle.job_release.specs.declared.input.Job.{Job}
use Rattle.job_release.specs.WeakJobsText.{is_late_at}
use Rattle.job_release.proofs.Latest.{finish_within}
use Rattle.job_release.proofs.JobsWritten.{finish_is}
use Rattle.job_release.proofs.Finishes.{released_before_finish}
use Rattle.job_release.proofs.outcome.Outcome.new.Goals as goal

pub returns : goal.returns
returns g c =
    let input = c.args.input.now in
    let states = (g.S.JobScheduler.seen c.args.driven.now.scheduler).states in
    let units = goal_of (jobs_at input.jobs c.args.t) c.args.k in
    let is = rw (c.requires.driven.jobs, c.requires.driven.horizon) at c.finish-finish.ensures in
    let due : c.due-due.result ≡ due_of (jobs_at input.jobs c.args.t) c.args.k = c.due-due.ensures
    ∙ ap (λ (jobs : List Job). due_of jobs c.args.k) c.jobs.ensures.value in
    record {
      finish = finish_is states c.args.t units input.horizon c.finish-finish.result is;
      late = c.is_late.ensures states c.args.t units (rw c.horizon.ensures.value is)
          ∙ ap (λ (h : ℕ). is_late_at states c.args.t units h c.due-due.result) c.horizon.ensures.value
          ∙ ap (is_late_at states c.args.t units input.horizon) due;
      after = released_before_finish input states c.args.t c.args.k c.finish-finish.result c.jobs.ensures.valid c.requires.driven.served
          c.requires.task c.requires.job is;
      within = finish_within states c.args.t units input.horizon c.finish-finish.result is;
    }
