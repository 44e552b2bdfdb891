-- What a driver made of the jobs with the weak scheduler and with the strong one.
use Rattle.std.proofs.Common.{◌≡◌, ℕ, suc, ◌-◌, nat_lt, List, [], ◌∷◌, map, All, refl, sym, ap, ◌∙◌, subst, inl, inr, arith}
use Rattle.std.proofs.lemmas.Bool.{cases_Bool}
use Rattle.task_set.specs.declared.event.Event.{Event}
use Rattle.strong_apa.specs.declared.reply.Entry.{Entry}
use Rattle.strong_apa.specs.State.{State, start_of}
use Rattle.weak_apa.specs.Compared.{IsWeakRun}
use Rattle.weak_apa.specs.Stable.{IsWeaklyStable}
use Rattle.sched_core.specs.CoreData.{CoreData}
use Rattle.job_release.specs.Driven.{RunsJobs, ServesJobs}
use Rattle.job_release.specs.EventCauses.{AreAskedFor}
use Rattle.job_release.specs.JobInput.{JobInputData}
use Rattle.job_release.specs.JobRun.{DrivenData, JobRunData, IsDrivenOf, IsJobRunOf}
use Rattle.job_release.specs.Moments.{state_of_moment, units_of}
use Rattle.job_release.specs.Strong.{strong_seen}
use Rattle.task_set.specs.TaskSet.{SetData}
use Rattle.job_release.specs.Scheduler.{IsNewFor}
use Rattle.job_release.specs.WeakHistory.{begun_with, WeakHistoryData, IsWeakHistory, weak_seen}
use Rattle.job_release.specs.WeakJobsText.{weak_jobs_text}
use Rattle.job_release.specs.WeakRuns.{state_then, AreNeededFrom}
use Rattle.job_release.specs.WeakServes.{WeakServes, IsWeakJobsTextOf, weak_timeline}

-- ---- the weak one
-- each moment is in one of the states
then_stable : (s : State) (events : List Event) (states : List State) (x : ℕ) → IsWeaklyStable s → All IsWeaklyStable states
    → IsWeaklyStable (state_then s events states x)
then_stable s [] states x stable each = stable
then_stable s (event ∷ events) [] x stable each = stable
then_stable s (event ∷ events) (after ∷ states) x stable each = elim (cases_Bool (nat_lt x (units_of event))) [
  | inl here ↦ rw here stable
  | inr later ↦ rw later (then_stable after events states (x - units_of event) (each 0 after (omega arith))
      (λ k d below. each (suc k) d (omega arith)))
]

pub weak_serves : (input : JobInputData) (driven : DrivenData WeakHistoryData) → IsDrivenOf weak_seen input driven
    → IsWeakHistory driven.scheduler → WeakServes input driven.scheduler.events driven.scheduler.states
weak_serves input driven is valid =
    let history = driven.scheduler in
    record {
      run = subst (λ (s : State). IsWeakRun s history.events history.states) is.start valid.run;
      each_event = valid.each_event;
      needed = subst (λ (s : State). AreNeededFrom s history.events history.states) is.start valid.needed;
      whole = is.whole;
      stable = λ x below. then_stable (start_of input.set) history.events history.states x
          (subst IsWeaklyStable is.start valid.stable_first) valid.stable;
      served = subst (λ (s : State). ServesJobs input (state_then s history.events history.states)) is.start is.served;
      asked = subst (λ (s : State). AreAskedFor input history.events (state_then s history.events history.states)) is.start is.asked;
    }

-- ---- the strong one
pub strong_driven : (input : JobInputData) (run : JobRunData) → IsJobRunOf input run
    → IsDrivenOf strong_seen input (record { horizon = run.horizon; jobs = run.jobs; scheduler = run.core })
strong_driven input run is = record {
  horizon = is.of_input.horizon;
  jobs = is.of_input.jobs;
  start = is.of_input.start;
  whole = is.runs.whole;
  served = subst (λ (s : State). ServesJobs input (state_of_moment s run.core.history)) (sym is.of_input.start) is.runs.served;
  asked = subst (λ (s : State). AreAskedFor input (map (λ (entry : Entry). entry.event) run.core.history)
      (state_of_moment s run.core.history)) (sym is.of_input.start) is.asked;
}

-- ---- both
pub text_of_both : (input : JobInputData) (weak : DrivenData WeakHistoryData) (strong : DrivenData CoreData) (text : List ℕ)
    → IsDrivenOf weak_seen input weak → IsWeakHistory weak.scheduler
    → IsDrivenOf strong_seen input strong → RunsJobs input strong.scheduler.history
    → text ≡ weak_jobs_text input (weak_seen weak.scheduler).states (strong_seen strong.scheduler).states → IsWeakJobsTextOf input text
text_of_both input weak strong text weak_is valid strong_is runs is = record {
  events = weak.scheduler.events;
  states = weak.scheduler.states;
  history = strong.scheduler.history;
  weak = weak_serves input weak weak_is valid;
  strong = runs;
  strong_asked = subst (λ (s : State). AreAskedFor input (map (λ (entry : Entry). entry.event) strong.scheduler.history)
      (state_of_moment s strong.scheduler.history)) strong_is.start strong_is.asked;
  is_text = is ∙ ap (λ (s : State). weak_jobs_text input (state_then s weak.scheduler.events weak.scheduler.states)
      (strong_seen strong.scheduler).states) weak_is.start
      ∙ ap (λ (s : State). weak_jobs_text input (weak_timeline input weak.scheduler.events weak.scheduler.states)
      (state_of_moment s strong.scheduler.history)) strong_is.start;
}

pub new_weak : (set : SetData) (scheduler : WeakHistoryData) → scheduler ≡ begun_with set → IsNewFor set (weak_seen scheduler)
new_weak set scheduler is = rw is (record { start = refl; now = refl; elapsed = refl; events = refl; room = omega arith })
