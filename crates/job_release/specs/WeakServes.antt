-- The jobs of an input under weak scheduling, and what the comparison of an input says. It is for
-- weak scheduling what RunsJobs is for strong scheduling.
use Rattle.std.specs.Prelude.{◌≡◌, ℕ, ◌<◌, List, All}
use Rattle.task_set.specs.declared.event.Event.{Event}
use Rattle.strong_apa.specs.declared.reply.Entry.{Entry}
use Rattle.strong_apa.specs.State.{State, start_of}
use Rattle.weak_apa.specs.Compared.{IsWeakRun}
use Rattle.weak_apa.specs.Stable.{IsWeaklyStable}
use Rattle.job_release.specs.Driven.{IsJobEvent, RunsJobs, ServesJobs}
use Rattle.job_release.specs.EventCauses.{AreAskedFor}
use Rattle.job_release.specs.JobInput.{JobInputData}
use Rattle.job_release.specs.JobRun.{HasEventsOf}
use Rattle.job_release.specs.Moments.{Timeline, state_of_moment}
use Rattle.job_release.specs.WeakJobsText.{weak_jobs_text}
use Rattle.job_release.specs.WeakRuns.{elapsed_at, state_then, AreNeededFrom}

-- the state of each moment, where these are the weak scheduler's states after each event
abbrev pub weak_timeline : JobInputData → List Event → List State → Timeline
weak_timeline input events states = state_then (start_of input.set) events states

-- the events and the weak scheduler's states after each of them run the jobs of the input: each
-- event is an arrival, a departure or a tick, the ticks sum to the horizon, each moment is weakly
-- stable, the jobs are served, and the events are those that the jobs ask for; an arrival finds its
-- task absent, and a departure finds it ready
pub record WeakServes (input : JobInputData) (events : List Event)
    (states : List State) : Type 0 where
  pub run : IsWeakRun (start_of input.set) events states
  pub each_event : All IsJobEvent events
  pub needed : AreNeededFrom (start_of input.set) events states
  pub whole : elapsed_at events ≡ input.horizon
  pub stable : (x : ℕ) → x < input.horizon → IsWeaklyStable (weak_timeline input events states x)
  pub served : ServesJobs input (weak_timeline input events states)
  pub asked : AreAskedFor input events (weak_timeline input events states)

-- the text of the jobs of the input: one run of the weak scheduler and one history of the strong
-- one run them, with the events that they ask for, and it says what each of the two makes of them
pub record IsWeakJobsTextOf (input : JobInputData) (text : List ℕ) : Type 0 where
  pub events : List Event
  pub states : List State
  pub history : List Entry
  pub weak : WeakServes input events states
  pub strong : RunsJobs input history
  pub strong_asked : HasEventsOf input history
  pub is_text : text ≡ weak_jobs_text input (weak_timeline input events states)
      (state_of_moment (start_of input.set) history)
