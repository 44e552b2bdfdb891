-- What jobs get of a scheduler. Some ready tasks are linked at each moment: nothing more is said of
-- the scheduler here. At each moment below the horizon a task is ready exactly where its released
-- jobs ask for more than the service it got, and it never gets more.
use Rattle.std.specs.Prelude.{◌≡◌, ℕ, ◌<◌, ◌≤◌, ◌↔◌, true, List, length, All}
use Rattle.task_set.specs.declared.event.Event.{Event}
use Rattle.task_set.specs.declared.event.Event.TheVariants.{Arrive, Depart, Tick}
use Rattle.strong_apa.specs.declared.reply.Entry.{Entry}
use Rattle.strong_apa.specs.State.{State, start_of, is_ready, is_linked}
use Rattle.strong_apa.specs.History.{IsLegal}
use Rattle.strong_apa.specs.Placement.{IsBest}
use Rattle.job_release.specs.Jobs.{demand}
use Rattle.job_release.specs.JobInput.{JobInputData, jobs_at}
use Rattle.job_release.specs.declared.input.Job.{Job}
use Rattle.job_release.specs.Moments.{Timeline, elapsed, state_of_moment, service_of}

-- an arrival, a departure or a tick
abbrev pub IsJobEvent : Event → Type 0
IsJobEvent (Arrive t) = Unit {0}
IsJobEvent (Depart t) = Unit {0}
IsJobEvent (Tick units) = Unit {0}
IsJobEvent _ = ⊥

-- at the moment x the task is ready exactly where its released jobs ask for more than it got
abbrev pub IsReadyWhileWorkIsLeft : Timeline → ℕ → List Job → ℕ → Type 0
IsReadyWhileWorkIsLeft states t jobs x =
    (is_ready (states x) t ≡ true) ↔ (service_of states t x < demand jobs x)

-- at the moment x the task got no more than its released jobs ask for
abbrev pub GetsNoMore : Timeline → ℕ → List Job → ℕ → Type 0
GetsNoMore states t jobs x = service_of states t x ≤ demand jobs x

-- at the moment x the task is linked only where it is ready
abbrev pub RunsOnlyReady : Timeline → ℕ → ℕ → Type 0
RunsOnlyReady states t x = is_linked (states x) t ≡ true → is_ready (states x) t ≡ true

-- the jobs of the input are served by what is linked at each moment up to the horizon
pub record ServesJobs (input : JobInputData) (states : Timeline) : Type 0 where
  pub ready : (t x : ℕ) → t < length input.jobs → x < input.horizon
      → IsReadyWhileWorkIsLeft states t (jobs_at input.jobs t) x
  pub no_more : (t x : ℕ) → t < length input.jobs → x < input.horizon
      → GetsNoMore states t (jobs_at input.jobs t) x
  pub only_ready : (t x : ℕ) → t < length input.jobs → x < input.horizon → RunsOnlyReady states t x

-- the linked tasks of a state are the best set of its ready tasks
abbrev pub RunsTheBest : State → Type 0
RunsTheBest s = IsBest s (is_ready s) (is_linked s)

-- the history runs the jobs of the input under strong scheduling: each entry is an arrival, a
-- departure or a tick, the ticks sum to the horizon, the jobs are served, and the linked tasks are
-- at each moment the best set of the ready ones
pub record RunsJobs (input : JobInputData) (history : List Entry) : Type 0 where
  pub legal : IsLegal input.set history
  pub events : All (λ (entry : Entry). IsJobEvent entry.event) history
  pub whole : elapsed history ≡ input.horizon
  pub best : (x : ℕ) → x < input.horizon
      → RunsTheBest (state_of_moment (start_of input.set) history x)
  pub served : ServesJobs input (state_of_moment (start_of input.set) history)
