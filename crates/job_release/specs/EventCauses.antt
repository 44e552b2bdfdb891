-- Why events come, and when. A task departs exactly at the moments at which its service comes to
-- meet the demand of the jobs that were released before. It arrives exactly at the moments at which
-- a job of it is released and no earlier one is left.
use Rattle.std.specs.Prelude.{◌≡◌, ℕ, ◌-◌, ◌<◌, ◌≤◌, ◌⊎◌, ◌↔◌, Bool, true, false, zero, suc, List}
use Rattle.std.specs.Prelude.{[], ◌∷◌, length}
use Rattle.task_set.specs.declared.event.Event.{Event}
use Rattle.job_release.specs.EventOrder.{AreInOrder, event_of}
use Rattle.job_release.specs.Jobs.{demand}
use Rattle.job_release.specs.JobInput.{JobInputData, jobs_at}
use Rattle.job_release.specs.declared.input.Job.{Job}
use Rattle.job_release.specs.Moments.{Timeline, units_of, service_of}

-- the event comes at the moment x, where the first of these events is at the moment 0: so many
-- units pass in the events before it
abbrev pub ComesAt : List Event → Event → ℕ → Type 0
ComesAt [] event x = ⊥
ComesAt (first ∷ rest) event x =
    ((first ≡ event) × (x ≡ 0)) ⊎ ((units_of first ≤ x) × ComesAt rest event (x - units_of first))

-- the demand of the jobs of a task that are released before the moment x
abbrev pub earlier_demand : List Job → ℕ → ℕ
earlier_demand jobs zero = 0
earlier_demand jobs (suc y) = demand jobs y

-- at the moment x the task got all that the jobs released before ask for
abbrev pub MeetsDemand : Timeline → ℕ → List Job → ℕ → Type 0
MeetsDemand states t jobs x = service_of states t x ≡ earlier_demand jobs x

-- why the task t departs at the moment x: its service meets that demand, and did not at the moment
-- before
abbrev pub IsServedAt : Timeline → ℕ → List Job → ℕ → Type 0
IsServedAt states t jobs x =
    MeetsDemand states t jobs x × (service_of states t (x - 1) < earlier_demand jobs x)

-- why it arrives: its service meets that demand, and a job is released, since no job asks for
-- nothing
abbrev pub IsAskedAt : Timeline → ℕ → List Job → ℕ → Type 0
IsAskedAt states t jobs x = MeetsDemand states t jobs x × (earlier_demand jobs x < demand jobs x)

-- the task has a cause to become ready, or absent, at the moment x
abbrev pub HasCauseToChange : Timeline → ℕ → List Job → Bool → ℕ → Type 0
HasCauseToChange states t jobs true x = IsAskedAt states t jobs x
HasCauseToChange states t jobs false x = IsServedAt states t jobs x

-- a task becomes ready, or absent, exactly at the moments up to the horizon at which it has a cause
abbrev pub AreCaused : JobInputData → List Event → Timeline → Type 0
AreCaused input events states =
    (t x : ℕ) (flag : Bool) → t < length input.jobs → x ≤ input.horizon
    → ComesAt events (event_of t flag) x ↔ HasCauseToChange states t (jobs_at input.jobs t) flag x

-- the events are those that the jobs of the input ask for: at each moment come departures by task
-- and then arrivals by task, and each of them comes exactly where it has a cause
pub record AreAskedFor (input : JobInputData) (events : List Event)
    (states : Timeline) : Type 0 where
  pub order : AreInOrder (length input.jobs) 0 events
  pub caused : AreCaused input events states
