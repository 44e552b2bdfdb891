-- The two most urgent tasks of an input under the strong scheduler and under the weak one.
use Rattle.std.specs.Prelude.{◌≡◌, ℕ, ◌<◌, ◌≤◌, List, length}
use Rattle.task_set.specs.declared.event.Event.{Event}
use Rattle.strong_apa.specs.declared.reply.Entry.{Entry}
use Rattle.strong_apa.specs.State.{State, start_of, task_count, IsMoreUrgent}
use Rattle.job_release.specs.Jobs.{goal_of}
use Rattle.job_release.specs.JobInput.{JobInputData, IsJobInput, jobs_at}
use Rattle.job_release.specs.Driven.{RunsJobs}
use Rattle.job_release.specs.Moments.{Timeline, state_of_moment, service_of, IsFinish}
use Rattle.job_release.specs.WeakServes.{WeakServes, weak_timeline}

-- t is the most urgent task, or the second one: at most one is more urgent
abbrev pub IsOfTopTwo : State → ℕ → Type 0
IsOfTopTwo s t = (u v : ℕ) → u < task_count s → v < task_count s
    → IsMoreUrgent s u t → IsMoreUrgent s v t → u ≡ v

-- what holds of each of the two where the weak scheduler runs the jobs of an input, and the strong
-- one runs them
abbrev pub HoldsOfTopTwo : ((input : JobInputData) (weak strong : Timeline) → ℕ → Type 0) → Type 0
HoldsOfTopTwo Law =
    (input : JobInputData) (events : List Event) (states : List State) (history : List Entry)
    (t : ℕ)
    → IsJobInput input → WeakServes input events states → RunsJobs input history
    → t < length input.jobs → IsOfTopTwo (start_of input.set) t
    → Law input (weak_timeline input events states) (state_of_moment (start_of input.set) history) t

-- before each moment each of the two got no less under the strong scheduler
abbrev pub TopTwoGetNoLess : Type 0
TopTwoGetNoLess = HoldsOfTopTwo (λ input weak strong t. (x : ℕ) → x ≤ input.horizon
    → service_of weak t x ≤ service_of strong t x)

-- and no job of theirs is finished later
abbrev pub TopTwoFinishNoLater : Type 0
TopTwoFinishNoLater = HoldsOfTopTwo (λ input weak strong t. (k x : ℕ)
    → IsFinish weak t (goal_of (jobs_at input.jobs t) k) input.horizon x
    → (y : ℕ) × (y ≤ x) × IsFinish strong t (goal_of (jobs_at input.jobs t) k) input.horizon y)
