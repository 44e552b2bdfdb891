-- How long a job can be kept waiting. A task that is ready and not linked waits; a more urgent task
-- that shares a processor with it can interfere. While a task waits, each processor of its mask
-- runs a task that can: so it is under the strong scheduler and under the weak one.
use Rattle.std.specs.Prelude.{ℕ, ◌+◌, ◌-◌, ◌*◌, ◌<◌, ◌≤◌, Bool, ◌==◌, ◌&&◌, not, List, length}
use Rattle.std.specs.Prelude.{nat_lt, sum_by, All}
use Rattle.affinity_mask.specs.ProcSet.{empty, intersection, members, passing_below}
use Rattle.task_set.specs.TaskSet.{SetData, IsTaskSet}
use Rattle.task_set.specs.declared.event.Event.{Event}
use Rattle.strong_apa.specs.declared.reply.Entry.{Entry}
use Rattle.strong_apa.specs.State.{State, start_of, priority_of, mask_of, is_ready, is_linked}
use Rattle.strong_apa.specs.History.{IsLegal}
use Rattle.strong_apa.specs.Ranks.{tasks_of}
use Rattle.job_release.specs.Jobs.{job_at, demand, goal_of}
use Rattle.job_release.specs.JobInput.{JobInputData, IsJobInput, jobs_at}
use Rattle.job_release.specs.declared.input.Job.{Job}
use Rattle.job_release.specs.Driven.{IsJobEvent, RunsJobs}
use Rattle.job_release.specs.Moments.{Timeline, state_of_moment, service_of}
use Rattle.job_release.specs.WeakServes.{WeakServes, weak_timeline}

-- u is more urgent than t, and some processor is in both masks
abbrev pub can_interfere : State → ℕ → ℕ → Bool
can_interfere s t u =
    nat_lt (priority_of s u) (priority_of s t)
    && not (intersection (mask_of s u) (mask_of s t) == empty)

-- how many processors there are in the mask of t
abbrev pub width_of : State → ℕ → ℕ
width_of s t = length (members (mask_of s t))

-- the moments before x at which t waits
abbrev pub waiting_of : Timeline → ℕ → ℕ → ℕ
waiting_of states t x = length (passing_below (λ y. is_ready (states y) t
    && not (is_linked (states y) t)) x)

-- the interference of t: the service from one moment to another of all tasks that can interfere
-- with it
abbrev pub interference_of : State → Timeline → ℕ → ℕ → ℕ → ℕ
interference_of s states t from to =
    sum_by (λ u. service_of states u to - service_of states u from) (tasks_of s (can_interfere s t))

-- the demand of all tasks that can interfere with t, at the moment x
abbrev pub interfering_demand : JobInputData → ℕ → ℕ → ℕ
interfering_demand input t x =
    sum_by (λ u. demand (jobs_at input.jobs u) x)
    (tasks_of (start_of input.set) (can_interfere (start_of input.set) t))

-- where t waits for n moments of a window, and has w processors, its interference there is w * n at
-- least
abbrev pub WaitsForInterference : State → Timeline → ℕ → ℕ → ℕ → Type 0
WaitsForInterference s states t from to =
    width_of s t * (waiting_of states t to - waiting_of states t from)
    ≤ interference_of s states t from to

-- job k of t
abbrev pub job_of : JobInputData → ℕ → ℕ → Job
job_of input t k = job_at (jobs_at input.jobs t) k

-- the units that job k of t, and those before it, lack at the moment x
abbrev pub left_of : JobInputData → Timeline → ℕ → ℕ → ℕ → ℕ
left_of input states t k x = goal_of (jobs_at input.jobs t) k - service_of states t x

-- job k of t is finished by the moment x
abbrev pub IsDone : JobInputData → Timeline → ℕ → ℕ → ℕ → Type 0
IsDone input states t k x = goal_of (jobs_at input.jobs t) k ≤ service_of states t x

-- a window of so many moments for job k of t, which is released when it begins; it ends by the
-- horizon
pub record IsWindowFor (input : JobInputData) (t k from span : ℕ) : Type 0 where
  pub task : t < length input.jobs
  pub job : k < length (jobs_at input.jobs t)
  pub released : (job_of input t k).release ≤ from
  pub within : from + span ≤ input.horizon

-- in a window of n moments, w processors give a job what it lacks, where its interference there is
-- less than w * (n + 1 - what it lacks)
abbrev pub LittleInterferenceSuffices : JobInputData → Timeline → Type 0
LittleInterferenceSuffices input states = (t k from span : ℕ) → IsWindowFor input t k from span
    → interference_of (start_of input.set) states t from (from + span)
    < width_of (start_of input.set) t * (span + 1 - left_of input states t k from)
    → IsDone input states t k (from + span)

-- the test on the input alone: so it is where the job lacks its own cost at most, and the demand of
-- all tasks that can interfere is by the last moment of the window less than w * (n + 1 - cost)
abbrev pub SmallDemandSuffices : JobInputData → Timeline → Type 0
SmallDemandSuffices input states = (t k from span : ℕ) → IsWindowFor input t k from span
    → left_of input states t k from ≤ (job_of input t k).cost
    → interfering_demand input t (from + span - 1)
    < width_of (start_of input.set) t * (span + 1 - (job_of input t k).cost)
    → IsDone input states t k (from + span)

-- what holds where the strong scheduler runs the jobs of an input
abbrev pub HoldsOfStrongRuns : (JobInputData → Timeline → Type 0) → Type 0
HoldsOfStrongRuns Law = (input : JobInputData) (history : List Entry)
    → IsJobInput input → RunsJobs input history
    → Law input (state_of_moment (start_of input.set) history)

-- and where the weak scheduler does
abbrev pub HoldsOfWeakRuns : (JobInputData → Timeline → Type 0) → Type 0
HoldsOfWeakRuns Law = (input : JobInputData) (events : List Event) (states : List State)
    → IsJobInput input → WeakServes input events states
    → Law input (weak_timeline input events states)

-- in every legal history of arrivals, departures and ticks a task waits for interference alone
abbrev pub WaitingIsInterference : Type 0
WaitingIsInterference = (set : SetData) (history : List Entry) (t from span : ℕ)
    → IsTaskSet set → IsLegal set history → All (λ (entry : Entry). IsJobEvent entry.event) history
    → WaitsForInterference (start_of set) (state_of_moment (start_of set) history) t from
    (from + span)

-- so it does under the weak scheduler, up to the horizon
abbrev pub WeakWaitingIsInterference : Type 0
WeakWaitingIsInterference = HoldsOfWeakRuns (λ input states. (t from span : ℕ)
    → from + span ≤ input.horizon
    → WaitsForInterference (start_of input.set) states t from (from + span))

-- where there is little interference, a job is in time
abbrev pub LittleInterferenceIsInTime : Type 0
LittleInterferenceIsInTime = HoldsOfStrongRuns LittleInterferenceSuffices

-- where there is little demand it is, too
abbrev pub SmallDemandIsInTime : Type 0
SmallDemandIsInTime = HoldsOfStrongRuns SmallDemandSuffices

-- both tests are sound under the weak scheduler
abbrev pub WeakLittleInterferenceIsInTime : Type 0
WeakLittleInterferenceIsInTime = HoldsOfWeakRuns LittleInterferenceSuffices

-- the one on demand too
abbrev pub WeakSmallDemandIsInTime : Type 0
WeakSmallDemandIsInTime = HoldsOfWeakRuns SmallDemandSuffices
