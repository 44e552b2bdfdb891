-- Laws of schedulers that serve the jobs of an input, and of the histories that run them. They rest
-- on nothing but the definitions that they name.
use Rattle.std.specs.Prelude.{◌≡◌, ℕ, ◌+◌, ◌<◌, ◌≤◌, List, length}
use Rattle.task_set.specs.declared.event.Event.{Event}
use Rattle.strong_apa.specs.declared.reply.Entry.{Entry}
use Rattle.strong_apa.specs.State.{State, start_of}
use Rattle.job_release.specs.Jobs.{job_at, goal_of}
use Rattle.job_release.specs.JobInput.{JobInputData, IsJobInput, jobs_at}
use Rattle.job_release.specs.declared.input.Job.{Job}
use Rattle.job_release.specs.Driven.{RunsJobs, ServesJobs}
use Rattle.job_release.specs.JobRun.{HasEventsOf}
use Rattle.job_release.specs.JobsText.{jobs_text}
use Rattle.job_release.specs.Moments.{Timeline, state_of_moment, service_of, IsFinish}
use Rattle.job_release.specs.WeakServes.{WeakServes, IsWeakJobsTextOf, weak_timeline}

-- a job that is finished was released at least its cost before, where only ready tasks are linked
abbrev pub FinishFollowsRelease : Type 0
FinishFollowsRelease =
    (input : JobInputData) (states : Timeline) (t k x : ℕ)
    → IsJobInput input → ServesJobs input states → t < length input.jobs
    → k < length (jobs_at input.jobs t)
    → IsFinish states t (goal_of (jobs_at input.jobs t) k) input.horizon x
    → (job_at (jobs_at input.jobs t) k).release + (job_at (jobs_at input.jobs t) k).cost ≤ x

-- at the finish of a job its task got exactly the units that this job and those before it ask for
abbrev pub FinishedJobsRanTheirCosts : Type 0
FinishedJobsRanTheirCosts =
    (states : Timeline) (t k horizon x : ℕ) (jobs : List Job)
    → IsFinish states t (goal_of jobs k) horizon x → service_of states t x ≡ goal_of jobs k

-- from there to the finish of the next job it got exactly the units of that one
abbrev pub NextJobRanItsCost : Type 0
NextJobRanItsCost =
    (states : Timeline) (t k horizon x y : ℕ) (jobs : List Job)
    → k + 1 < length jobs → IsFinish states t (goal_of jobs k) horizon x
    → IsFinish states t (goal_of jobs (k + 1)) horizon y
    → service_of states t y ≡ service_of states t x + (job_at jobs (k + 1)).cost

-- histories that run the jobs of an input give each task the same service before each moment up to
-- the horizon
abbrev pub InputHasOneService : Type 0
InputHasOneService =
    (input : JobInputData) (one other : List Entry) (t x : ℕ)
    → IsJobInput input → RunsJobs input one → RunsJobs input other → t < length input.jobs
    → x ≤ input.horizon
    → service_of (state_of_moment (start_of input.set) one) t x
    ≡ service_of (state_of_moment (start_of input.set) other) t x

-- and they have one text
abbrev pub InputHasOneText : Type 0
InputHasOneText =
    (input : JobInputData) (one other : List Entry)
    → IsJobInput input → RunsJobs input one → RunsJobs input other
    → jobs_text input one ≡ jobs_text input other

-- with the events that the jobs ask for they have the same state at each moment: neither these nor
-- their order are left open
abbrev pub InputHasOneTimeline : Type 0
InputHasOneTimeline =
    (input : JobInputData) (one other : List Entry) (x : ℕ)
    → IsJobInput input → RunsJobs input one → HasEventsOf input one → RunsJobs input other
    → HasEventsOf input other
    → state_of_moment (start_of input.set) one x ≡ state_of_moment (start_of input.set) other x

-- ---- under weak scheduling
-- runs of the weak scheduler with the jobs of an input have the same state at each moment
abbrev pub InputHasOneWeakTimeline : Type 0
InputHasOneWeakTimeline =
    (input : JobInputData) (events others : List Event) (states after : List State) (x : ℕ)
    → IsJobInput input → WeakServes input events states → WeakServes input others after
    → weak_timeline input events states x ≡ weak_timeline input others after x

-- the comparison of an input is one text
abbrev pub WeakJobsTextIsUnique : Type 0
WeakJobsTextIsUnique =
    (input : JobInputData) (text other : List ℕ)
    → IsJobInput input → IsWeakJobsTextOf input text → IsWeakJobsTextOf input other → text ≡ other
