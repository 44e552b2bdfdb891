-- Inputs of jobs that differ in the mask of one task, which has more processors in the other input,
-- up to that task: the less urgent ones may have nothing in common.
use Rattle.std.specs.Prelude.{◌≡◌, ◌≢◌, ℕ, ◌<◌, ◌↔◌, List, length}
use Rattle.affinity_mask.specs.ProcSet.{Within}
use Rattle.strong_apa.specs.declared.reply.Entry.{Entry}
use Rattle.strong_apa.specs.State.{start_of, priority_of, mask_of}
use Rattle.job_release.specs.JobInput.{JobInputData, IsJobInput, jobs_at}
use Rattle.job_release.specs.Driven.{RunsJobs}
use Rattle.scheduling_laws.specs.Isolation.{IsUrgent, IsSameTask}
use Rattle.scheduling_laws.specs.Sustained.{JobsKeepUp, JobsFinishNoLater}

-- t is a task of the one input, and u is as urgent, or more
abbrev pub IsAsUrgentAs : JobInputData → ℕ → ℕ → Type 0
IsAsUrgentAs one t u = IsUrgent one (priority_of (start_of one.set) t) u

-- the inputs agree on the tasks up to t, but for its mask, which is wider in the other input
pub record HasWiderMask (t : ℕ) (one other : JobInputData) : Type 0 where
  pub processors : one.set.processors ≡ other.set.processors
  pub horizon : one.horizon ≡ other.horizon
  pub task : t < length one.jobs
  pub urgent : (u : ℕ) → IsAsUrgentAs one t u ↔ IsUrgent other (priority_of (start_of one.set) t) u
  pub same : (u : ℕ) → IsAsUrgentAs one t u → u ≢ t → IsSameTask one other u
  pub priority : priority_of (start_of one.set) t ≡ priority_of (start_of other.set) t
  pub jobs : jobs_at one.jobs t ≡ jobs_at other.jobs t
  pub wider : Within (mask_of (start_of one.set) t) (mask_of (start_of other.set) t)

-- what holds of each task up to t in histories that run the jobs of two such inputs
abbrev pub HoldsWhereAMaskIsWider :
    ((one other : JobInputData) → List Entry → List Entry → ℕ → Type 0) → Type 0
HoldsWhereAMaskIsWider Law = (t : ℕ) (one other : JobInputData) (history also : List Entry) (u : ℕ)
    → IsJobInput one → IsJobInput other → HasWiderMask t one other
    → RunsJobs one history → RunsJobs other also
    → IsAsUrgentAs one t u → Law one other history also u

-- so it is of each task up to t with a wider mask of t
abbrev pub WiderMaskKeepsUp : Type 0
WiderMaskKeepsUp = HoldsWhereAMaskIsWider JobsKeepUp

abbrev pub WiderMaskFinishesNoLater : Type 0
WiderMaskFinishesNoLater = HoldsWhereAMaskIsWider JobsFinishNoLater
