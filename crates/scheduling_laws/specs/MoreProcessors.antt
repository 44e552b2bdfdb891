-- Inputs of jobs of which the other has more processors, and asks for no more. A mask of the one
-- input is what its processors leave of the mask in the other input.
use Rattle.std.specs.Prelude.{◌≡◌, ℕ, ◌<◌, ◌≤◌, List, length}
use Rattle.affinity_mask.specs.ProcSet.{all_below, intersection}
use Rattle.strong_apa.specs.declared.reply.Entry.{Entry}
use Rattle.strong_apa.specs.State.{start_of, priority_of, mask_of}
use Rattle.job_release.specs.Jobs.{job_at}
use Rattle.job_release.specs.JobInput.{JobInputData, IsJobInput, jobs_at}
use Rattle.job_release.specs.Driven.{RunsJobs}
use Rattle.scheduling_laws.specs.Isolation.{IsUrgent}
use Rattle.scheduling_laws.specs.Sustained.{IsNoLonger, JobsKeepUp, JobsFinishNoLater}

-- t has the same priority in both inputs, and as many jobs; each is released at the same moment,
-- and asks for no more in the other input. Its mask there may have processors that the one input
-- lacks, and has no other one more
pub record HasMoreRoom (one other : JobInputData) (t : ℕ) : Type 0 where
  pub priority : priority_of (start_of one.set) t ≡ priority_of (start_of other.set) t
  pub mask : mask_of (start_of one.set) t
      ≡ intersection (mask_of (start_of other.set) t) (all_below one.set.processors)
  pub count : length (jobs_at one.jobs t) ≡ length (jobs_at other.jobs t)
  pub each : (k : ℕ) → k < length (jobs_at one.jobs t)
      → IsNoLonger (job_at (jobs_at one.jobs t) k) (job_at (jobs_at other.jobs t) k)

-- the other input has the same processors, or more, and the same horizon; each task of it that is
-- as urgent as the bound is a task of the one
pub record HasMoreRoomUpTo (bound : ℕ) (one other : JobInputData) : Type 0 where
  pub processors : one.set.processors ≤ other.set.processors
  pub horizon : one.horizon ≡ other.horizon
  pub urgent : (t : ℕ) → IsUrgent other bound t → IsUrgent one bound t
  pub each : (t : ℕ) → IsUrgent other bound t → HasMoreRoom one other t

-- what holds of each urgent task of the other input in histories that run the jobs of two such
-- inputs
abbrev pub HoldsWhereThereIsMoreRoom :
    ((one other : JobInputData) → List Entry → List Entry → ℕ → Type 0) → Type 0
HoldsWhereThereIsMoreRoom Law =
    (bound : ℕ) (one other : JobInputData) (history also : List Entry) (t : ℕ)
    → IsJobInput one → IsJobInput other → HasMoreRoomUpTo bound one other
    → RunsJobs one history → RunsJobs other also
    → IsUrgent other bound t → Law one other history also t

-- so it is with more processors
abbrev pub MoreProcessorsKeepUp : Type 0
MoreProcessorsKeepUp = HoldsWhereThereIsMoreRoom JobsKeepUp

abbrev pub MoreProcessorsFinishNoLater : Type 0
MoreProcessorsFinishNoLater = HoldsWhereThereIsMoreRoom JobsFinishNoLater
