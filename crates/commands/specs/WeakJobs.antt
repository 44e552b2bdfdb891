-- From the bytes of an input of jobs to those that compare its jobs under both schedulers.
use Rattle.std.specs.Prelude.{ℕ, List}
use Rattle.job_release.specs.JobInput.{JobInputData}
use Rattle.job_release.specs.JobText.{IsJobText}
use Rattle.job_release.specs.WeakServes.{IsWeakJobsTextOf}

-- the bytes read are the text of an input, and the bytes written say what one run of the weak
-- scheduler and one history of the strong one make of its jobs
pub record IsWeakJobsOf (read put : List ℕ) : Type 0 where
  pub input : JobInputData
  pub is_text : IsJobText read input
  pub compared : IsWeakJobsTextOf input put
