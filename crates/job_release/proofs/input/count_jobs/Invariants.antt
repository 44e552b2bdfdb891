use Rattle.std.proofs.Common.{◌≡◌, take}
use Rattle.job_release.specs.JobInput.{lists_of, total_jobs}
use Rattle.job_release.proofs.input.count_jobs.Given as goal

abbrev pub invariant-loop-jobs : goal.invariant-loop-jobs
invariant-loop-jobs l = l.total ≡ total_jobs (take l.jobs-index (lists_of l.lists))
