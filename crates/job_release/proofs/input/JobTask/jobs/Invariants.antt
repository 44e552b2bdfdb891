use Rattle.std.proofs.Common.{◌≡◌, map}
use Rattle.std.specs.List.{range_with_len}
use Rattle.job_release.specs.Jobs.{periodic_job}
use Rattle.job_release.proofs.input.JobTask.jobs.Given as goal

abbrev pub invariant-loop-k : goal.invariant-loop-k
invariant-loop-k l = l.jobs.items ≡ map (periodic_job l.self) (range_with_len 0 l.k)
