use Rattle.std.proofs.Common.{◌≡◌, take, map}
use Rattle.commands.specs.ImportJobs.{listed}
use Rattle.commands.proofs.import_jobs.listed_of.Given as goal

abbrev pub invariant-loop-job : goal.invariant-loop-job
invariant-loop-job l = l.list.items ≡ map listed (take l.job-index l.jobs)
