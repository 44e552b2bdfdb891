use Rattle.std.proofs.Common.{◌≡◌, ◌++◌, take}
use Rattle.std.specs.List.{flat_map}
use Rattle.job_release.specs.JobList.{listed_job_line}
use Rattle.job_release.proofs.job_list.write_job_lines.Given as goal

abbrev pub invariant-loop-job : goal.invariant-loop-job
invariant-loop-job l = l.text.items ≡ l.fn.text.items ++ flat_map (listed_job_line l.set) (take l.job-index l.jobs)
