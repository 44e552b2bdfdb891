-- A law of the texts of jobs. It rests on nothing but the definitions that it names.
use Rattle.std.specs.Prelude.{◌≡◌, ℕ, List}
use Rattle.commands.specs.JobsRun.{IsJobsOf}

-- what is read has at most one text of its jobs
abbrev pub JobsTextIsUnique : Type 0
JobsTextIsUnique = (read put other : List ℕ) → IsJobsOf read put → IsJobsOf read other → put ≡ other
