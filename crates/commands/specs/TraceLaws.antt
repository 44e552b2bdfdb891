-- Laws of what is written of a trace. They rest on nothing but the definitions that they name.
use Rattle.std.specs.Prelude.{◌≡◌, ℕ, List}
use Rattle.commands.specs.ImportJobs.{IsImportedJobsOf}
use Rattle.commands.specs.Lost.{IsLossOf}

-- what is read has at most one text of what its tasks lost
abbrev pub LostTextIsUnique : Type 0
LostTextIsUnique = (read put other : List ℕ) → IsLossOf read put → IsLossOf read other → put ≡ other

-- and at most one text of its jobs
abbrev pub ImportedJobsTextIsUnique : Type 0
ImportedJobsTextIsUnique = (read put other : List ℕ) → IsImportedJobsOf read put
    → IsImportedJobsOf read other → put ≡ other
