-- From the bytes of an input of periodic jobs to those of their finishes and responses.
use Rattle.std.specs.Prelude.{◌≡◌, ℕ, List, Some}
use Rattle.strong_apa.specs.declared.reply.Entry.{Entry}
use Rattle.job_release.specs.JobFault.{kind_number}
use Rattle.job_release.specs.JobInput.{JobInputData}
use Rattle.job_release.specs.JobText.{IsJobText, IsJobRefused}
use Rattle.job_release.specs.declared.fault.JobFault.{JobFault}
use Rattle.job_release.specs.declared.fault.JobKind.{JobKind}
use Rattle.job_release.specs.Driven.{RunsJobs}
use Rattle.job_release.specs.JobsText.{jobs_text}
use Rattle.commands.specs.Refusal.{IsAnsweredInput}
use Rattle.commands.specs.Status.{status_of_number}
use Rattle.commands.specs.declared.status.Status.{Status}

-- the bytes read are the text of an input, and the bytes written say when the jobs are finished in
-- a history that runs them
pub record IsJobsOf (read put : List ℕ) : Type 0 where
  pub input : JobInputData
  pub history : List Entry
  pub is_text : IsJobText read input
  pub runs : RunsJobs input history
  pub text : put ≡ jobs_text input history

-- the bytes written say when the jobs of this input are finished, in one history that runs them
pub record IsTextOfRun (input : JobInputData) (put : List ℕ) : Type 0 where
  pub history : List Entry
  pub runs : RunsJobs input history
  pub text : put ≡ jobs_text input history

-- the bytes are the text of an input
abbrev pub AcceptsJobs : List ℕ → Type 0
AcceptsJobs bytes = (input : JobInputData) × IsJobText bytes input

-- the bytes are refused at this line, with a kind of this number
pub record RefusesJobText (bytes : List ℕ) (line kind : ℕ) : Type 0 where
  pub cause : JobKind
  pub refused : IsJobRefused bytes line cause
  pub number : kind_number cause ≡ Some kind

-- the bytes are refused with this status
abbrev pub RefusesJobs : List ℕ → Status → Type 0
RefusesJobs bytes status = IsAnsweredInput (RefusesJobText bytes) status

-- the status of a fault of the text
abbrev pub status_of_jobs_fault : JobFault → Status
status_of_jobs_fault fault = status_of_number fault.line (kind_number fault.kind)
