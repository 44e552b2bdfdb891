-- One step of the reader. Private: the contracts of this crate's own functions.
use Rattle.std.specs.Prelude.{◌≡◌, ℕ, true, false, ◌⊎◌, ◌≤◌}
use Rattle.job_release.specs.JobText.{Progress, HeaderExpected, ProcessorsExpected, HorizonExpected}
use Rattle.job_release.specs.JobText.{Listed, Ended, LineOutcome, TaskLine, JobLine}
use Rattle.text_fields.specs.Machine.{Fails}
use Rattle.job_release.specs.JobInput.{IsJobInput}
use Rattle.job_release.specs.declared.fault.JobKind.{JobKind}
use Rattle.job_release.specs.declared.fault.JobKind.TheVariants.{OutOfMemory}
use Rattle.job_release.specs.declared.form.JobForm.{JobForm}
use Rattle.job_release.specs.declared.form.TaskForm.{TaskForm}
use Rattle.job_release.specs.declared.stage.Stage.{Stage}
use Rattle.job_release.specs.declared.stage.Stage.TheVariants as stage

-- what is expected at a stage of the reader
abbrev pub progress_of : Stage → Progress
progress_of stage.HeaderExpected = HeaderExpected
progress_of (stage.ProcessorsExpected version) = ProcessorsExpected version
progress_of (stage.HorizonExpected version m) = HorizonExpected version m
progress_of (stage.Listed input false) = Listed input
progress_of (stage.Listed input true) = Ended input

-- the version is 1 or 2
abbrev pub IsVersion : ℕ → Type 0
IsVersion version = (1 ≤ version) × (version ≤ 2)

-- what was said so far is within the bounds, and what was listed is an input
abbrev pub IsSoundSoFar : Progress → Type 0
IsSoundSoFar HeaderExpected = Unit {0}
IsSoundSoFar (ProcessorsExpected version) = IsVersion version
IsSoundSoFar (HorizonExpected version m) = IsVersion version × (1 ≤ m) × (m ≤ 64)
IsSoundSoFar (Listed input) = IsJobInput input
IsSoundSoFar (Ended input) = IsJobInput input

-- out of memory
abbrev pub IsOutOfMemory : JobKind → Type 0
IsOutOfMemory kind = kind ≡ OutOfMemory

-- out of memory, or a fault of this outcome
abbrev pub IsRefusedBy : (LineOutcome → Type 0) → JobKind → Type 0
IsRefusedBy Comes kind = IsOutOfMemory kind ⊎ Comes (Fails kind)

-- what a task line says, as the code has it
abbrev pub line_of : TaskForm → TaskLine
line_of form = record {
  name = form.name.now;
  priority = form.priority;
  list = form.list.now;
  times = form.times;
}

-- what a job line says, as the code has it
abbrev pub job_line_of : JobForm → JobLine
job_line_of form = record { name = form.name.now; job = form.job }
