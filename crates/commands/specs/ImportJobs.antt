-- The jobs of a trace, from the bytes of a trace of the Linux scheduler to those of an input of
-- jobs. A stretch in which a task is ready is a job of it, released at its first moment and with as
-- many units as there are moments of it at which the task runs.
use Rattle.std.specs.Prelude.{◌≡◌, ◌⊎◌, ℕ, ◌+◌, ◌<◌, ◌≤◌, ◌^◌, List, ◌++◌, codes, length, map}
use Rattle.std.specs.Prelude.{Option}
use Rattle.job_release.specs.JobList.{job_list_text}
use Rattle.job_release.specs.declared.job_list.ListedJob.{ListedJob}
use Rattle.kernel_trace.specs.Passage.{TaskTraceData, IsTaskTraceText, IsTaskTraceRefused}
use Rattle.kernel_trace.specs.Passages.{IsTaskTrace}
use Rattle.kernel_trace.specs.StampText.{stamp_text}
use Rattle.text_fields.specs.LineText.{line}
use Rattle.text_fields.specs.Lines.{lines_of}
use Rattle.trace_losses.specs.Jobs.{AreJobs}
use Rattle.trace_passages.specs.Passages.{span_of}
use Rattle.trace_losses.specs.declared.job.TraceJob.{TraceJob}
use Rattle.commands.specs.Import.{RefusesTraceText}
use Rattle.commands.specs.Refusal.{IsAnsweredInput}
use Rattle.commands.specs.declared.status.Status.{Status}

-- ---- the jobs of a trace
-- how many moments a trace has, from the first change to the last used line
abbrev pub moments_of : TaskTraceData → ℕ
moments_of trace = span_of trace.passages

-- the jobs are those of the trace
abbrev pub AreJobsIn : TaskTraceData → List TraceJob → Type 0
AreJobsIn trace jobs = AreJobs trace.passages jobs

-- so many moments are the span of an input of jobs
abbrev pub IsHorizon : ℕ → Type 0
IsHorizon span = (1 ≤ span) × (span ≤ 10000000)

-- they are no such span
abbrev pub IsNoHorizon : ℕ → Type 0
IsNoHorizon span = (span ≡ 0) ⊎ (10000000 < span)

-- the trace has these jobs, and an input of jobs can have them
pub record HasJobs (trace : TaskTraceData) (jobs : List TraceJob) : Type 0 where
  pub horizon : IsHorizon (moments_of trace)
  pub are : AreJobsIn trace jobs
  pub few : length jobs ≤ 4000

-- ---- what is written
-- a job, as it is listed
abbrev pub listed : TraceJob → ListedJob
listed job = record { task = job.task; release = job.release; cost = job.units }

-- a comment line with the clock of moment 0
abbrev pub clock_line : Option ℕ → List ℕ
clock_line clock = line (codes "# moment 0 is at " ++ stamp_text clock)

-- that line, and the text of these jobs of the trace
abbrev pub job_text : TaskTraceData → List ListedJob → List ℕ
job_text trace jobs = clock_line trace.clock ++ job_list_text trace.set (moments_of trace) jobs

-- the job has numbers of 32 bits
pub record IsNarrow (job : TraceJob) : Type 0 where
  pub release : job.release < 2 ^ 32
  pub units : job.units < 2 ^ 32

-- the bytes are the text of the jobs of a trace
pub record IsJobListOf (trace : TaskTraceData) (put : List ℕ) : Type 0 where
  pub jobs : List TraceJob
  pub has : HasJobs trace jobs
  pub text : put ≡ job_text trace (map listed jobs)

-- the bytes read are the text of a trace, and the bytes written are a comment with the clock of its
-- first moment and the text of its tasks, its span and its jobs: for each stretch in which a task
-- is ready and runs a job of it, in the order in which the stretches begin, with the first moment
-- of the stretch and the number of its moments at which the task runs
pub record IsImportedJobsOf (read put : List ℕ) : Type 0 where
  pub trace : TaskTraceData
  pub is_text : IsTaskTraceText read trace
  pub is_trace : IsTaskTrace read trace
  pub is_list : IsJobListOf trace put

-- the bytes are the text of a trace whose jobs an input of jobs can have
pub record AcceptsJobTrace (bytes : List ℕ) : Type 0 where
  pub trace : TaskTraceData
  pub jobs : List TraceJob
  pub is_text : IsTaskTraceText bytes trace
  pub has : HasJobs trace jobs

-- ---- what is refused
-- no input of jobs has so many moments, or else so many jobs; the kind has this number
abbrev pub IsRefusedList : ℕ → ℕ → ℕ → Type 0
IsRefusedList span count kind =
    (IsNoHorizon span × (kind ≡ 14)) ⊎ (IsHorizon span × (4000 < count) × (kind ≡ 15))

-- no input of jobs has the jobs of the trace
pub record HasNoList (trace : TaskTraceData) (kind : ℕ) : Type 0 where
  pub jobs : List TraceJob
  pub are : AreJobsIn trace jobs
  pub cause : IsRefusedList (moments_of trace) (length jobs) kind

-- the bytes are the text of a trace, and its end is refused, with a kind of this number
pub record RefusesJobList (bytes : List ℕ) (line kind : ℕ) : Type 0 where
  pub trace : TaskTraceData
  pub is_text : IsTaskTraceText bytes trace
  pub cause : HasNoList trace kind
  pub after_last : line ≡ length (lines_of bytes) + 1

-- the bytes are refused at this line, as the text of a trace or as that of its jobs
abbrev pub RefusesJobTraceText : List ℕ → ℕ → ℕ → Type 0
RefusesJobTraceText bytes line kind =
    RefusesTraceText (IsTaskTraceRefused bytes) line kind ⊎ RefusesJobList bytes line kind

-- the bytes are refused with this status
abbrev pub RefusesJobTrace : List ℕ → Status → Type 0
RefusesJobTrace bytes status = IsAnsweredInput (RefusesJobTraceText bytes) status
