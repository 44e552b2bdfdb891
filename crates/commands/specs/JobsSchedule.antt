-- From the bytes of an input of jobs to those of a schedule that runs them. It is a valid one, as a
-- check says of it.
use Rattle.std.specs.Prelude.{ℕ, List}
use Rattle.strong_apa.specs.declared.reply.Entry.{Entry}
use Rattle.job_release.specs.Driven.{RunsJobs}
use Rattle.job_release.specs.JobInput.{JobInputData}
use Rattle.job_release.specs.JobRun.{CanBeWritten, HasEventsOf}
use Rattle.job_release.specs.JobText.{IsJobText}
use Rattle.commands.specs.Valid.{IsTextOf, IsValid, schedule_of}

-- the bytes are the text of the schedule of one history, which runs the jobs of this input, with
-- the events that they ask for; it is of version 1, all its entries are on stream 0, its contexts
-- are what they give, and it is valid
pub record IsScheduleOfJobs (input : JobInputData) (put : List ℕ) : Type 0 where
  pub history : List Entry
  pub runs : RunsJobs input history
  pub asked : HasEventsOf input history
  pub writable : CanBeWritten history
  pub is_text : IsTextOf put (schedule_of 1 input.set history)
  pub valid : IsValid (schedule_of 1 input.set history)

-- the bytes read are the text of an input, and the bytes written are such a schedule of its jobs
pub record IsJobsScheduleOf (read put : List ℕ) : Type 0 where
  pub input : JobInputData
  pub is_input : IsJobText read input
  pub schedule : IsScheduleOfJobs input put
