-- What contracts see of a reader of passages. Private: the contracts of this crate's own functions.
use Rattle.std.specs.Prelude.{◌⊎◌}
use Rattle.std.specs.Option.{option_map}
use Rattle.text_fields.specs.Machine.{Fails}
use Rattle.kernel_trace.specs.Passage.{FollowingData, FollowingOutcome}
use Rattle.kernel_trace.specs.Reading.{progress_of, IsSoundSoFar, IsCourse, IsOutOfMemory}
use Rattle.kernel_trace.specs.StampView.{time_of}
use Rattle.kernel_trace.specs.TraceText.{Progress, HeaderExpected, ProcessorsExpected, Listed}
use Rattle.kernel_trace.specs.TraceText.{Tracing}
use Rattle.kernel_trace.specs.declared.fault.TraceKind.{TraceKind}
use Rattle.kernel_trace.specs.declared.task_stage.TaskStage.{TaskStage}

-- what is known
abbrev pub following_of : TaskStage → FollowingData
following_of stage = record {
  progress = progress_of stage.stage;
  start = option_map time_of stage.start;
  passages = stage.passages.items;
  unlisted = stage.unlisted;
}

-- what is known makes a head, or is followed by lines of a trace
abbrev pub IsFollowing : Progress → Type 0
IsFollowing HeaderExpected = IsSoundSoFar HeaderExpected
IsFollowing ProcessorsExpected = IsSoundSoFar ProcessorsExpected
IsFollowing (Listed c) = IsSoundSoFar (Listed c)
IsFollowing (Tracing c) = IsCourse c

-- the same of all that is known
abbrev pub CanFollow : FollowingData → Type 0
CanFollow f = IsFollowing f.progress

-- out of memory, or a fault of this outcome
abbrev pub IsRefusedBy : (FollowingOutcome → Type 0) → TraceKind → Type 0
IsRefusedBy Comes kind = IsOutOfMemory kind ⊎ Comes (Fails kind)
