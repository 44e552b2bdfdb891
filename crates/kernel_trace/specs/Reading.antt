-- Steps of the reader. Private: the contracts of this crate's own functions.
use Rattle.std.specs.Prelude.{◌≡◌, ℕ, Bool, not, ◌-◌, ◌<◌, ◌≤◌, ◌⊎◌, List, ◌∷◌, ◌++◌, length}
use Rattle.std.specs.Prelude.{replicate, All, option_to_list}
use Rattle.std.specs.Option.{option_map}
use Rattle.task_set.specs.TaskSet.{IsTaskSet}
use Rattle.trace_reader.specs.Input.{IsPostedOf, AreOfVersion}
use Rattle.text_fields.specs.Machine.{Fails}
use Rattle.kernel_trace.specs.StampView.{time_of}
use Rattle.kernel_trace.specs.Course.{CourseData, WindowData, written}
use Rattle.kernel_trace.specs.TraceText.{Progress, HeaderExpected, ProcessorsExpected, Listed}
use Rattle.kernel_trace.specs.TraceText.{Tracing, LineOutcome, TaskLine}
use Rattle.trace_passages.specs.declared.passage.Readiness.{Readiness}
use Rattle.kernel_trace.specs.declared.course.Course.{Course}
use Rattle.kernel_trace.specs.declared.course.Mentions.{Mentions}
use Rattle.kernel_trace.specs.declared.course.Window.{Window}
use Rattle.kernel_trace.specs.declared.fault.TraceKind.{TraceKind}
use Rattle.kernel_trace.specs.declared.fault.TraceKind.TheVariants.{OutOfMemory}
use Rattle.kernel_trace.specs.declared.stage.Stage.{Stage}
use Rattle.kernel_trace.specs.declared.stage.Step.{Step}
use Rattle.kernel_trace.specs.declared.stage.Step.TheVariants as step
use Rattle.kernel_trace.specs.declared.stage.TaskForm.{TaskForm}
use Rattle.kernel_trace.specs.TraceLine.{LastFields as LastFieldsData, Leaving as LeavingData}
use Rattle.kernel_trace.specs.TraceLine.{EventFields as EventFieldsData, TraceEvent}
use Rattle.kernel_trace.specs.TraceLine.{Said as SaidData, Nothing, LostEvents, Malformed, Happened}
use Rattle.kernel_trace.specs.declared.event.LastFields.{LastFields}
use Rattle.kernel_trace.specs.declared.event.EventFields.{EventFields}
use Rattle.kernel_trace.specs.declared.event.Leaving.{Leaving}
use Rattle.kernel_trace.specs.declared.event.SchedulerEvent.{SchedulerEvent}
use Rattle.kernel_trace.specs.declared.event.Said.{Said}
use Rattle.kernel_trace.specs.declared.event.Said.TheVariants as said
use Rattle.text_fields.specs.Lines.{fields_of, is_blank}

-- the byte is no blank
abbrev pub is_visible : ℕ → Bool
is_visible byte = not (is_blank byte)

-- the field is the first one of the bytes, and the others stand in the rest
pub record IsFirstField (bytes field rest : List ℕ) : Type 0 where
  pub first : fields_of bytes ≡ field ∷ fields_of rest
  pub shorter : length rest < length bytes

-- a number with zeros before it, so that it has so many digits
abbrev pub in_places : ℕ → List ℕ → List ℕ
in_places places number = replicate (places - length number) 48 ++ number

-- ---- what contracts see of what was read of a line
-- the last fields
abbrev pub ends_view : LastFields → LastFieldsData
ends_view f =
    record { fourth = f.fourth.now; third = f.third.now; second = f.second.now; last = f.last.now }

-- a thread that leaves
abbrev pub left_view : Leaving → LeavingData
left_view left = record { thread = left.thread; state = left.state.now }

-- the fields of an event
abbrev pub fields_view : EventFields → EventFieldsData
fields_view e = record { ends = ends_view e.ends; leaving = option_map left_view e.leaving }

-- an event
abbrev pub event_view : SchedulerEvent → TraceEvent
event_view event =
    record { time = time_of event.stamp; word = event.word; fields = fields_of event.fields.now }

-- what a line says
abbrev pub said_view : Said → SaidData
said_view said.Nothing = Nothing
said_view said.LostEvents = LostEvents
said_view said.Malformed = Malformed
said_view (said.Happened stamp change) = Happened (time_of stamp) change

-- ---- what contracts see of what was read so far
-- a window
abbrev pub window_view : Window → WindowData
window_view window = record { from = time_of window.from; to = time_of window.to }

-- what is known
abbrev pub course_of : Course → CourseData
course_of c = record {
  set = c.set;
  ids = c.ids.keys;
  window = option_map window_view c.window;
  last = option_map time_of c.last;
  clock = option_map time_of c.clock;
  used = option_map time_of c.used;
  standings = c.standings.items;
  events = c.events.items;
}

-- the mentions of a line
abbrev pub mentions_view : Mentions → List Readiness
mentions_view m = option_to_list m.first ++ option_to_list m.second

-- what is known at a step of the reader
abbrev pub progress_at : Step → CourseData → Progress
progress_at step.Header c = HeaderExpected
progress_at step.Processors c = ProcessorsExpected
progress_at step.Head c = Listed c
progress_at step.Trace c = Tracing c

-- what is known at a stage of the reader
abbrev pub progress_of : Stage → Progress
progress_of stage = progress_at stage.step (course_of stage.course)

-- what a task line says, as the code has it
abbrev pub line_of : TaskForm → TaskLine
line_of form =
    record { name = form.name.now; level = form.level; list = form.list.now; id = form.id }

-- the mentions are of the first so many tasks
abbrev pub AreTasks : ℕ → List Readiness → Type 0
AreTasks count ms = All (λ (m : Readiness). m.task < count) ms

-- each task has a thread id and a standing, and the events are of the set
pub record IsCourse (c : CourseData) : Type 0 where
  pub valid : IsTaskSet c.set
  pub ids : length c.ids ≡ length c.set.tasks
  pub standings : length c.standings ≡ length c.set.tasks
  pub events : All (IsPostedOf c.set) c.events
  pub of_version : AreOfVersion 1 c.events

-- what is known makes an input
abbrev pub IsSoundSoFar : Progress → Type 0
IsSoundSoFar HeaderExpected = Unit {0}
IsSoundSoFar ProcessorsExpected = Unit {0}
IsSoundSoFar (Listed c) = IsCourse c × (length (written c) ≤ 20000)
IsSoundSoFar (Tracing c) = IsCourse c × (length (written c) ≤ 20000)

-- out of memory
abbrev pub IsOutOfMemory : TraceKind → Type 0
IsOutOfMemory kind = kind ≡ OutOfMemory

-- out of memory, or a fault of this outcome
abbrev pub IsRefusedBy : (LineOutcome → Type 0) → TraceKind → Type 0
IsRefusedBy Comes kind = IsOutOfMemory kind ⊎ Comes (Fails kind)
