-- A picture of what the tasks of a trace did, from the bytes of the trace, beside what strong
-- scheduling would have had for the same readiness. A moment is a microsecond since the first
-- change.
use Rattle.std.specs.Prelude.{ℕ, ◌+◌, min, max, List, length}
use Rattle.kernel_trace.specs.Passage.{TaskTraceData, IsTaskTraceText}
use Rattle.kernel_trace.specs.Passages.{IsTaskTrace}
use Rattle.schedule_picture.specs.declared.window.Window.{Window}
use Rattle.task_set.specs.TaskSet.{IsTaskSet}
use Rattle.trace_bars.specs.Parts.{AreBarsOf, trace_of}
use Rattle.trace_bars.specs.declared.bars.Bars.{Bars}
use Rattle.trace_bars.specs.declared.bars.Part.{Part}
use Rattle.trace_passages.specs.Passages.{span_of}
use Rattle.trace_picture.specs.Picture.{IsPicture}
use Rattle.trace_picture.specs.Scene.{SceneData}

-- the part of a trace of so many moments that a window shows: the window is cut to the end
abbrev pub part_of : Window → ℕ → Part
part_of window span = record {
  from = min window.from span;
  to = max (min window.to span) (min window.from span);
}

-- what is drawn of a trace
abbrev pub scene_in : TaskTraceData → Part → SceneData
scene_in trace part = record { set = trace.set; clock = trace.clock; part = part }

-- the bytes are the picture of the bars of the part that the window shows: of the lanes of the
-- trace who runs on which processor, as the passages say; of those of strong scheduling whom it
-- links to which one; and of the rows at which moments each task ran, was lost, and waited rightly.
-- The threads that are told apart have bars in the lanes of the trace too
pub record IsShown (window : Window) (trace : TaskTraceData) (put : List ℕ) : Type 0 where
  pub bars : Bars
  pub valid : IsTaskSet trace.set
  pub are : AreBarsOf (trace_of trace.set (length trace.set.tasks + length trace.unlisted) trace.passages)
      (part_of window (span_of trace.passages)) bars
  pub picture : IsPicture (scene_in trace (part_of window (span_of trace.passages))) bars put

-- the bytes read are the text of a trace, and the bytes written are the picture of a window of it
pub record IsShowOf (window : Window) (read put : List ℕ) : Type 0 where
  pub trace : TaskTraceData
  pub is_text : IsTaskTraceText read trace
  pub is_trace : IsTaskTrace read trace
  pub shown : IsShown window trace put
