use Rattle.std.proofs.Common.{◌+◌, ◌≤◌, length}
use Rattle.kernel_trace.specs.Passage.{TaskTraceData}
use Rattle.text_fields.specs.Lines.{lines_of}
use Rattle.text_fields.specs.Machine.{Answer, IsAnswer}
use Rattle.kernel_trace.specs.PassageView.{following_of, CanFollow}
use Rattle.kernel_trace.specs.Passage.{nothing_followed, IsFollowed, IsFollowedEnd}
use Rattle.kernel_trace.specs.SurveyView.{look_of}
use Rattle.kernel_trace.specs.declared.fault.TraceKind.{TraceKind}
use Rattle.kernel_trace.proofs.task_trace.run.Given as goal

abbrev pub invariant-loop-rest : goal.invariant-loop-rest
invariant-loop-rest l = record {
  answers : (answer : Answer TaskTraceData TraceKind)
      → IsAnswer (IsFollowed (look_of l.fn.look)) IsFollowedEnd l.line (following_of l.stage) (lines_of l.rest) answer
      → IsAnswer (IsFollowed (look_of l.fn.look)) IsFollowedEnd 1 nothing_followed (lines_of l.fn.bytes) answer;
  valid : CanFollow (following_of l.stage);
  bound : l.line + length l.rest ≤ length l.fn.bytes + 1;
}

abbrev pub decreases-loop-rest : goal.decreases-loop-rest
decreases-loop-rest l = length l.rest
