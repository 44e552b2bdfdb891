use Rattle.std.proofs.Common.{◌+◌, ◌≤◌, length}
use Rattle.trace_reader.specs.Input.{InputData}
use Rattle.text_fields.specs.Lines.{lines_of}
use Rattle.text_fields.specs.Machine.{Answer, IsAnswer}
use Rattle.kernel_trace.specs.Reading.{progress_of, IsSoundSoFar}
use Rattle.kernel_trace.specs.SurveyView.{look_of}
use Rattle.kernel_trace.specs.TraceText.{HeaderExpected, IsLine, IsEndOutcome}
use Rattle.kernel_trace.specs.declared.fault.TraceKind.{TraceKind}
use Rattle.kernel_trace.proofs.read.run.Given as goal

abbrev pub invariant-loop-rest : goal.invariant-loop-rest
invariant-loop-rest l = record {
  answers : (answer : Answer InputData TraceKind)
      → IsAnswer (IsLine (look_of l.fn.look)) IsEndOutcome l.line (progress_of l.stage) (lines_of l.rest) answer
      → IsAnswer (IsLine (look_of l.fn.look)) IsEndOutcome 1 HeaderExpected (lines_of l.fn.bytes) answer;
  valid : IsSoundSoFar (progress_of l.stage);
  bound : l.line + length l.rest ≤ length l.fn.bytes + 1;
}

abbrev pub decreases-loop-rest : goal.decreases-loop-rest
decreases-loop-rest l = length l.rest
