use Rattle.std.proofs.Common.{◌+◌, ◌≤◌, length}
use Rattle.std.specs.Prelude.{IsTrue, All}
use Rattle.text_fields.specs.Lines.{lines_of, MayStand}
use Rattle.text_fields.specs.LineRule.{IsLineOutcome}
use Rattle.text_fields.specs.Machine.{Answer, IsAnswer}
use Rattle.text_fields.proofs.read.run.Given as goal

abbrev pub invariant-loop-rest : goal.invariant-loop-rest
invariant-loop-rest g l = record {
  answers : (answer : Answer g.row.M-Value.Denot g.row.M-Kind.Denot)
      → IsAnswer
      (IsLineOutcome g.M.LineMachine.LONGEST_LINE g.M.LineMachine.HAS_COMMENTS g.M.LineMachine.kind_of g.M.LineMachine.Says)
      g.M.LineMachine.Ends l.line (g.M.LineMachine.progress l.machine) (lines_of l.rest) answer
      → IsAnswer
      (IsLineOutcome g.M.LineMachine.LONGEST_LINE g.M.LineMachine.HAS_COMMENTS g.M.LineMachine.kind_of g.M.LineMachine.Says)
      g.M.LineMachine.Ends 1 g.M.LineMachine.begins (lines_of l.fn.bytes) answer;
  valid : g.M.LineMachine.IsValid (g.M.LineMachine.progress l.machine);
  plain : IsTrue l.all_plain → All MayStand l.rest;
  bound : l.line + length l.rest ≤ length l.fn.bytes + 1;
}

abbrev pub decreases-loop-rest : goal.decreases-loop-rest
decreases-loop-rest g l = length l.rest
