use Rattle.text_fields.proofs.Written.{AreWritten}
use Rattle.text_fields.proofs.line.write_task_lines.Given as goal

abbrev pub invariant-loop-t : goal.invariant-loop-t
invariant-loop-t l = AreWritten l.set l.t l.fn.text.items l.text.items
