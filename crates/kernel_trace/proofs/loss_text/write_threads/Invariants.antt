use Rattle.std.proofs.Common.{◌≡◌, ◌++◌, drop}
use Rattle.kernel_trace.specs.LossText.{thread_lines}
use Rattle.kernel_trace.proofs.loss_text.write_threads.Given as goal

abbrev pub invariant-loop-i : goal.invariant-loop-i
invariant-loop-i l = l.text.items ++ thread_lines (drop l.i l.rows) ≡ l.fn.text.items ++ thread_lines l.fn.rows
