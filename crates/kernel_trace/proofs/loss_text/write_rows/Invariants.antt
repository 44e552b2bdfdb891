use Rattle.std.proofs.Common.{◌≡◌, ◌++◌, length, drop}
use Rattle.kernel_trace.specs.LossText.{loss_lines}
use Rattle.kernel_trace.proofs.loss_text.write_rows.Given as goal

abbrev pub invariant-loop-t : goal.invariant-loop-t
invariant-loop-t l = record {
  end : l.t-end ≡ length l.set.tasks;
  written : l.text.items ++ loss_lines l.set l.fn.clock l.t (drop l.t l.rows) ≡ l.fn.text.items ++ loss_lines l.set l.fn.clock 0 l.rows;
}
