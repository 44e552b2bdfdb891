use Rattle.std.proofs.Common.{◌≡◌, ◌++◌, drop}
use Rattle.kernel_trace.specs.LossText.{step_lines}
use Rattle.kernel_trace.proofs.loss_text.write_steps.Given as goal

abbrev pub invariant-loop-i : goal.invariant-loop-i
invariant-loop-i l = l.text.items ++ step_lines l.set (drop l.i l.steps) ≡ l.fn.text.items ++ step_lines l.fn.set l.fn.steps
