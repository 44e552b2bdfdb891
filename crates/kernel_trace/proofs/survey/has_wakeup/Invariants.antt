use Rattle.std.proofs.Common.{◌≡◌, length}
use Rattle.std.specs.List.{list_any}
use Rattle.text_fields.specs.Lines.{lines_of}
use Rattle.kernel_trace.specs.Survey.{has_wakeup}
use Rattle.kernel_trace.proofs.survey.has_wakeup.Given as goal

abbrev pub invariant-loop-rest : goal.invariant-loop-rest
invariant-loop-rest l = list_any has_wakeup (lines_of l.fn.bytes) ≡ list_any has_wakeup (lines_of l.rest)

abbrev pub decreases-loop-rest : goal.decreases-loop-rest
decreases-loop-rest l = length l.rest
