use Rattle.std.proofs.Common.{◌≡◌, length}
use Rattle.text_fields.specs.Lines.{lines_of}
use Rattle.kernel_trace.specs.Survey.{begins_overwritten}
use Rattle.kernel_trace.proofs.survey.begins_overwritten.Given as goal

abbrev pub invariant-loop-rest : goal.invariant-loop-rest
invariant-loop-rest l = begins_overwritten l.fn.waking (lines_of l.fn.bytes) ≡ begins_overwritten l.fn.waking (lines_of l.rest)

abbrev pub decreases-loop-rest : goal.decreases-loop-rest
decreases-loop-rest l = length l.rest
