use Rattle.std.proofs.Common.{◌≡◌, length}
use Rattle.std.specs.List.{list_any}
use Rattle.text_fields.specs.Lines.{fields_of}
use Rattle.kernel_trace.specs.Survey.{is_plain_wakeup}
use Rattle.kernel_trace.proofs.survey.line_has_wakeup.Given as goal

abbrev pub invariant-loop-field : goal.invariant-loop-field
invariant-loop-field l = list_any is_plain_wakeup (fields_of l.fn.line) ≡ list_any is_plain_wakeup (fields_of l.rest)

abbrev pub decreases-loop-field : goal.decreases-loop-field
decreases-loop-field l = length l.rest
