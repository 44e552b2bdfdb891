use Rattle.text_fields.specs.Lines.{lines_of}
use Rattle.text_fields.proofs.TextLaws.{never_both}
use Rattle.kernel_trace.specs.Survey.{survey_of}
use Rattle.kernel_trace.proofs.Followed.{following_machine}
use Rattle.kernel_trace.proofs.laws.trace_has_no_fault.Goals as goal

pub returns : goal.returns
returns c bytes trace line kind = never_both (following_machine (survey_of (lines_of bytes))) lines_of bytes trace line kind
