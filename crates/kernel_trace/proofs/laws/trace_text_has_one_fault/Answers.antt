use Rattle.text_fields.specs.Lines.{lines_of}
use Rattle.text_fields.proofs.TextLaws.{one_fault}
use Rattle.kernel_trace.specs.Survey.{survey_of}
use Rattle.kernel_trace.proofs.Followed.{following_machine}
use Rattle.kernel_trace.proofs.laws.trace_text_has_one_fault.Goals as goal

pub returns : goal.returns
returns c bytes line number kind other = one_fault (following_machine (survey_of (lines_of bytes))) lines_of bytes line number kind other
