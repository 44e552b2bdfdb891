use Rattle.text_fields.specs.Lines.{lines_of}
use Rattle.text_fields.proofs.TextLaws.{one_value}
use Rattle.kernel_trace.specs.Survey.{survey_of}
use Rattle.kernel_trace.proofs.Followed.{following_machine}
use Rattle.kernel_trace.proofs.laws.text_has_one_trace.Goals as goal

pub returns : goal.returns
returns c bytes trace other = one_value (following_machine (survey_of (lines_of bytes))) lines_of bytes trace other
