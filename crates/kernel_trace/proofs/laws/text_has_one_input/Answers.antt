use Rattle.text_fields.specs.Lines.{lines_of}
use Rattle.text_fields.proofs.TextLaws.{one_value}
use Rattle.kernel_trace.specs.Survey.{survey_of}
use Rattle.kernel_trace.proofs.Decided.{trace_machine}
use Rattle.kernel_trace.proofs.laws.text_has_one_input.Goals as goal

pub returns : goal.returns
returns c bytes input other = one_value (trace_machine (survey_of (lines_of bytes))) lines_of bytes input other
