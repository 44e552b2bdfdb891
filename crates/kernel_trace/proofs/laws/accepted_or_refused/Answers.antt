use Rattle.text_fields.specs.Lines.{lines_of}
use Rattle.text_fields.proofs.TextLaws.{always_one}
use Rattle.kernel_trace.specs.Survey.{survey_of}
use Rattle.kernel_trace.proofs.Decided.{trace_machine}
use Rattle.kernel_trace.proofs.laws.accepted_or_refused.Goals as goal

pub returns : goal.returns
returns c bytes = always_one (trace_machine (survey_of (lines_of bytes))) lines_of bytes
