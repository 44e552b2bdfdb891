use Rattle.text_fields.specs.Lines.{lines_of}
use Rattle.text_fields.proofs.TextLaws.{never_both}
use Rattle.kernel_trace.specs.Survey.{survey_of}
use Rattle.kernel_trace.proofs.Decided.{trace_machine}
use Rattle.kernel_trace.proofs.laws.input_has_no_fault.Goals as goal

pub returns : goal.returns
returns c bytes input line kind = never_both (trace_machine (survey_of (lines_of bytes))) lines_of bytes input line kind
