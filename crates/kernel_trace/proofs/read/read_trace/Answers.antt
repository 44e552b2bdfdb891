use Rattle.std.proofs.Common.{◌⊎◌, IfOk, IfErr, subst}
use Rattle.std.proofs.lemmas.Result.{IfOk-weaker}
use Rattle.text_fields.specs.Lines.{lines_of}
use Rattle.text_fields.proofs.TextLaws.{answers_value, answers_fault}
use Rattle.kernel_trace.specs.Import.{IsImport}
use Rattle.kernel_trace.specs.Reading.{IsOutOfMemory}
use Rattle.kernel_trace.specs.Survey.{SurveyData, survey_of}
use Rattle.kernel_trace.specs.TraceText.{IsTextBy, IsRefusedBy, IsTraceText}
use Rattle.kernel_trace.specs.declared.fault.TraceFault.{TraceFault}
use Rattle.kernel_trace.proofs.Decided.{trace_machine}
use Rattle.kernel_trace.proofs.Imported.{import_is_faithful}
use Rattle.kernel_trace.proofs.read.read_trace.Goals as goal

-- what is read is that of what is said of the whole text
pub returns-clause-input : goal.returns-clause-input
returns-clause-input c =
    subst (λ (look : SurveyData). IfOk c.run.result (IsTextBy look c.args.bytes.now)) c.in-Ok.ensures c.run.ensures.input

pub returns-clause-refused : goal.returns-clause-refused
returns-clause-refused c =
    subst (λ (look : SurveyData). IfErr c.run.result
    (λ (fault : TraceFault). IsOutOfMemory fault.kind ⊎ IsRefusedBy look c.args.bytes.now fault.line fault.kind))
    c.in-Ok.ensures c.run.ensures.refused

pub returns-clause-import : goal.returns-clause-import
returns-clause-import c =
    IfOk-weaker c.run.result (IsTraceText c.args.bytes.now) (IsImport c.args.bytes.now)
    (λ input is. import_is_faithful c.args.bytes.now input is) (returns-clause-input c)

pub returns-clause-accepts : goal.returns-clause-accepts
returns-clause-accepts c =
    answers_value (trace_machine (survey_of (lines_of c.args.bytes.now))) lines_of IsOutOfMemory (λ fault. fault.line) (λ fault. fault.kind)
    c.args.bytes.now c.run.result (returns-clause-input c) (returns-clause-refused c)

pub returns-clause-refuses : goal.returns-clause-refuses
returns-clause-refuses c =
    answers_fault (trace_machine (survey_of (lines_of c.args.bytes.now))) lines_of IsOutOfMemory (λ fault. fault.line) (λ fault. fault.kind)
    c.args.bytes.now c.run.result (returns-clause-input c) (returns-clause-refused c)
