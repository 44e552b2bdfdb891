use Rattle.std.proofs.Common.{◌⊎◌, IfOk, IfErr, subst}
use Rattle.std.proofs.lemmas.Result.{IfOk-weaker}
use Rattle.text_fields.specs.Lines.{lines_of}
use Rattle.text_fields.proofs.TextLaws.{answers_value, answers_fault}
use Rattle.kernel_trace.specs.Passages.{IsTaskTrace}
use Rattle.kernel_trace.specs.Reading.{IsOutOfMemory}
use Rattle.kernel_trace.specs.Survey.{SurveyData, survey_of}
use Rattle.kernel_trace.specs.Passage.{IsTaskTextBy, IsTaskRefusedBy, IsTaskTraceText}
use Rattle.kernel_trace.specs.declared.fault.TraceFault.{TraceFault}
use Rattle.kernel_trace.proofs.Followed.{following_machine}
use Rattle.kernel_trace.proofs.Passed.{passages_are_faithful}
use Rattle.kernel_trace.proofs.task_trace.read_task_trace.Goals as goal

-- what is read is that of what is said of the whole text
pub returns-clause-trace : goal.returns-clause-trace
returns-clause-trace c =
    subst (λ (look : SurveyData). IfOk c.run.result (IsTaskTextBy look c.args.bytes.now)) c.in-Ok.ensures c.run.ensures.trace

pub returns-clause-refused : goal.returns-clause-refused
returns-clause-refused c =
    subst (λ (look : SurveyData). IfErr c.run.result
    (λ (fault : TraceFault). IsOutOfMemory fault.kind ⊎ IsTaskRefusedBy look c.args.bytes.now fault.line fault.kind))
    c.in-Ok.ensures c.run.ensures.refused

pub returns-clause-passages : goal.returns-clause-passages
returns-clause-passages c =
    IfOk-weaker c.run.result (IsTaskTraceText c.args.bytes.now) (IsTaskTrace c.args.bytes.now)
    (λ trace is. passages_are_faithful c.args.bytes.now trace is) (returns-clause-trace c)

pub returns-clause-accepts : goal.returns-clause-accepts
returns-clause-accepts c =
    answers_value (following_machine (survey_of (lines_of c.args.bytes.now))) lines_of IsOutOfMemory (λ fault. fault.line)
    (λ fault. fault.kind)
    c.args.bytes.now c.run.result (returns-clause-trace c) (returns-clause-refused c)

pub returns-clause-refuses : goal.returns-clause-refuses
returns-clause-refuses c =
    answers_fault (following_machine (survey_of (lines_of c.args.bytes.now))) lines_of IsOutOfMemory (λ fault. fault.line)
    (λ fault. fault.kind)
    c.args.bytes.now c.run.result (returns-clause-trace c) (returns-clause-refused c)
