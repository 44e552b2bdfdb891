-- Before the trace a line is one of the head.
use Rattle.std.proofs.Common.{◌≡◌, ℕ, true, List, Result, Ok, Err, IfErr, refl}
use Rattle.std.specs.Prelude.{OnOk}
use Rattle.text_fields.specs.LineRule.{IsLineOutcome}
use Rattle.kernel_trace.specs.Course.{CourseData}
use Rattle.kernel_trace.specs.Reading.{progress_at}
use Rattle.kernel_trace.specs.Survey.{SurveyData}
use Rattle.kernel_trace.specs.TraceFault.{trace_kind}
use Rattle.kernel_trace.specs.TraceText.{LineOutcome, IsHeadOutcome, IsLine}
use Rattle.kernel_trace.specs.declared.stage.Step.{Step}
use Rattle.kernel_trace.specs.declared.stage.Step.TheVariants as step

pub head_line : (look : SurveyData) (s : Step) (c : CourseData) (line : List ℕ) (outcome : LineOutcome) → (s ≡ step.Trace → ⊥)
    → IsLineOutcome 4096 true trace_kind IsHeadOutcome (progress_at s c) line outcome → IsLine look (progress_at s c) line outcome
head_line look step.Header c line outcome head comes = comes
head_line look step.Processors c line outcome head comes = comes
head_line look step.Head c line outcome head comes = comes
head_line look step.Trace c line outcome head comes = absurd (head refl)

pub on_ok : {A E : Type 0} {P Q : Type 0} (result : Result A E) → (P → Q) → OnOk result P → OnOk result Q
on_ok (Ok value) then holds = then holds
on_ok (Err fault) then holds = tt

pub on_err : {A E : Type 0} {P Q : E → Type 0} (result : Result A E) → ((e : E) → P e → Q e) → IfErr result P → IfErr result Q
on_err (Ok value) then holds = tt
on_err (Err fault) then holds = then fault holds
