use Rattle.std.proofs.Common.{◌≡◌, ℕ, true, List, inl, inr}
use Rattle.text_fields.specs.LineRule.{IsLineOutcome}
use Rattle.text_fields.specs.Machine.{Fails}
use Rattle.kernel_trace.specs.Course.{CourseData}
use Rattle.kernel_trace.specs.Reading.{course_of, progress_at, IsRefusedBy}
use Rattle.kernel_trace.specs.Survey.{SurveyData}
use Rattle.kernel_trace.specs.SurveyView.{look_of}
use Rattle.kernel_trace.specs.TraceFault.{trace_kind}
use Rattle.kernel_trace.specs.TraceText.{IsHeadOutcome, IsLine}
use Rattle.kernel_trace.specs.declared.fault.TraceKind.{TraceKind}
use Rattle.kernel_trace.specs.declared.stage.Step.{Step}
use Rattle.kernel_trace.specs.declared.stage.Step.TheVariants as step
use Rattle.kernel_trace.proofs.HeadLines.{head_line, on_ok, on_err}
use Rattle.kernel_trace.proofs.stage.Stage.after_line.Goals as goal

refused_line : (look : SurveyData) (s : Step) (c : CourseData) (line : List ℕ) (kind : TraceKind) → (s ≡ step.Trace → ⊥)
    → IsRefusedBy (IsLineOutcome 4096 true trace_kind IsHeadOutcome (progress_at s c) line) kind
    → IsRefusedBy (IsLine look (progress_at s c) line) kind
refused_line look s c line kind head (inl memory) = inl memory
refused_line look s c line kind head (inr comes) = inr (head_line look s c line (Fails kind) head comes)

pub returns-in_default : goal.returns-in_default
returns-in_default c =
    let look = look_of c.args.look in
    let s = c.args.self.now.step in
    let known = course_of c.args.self.now.course in
    record {
      read = on_ok c.after_head_line.result (λ comes. head_line look s known c.args.line.now _ c.in_default.not-Trace comes)
          c.after_head_line.ensures.read;
      refused = on_err c.after_head_line.result (λ kind comes. refused_line look s known c.args.line.now kind c.in_default.not-Trace comes)
          c.after_head_line.ensures.refused;
    }
