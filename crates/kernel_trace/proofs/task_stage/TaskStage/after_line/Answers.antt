use Rattle.std.proofs.Common.{◌≡◌, ℕ, true, List, Option, refl, inl, inr}
use Rattle.text_fields.specs.LineRule.{IsLineOutcome}
use Rattle.text_fields.specs.Machine.{Leads, Fails}
use Rattle.kernel_trace.specs.Course.{CourseData}
use Rattle.kernel_trace.specs.Passage.{FollowingData, head_outcome, IsFollowed}
use Rattle.kernel_trace.specs.PassageView.{following_of, IsRefusedBy as IsRefusedAs}
use Rattle.kernel_trace.specs.Reading.{course_of, progress_of, progress_at, IsRefusedBy}
use Rattle.kernel_trace.specs.Survey.{SurveyData}
use Rattle.kernel_trace.specs.SurveyView.{look_of}
use Rattle.kernel_trace.specs.TraceFault.{trace_kind}
use Rattle.kernel_trace.specs.TraceText.{LineOutcome, IsHeadOutcome}
use Rattle.kernel_trace.specs.declared.fault.TraceKind.{TraceKind}
use Rattle.trace_passages.specs.declared.passage.Passage.{Passage}
use Rattle.kernel_trace.specs.declared.stage.Step.{Step}
use Rattle.kernel_trace.specs.declared.stage.Step.TheVariants as step
use Rattle.kernel_trace.proofs.HeadLines.{head_line, on_ok, on_err}
use Rattle.kernel_trace.proofs.task_stage.TaskStage.after_line.Goals as goal

-- what is known at a step
abbrev following_at : Step → CourseData → Option ℕ → List Passage → List ℕ → FollowingData
following_at s c start passages unlisted =
    record { progress = progress_at s c; start = start; passages = passages; unlisted = unlisted }

followed_line : (look : SurveyData) (s : Step) (c : CourseData) (start : Option ℕ) (passages : List Passage) (unlisted line : List ℕ)
    (outcome : LineOutcome) → (s ≡ step.Trace → ⊥)
    → IsLineOutcome 4096 true trace_kind IsHeadOutcome (progress_at s c) line outcome
    → IsFollowed look (following_at s c start passages unlisted) line (head_outcome (following_at s c start passages unlisted) outcome)
followed_line look step.Header c start passages unlisted line outcome head comes =
    (outcome, head_line look step.Header c line outcome head comes, refl)
followed_line look step.Processors c start passages unlisted line outcome head comes =
    (outcome, head_line look step.Processors c line outcome head comes, refl)
followed_line look step.Head c start passages unlisted line outcome head comes =
    (outcome, head_line look step.Head c line outcome head comes, refl)
followed_line look step.Trace c start passages unlisted line outcome head comes = absurd (head refl)

refused_line : (look : SurveyData) (s : Step) (c : CourseData) (start : Option ℕ) (passages : List Passage) (unlisted line : List ℕ)
    (kind : TraceKind) → (s ≡ step.Trace → ⊥)
    → IsRefusedBy (IsLineOutcome 4096 true trace_kind IsHeadOutcome (progress_at s c) line) kind
    → IsRefusedAs (IsFollowed look (following_at s c start passages unlisted) line) kind
refused_line look s c start passages unlisted line kind head (inl memory) = inl memory
refused_line look s c start passages unlisted line kind head (inr comes) =
    inr (followed_line look s c start passages unlisted line (Fails kind) head comes)

pub returns-in_default : goal.returns-in_default
returns-in_default c =
    let look = look_of c.args.look in
    let s = c.args.self.now.stage.step in
    let known = course_of c.args.self.now.stage.course in
    let f = following_of c.args.self.now in
    record {
      read = on_ok c.after_head_line.result
          (λ comes. followed_line look s known f.start f.passages f.unlisted c.args.line.now
          (Leads (progress_of c.after_head_line.new.self))
          c.in_default.not-Trace comes)
          c.after_head_line.ensures.read;
      refused = on_err c.after_head_line.result
          (λ kind comes. refused_line look s known f.start f.passages f.unlisted c.args.line.now kind c.in_default.not-Trace comes)
          c.after_head_line.ensures.refused;
    }
