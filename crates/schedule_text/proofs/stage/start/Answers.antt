use Rattle.std.proofs.Common.{ℕ, [], inl, inr, refl, ap, ◌∙◌}
use Rattle.std.specs.Prelude.{codes}
use Rattle.text_fields.specs.Machine.{Leads}
use Rattle.schedule_text.specs.LineOutcome.{IsNumberOutcome}
use Rattle.schedule_text.specs.Prefix.{TasksExpected}
use Rattle.schedule_text.specs.Reading.{progress_of}
use Rattle.schedule_text.proofs.Stages.{at_fields}
use Rattle.schedule_text.proofs.stage.start.Goals as goal

pub returns-in_default-clause-refused : goal.returns-in_default-clause-refused
returns-in_default-clause-refused c =
    inr (at_fields (IsNumberOutcome (codes "processors") 1 64
    (λ (m : ℕ). TasksExpected c.args.version (record { processors = m; tasks = [] }))) _ _ _ c.in_ok-fields.ensures
    (inr (c.in_default.ensures, refl)))

pub returns-clause-read : goal.returns-clause-read
returns-clause-read c =
    at_fields (IsNumberOutcome (codes "processors") 1 64
    (λ (m : ℕ). TasksExpected c.args.version (record { processors = m; tasks = [] }))) _ _ _ c.in_ok-fields.ensures
    (inl (
      c.in-Some.processors,
      c.in-Some.ensures,
      ap (λ stage. Leads (progress_of stage)) c.go_on.ensures
          ∙ ap (λ set. Leads (TasksExpected c.args.version set)) c.in_ok-set.ensures,
    ))
