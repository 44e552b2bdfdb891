use Rattle.std.proofs.Common.{inl, inr, refl, ap}
use Rattle.std.specs.Prelude.{codes}
use Rattle.text_fields.specs.Machine.{Leads}
use Rattle.schedule_text.specs.LineOutcome.{IsNumberOutcome}
use Rattle.schedule_text.specs.Prefix.{ProcessorsExpected}
use Rattle.schedule_text.specs.Reading.{progress_of}
use Rattle.schedule_text.proofs.Stages.{at_fields}
use Rattle.schedule_text.proofs.stage.read_header.Goals as goal

pub returns-in-Some-clause-read : goal.returns-in-Some-clause-read
returns-in-Some-clause-read c =
    at_fields (IsNumberOutcome (codes "schedule") 1 2 ProcessorsExpected) _ _ _ c.in_ok-fields.ensures
    (inl (c.in-Some.version, c.in-Some.ensures, ap (λ stage. Leads (progress_of stage)) c.go_on.ensures))

pub returns-in-None-clause-refused : goal.returns-in-None-clause-refused
returns-in-None-clause-refused c =
    inr (at_fields (IsNumberOutcome (codes "schedule") 1 2 ProcessorsExpected) _ _ _ c.in_ok-fields.ensures
    (inr (c.in-None.ensures, refl)))
