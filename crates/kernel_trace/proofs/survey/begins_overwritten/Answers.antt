use Rattle.std.proofs.Common.{◌≡◌, [], List, ℕ, ap, ◌∙◌, sym, rules}
use Rattle.std.proofs.lemmas.List.{nil_from_length}
use Rattle.text_fields.specs.Lines.{lines_of}
use Rattle.kernel_trace.specs.Survey.{begins_overwritten}
use Rattle.kernel_trace.proofs.LinesRead.{first_of_lines, rest_is_shorter}
use Rattle.kernel_trace.proofs.Surveys.{overwritten_here, whole_here, no_event_here}
use Rattle.kernel_trace.proofs.survey.begins_overwritten.Goals as goal

pub loop-rest-preserved : goal.loop-rest-preserved
loop-rest-preserved c =
    c.loop-rest.invariant
    ∙ no_event_here c.args.waking _ _ _ (first_of_lines c.loop-rest.rest.now _ _ (search rules) c.first_line.ensures)
    (sym c.is_of_overwriting.ensures ∙ c.if-is_of_overwriting.false)
    (sym c.is_of_scheduler.ensures ∙ c.if-is_of_scheduler.false)

pub returns-then-is_of_overwriting : goal.returns-then-is_of_overwriting
returns-then-is_of_overwriting c =
    sym (c.loop-rest.invariant
    ∙ overwritten_here c.args.waking _ _ _ (first_of_lines c.loop-rest.rest.now _ _ (search rules) c.first_line.ensures)
    (sym c.is_of_overwriting.ensures ∙ c.if-is_of_overwriting.true))

pub returns-then-is_of_scheduler : goal.returns-then-is_of_scheduler
returns-then-is_of_scheduler c =
    sym (c.loop-rest.invariant
    ∙ whole_here c.args.waking _ _ _ (first_of_lines c.loop-rest.rest.now _ _ (search rules) c.first_line.ensures)
    (sym c.is_of_overwriting.ensures ∙ c.if-is_of_overwriting.false)
    (sym c.is_of_scheduler.ensures ∙ c.if-is_of_scheduler.true))

pub returns : goal.returns
returns c =
    let none : c.loop-rest.rest.now ≡ [] = nil_from_length c.loop-rest.rest.now (search rules) in
    sym (c.loop-rest.invariant ∙ ap (λ (rest : List ℕ). begins_overwritten c.args.waking (lines_of rest)) none)

pub loop-rest-smaller : goal.loop-rest-smaller
loop-rest-smaller c = rest_is_shorter c.loop-rest.rest.now _ _ (search rules) c.first_line.ensures
