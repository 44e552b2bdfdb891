use Rattle.std.proofs.Common.{◌≡◌, [], List, ℕ, ap, ◌∙◌, sym, rules}
use Rattle.std.specs.List.{list_any}
use Rattle.std.proofs.lemmas.List.{nil_from_length}
use Rattle.text_fields.specs.Lines.{lines_of}
use Rattle.kernel_trace.specs.Survey.{has_wakeup}
use Rattle.kernel_trace.proofs.LinesRead.{first_of_lines, rest_is_shorter}
use Rattle.kernel_trace.proofs.Surveys.{found_line, passed_line}
use Rattle.kernel_trace.proofs.survey.has_wakeup.Goals as goal

pub loop-rest-preserved : goal.loop-rest-preserved
loop-rest-preserved c =
    c.loop-rest.invariant
    ∙ passed_line _ _ _ (first_of_lines c.loop-rest.rest.now _ _ (search rules) c.first_line.ensures)
    (sym c.line_has_wakeup.ensures ∙ c.if-line_has_wakeup.false)

pub returns-then-line_has_wakeup : goal.returns-then-line_has_wakeup
returns-then-line_has_wakeup c =
    sym (c.loop-rest.invariant
    ∙ found_line _ _ _ (first_of_lines c.loop-rest.rest.now _ _ (search rules) c.first_line.ensures)
    (sym c.line_has_wakeup.ensures ∙ c.if-line_has_wakeup.true))

pub returns : goal.returns
returns c =
    let none : c.loop-rest.rest.now ≡ [] = nil_from_length c.loop-rest.rest.now (search rules) in
    sym (c.loop-rest.invariant ∙ ap (λ (rest : List ℕ). list_any has_wakeup (lines_of rest)) none)

pub loop-rest-smaller : goal.loop-rest-smaller
loop-rest-smaller c = rest_is_shorter c.loop-rest.rest.now _ _ (search rules) c.first_line.ensures
