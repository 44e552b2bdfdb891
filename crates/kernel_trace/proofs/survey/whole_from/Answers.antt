use Rattle.std.proofs.Common.{List, ℕ, ap, ◌∙◌, sym, rules}
use Rattle.std.specs.Prelude.{fold}
use Rattle.text_fields.specs.Lines.{lines_of}
use Rattle.kernel_trace.specs.Survey.{SightingData, sighted_line}
use Rattle.kernel_trace.specs.SurveyView.{sightings_of}
use Rattle.kernel_trace.proofs.LinesRead.{first_of_lines, rest_is_shorter}
use Rattle.kernel_trace.proofs.survey.whole_from.Goals as goal

pub loop-rest-preserved : goal.loop-rest-preserved
loop-rest-preserved c =
    let cut = first_of_lines c.loop-rest.rest.now _ _ (search rules) c.first_line.ensures in
    let f : SightingData → List ℕ → SightingData = sighted_line c.args.waking in
    ap (λ (s : SightingData). fold f s (lines_of c.first_line.result.1.now)) c.in_ok-see.ensures
    ∙ ap (fold f (sightings_of c.loop-rest.sightings)) (sym cut)
    ∙ c.loop-rest.invariant

pub loop-rest-smaller : goal.loop-rest-smaller
loop-rest-smaller c = rest_is_shorter c.loop-rest.rest.now _ _ (search rules) c.first_line.ensures
