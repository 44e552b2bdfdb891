use Rattle.std.proofs.Common.{◌≡◌, length}
use Rattle.std.specs.Prelude.{fold}
use Rattle.text_fields.specs.Lines.{lines_of}
use Rattle.kernel_trace.specs.Survey.{nothing_sighted, sighted_line}
use Rattle.kernel_trace.specs.SurveyView.{sightings_of}
use Rattle.kernel_trace.proofs.survey.whole_from.Given as goal

abbrev pub invariant-loop-rest : goal.invariant-loop-rest
invariant-loop-rest l =
    fold (sighted_line l.fn.waking) (sightings_of l.sightings) (lines_of l.rest)
    ≡ fold (sighted_line l.fn.waking) nothing_sighted (lines_of l.fn.bytes)

abbrev pub decreases-loop-rest : goal.decreases-loop-rest
decreases-loop-rest l = length l.rest
