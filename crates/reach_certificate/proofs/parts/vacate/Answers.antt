use Rattle.std.proofs.Common.{[], ◌∷◌, ap, ◌∙◌}
use Rattle.strong_apa.specs.State.{State, state_with_ready}
use Rattle.strong_apa.specs.Chain.{state_after_shift}
use Rattle.reach_certificate.proofs.Returning.{came_back}
use Rattle.reach_certificate.proofs.parts.vacate.Goals as goal

pub returns-in-Some-clause-refused : goal.returns-in-Some-clause-refused
returns-in-Some-clause-refused c =
    c.come_back.ensures
    ∙ ap (λ (s : State). state_after_shift (state_with_ready s c.args.t) c.args.t (c.leave-p.result ∷ [])) c.leave-p.ensures.left
    ∙ came_back c.args.links.now c.len.ensures.valid c.args.t c.leave-p.result c.leave-p.ensures.place
