use Rattle.strong_apa.proofs.Readiness.{absent_not_linked}
use Rattle.reach_certificate.proofs.parts.enter.Goals as goal

pub enter-requires-clause-not_linked : goal.enter-requires-clause-not_linked
enter-requires-clause-not_linked c =
    absent_not_linked c.args.links.now c.len-valid.ensures.valid c.args.t c.requires.number c.requires.absent
