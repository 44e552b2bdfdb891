use Rattle.strong_apa.proofs.Unique.{ready_number}
use Rattle.reach_certificate.proofs.entrant.wrong_entrant.Goals as goal

pub effective-requires : goal.effective-requires
effective-requires c = ready_number c.args.links.now c.in-Some.ensures.valid c.in-Some.v c.in-Some.ensures.test.waits.ready
