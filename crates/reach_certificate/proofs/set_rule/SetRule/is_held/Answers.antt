use Rattle.std.proofs.Common.{sym}
use Rattle.strong_apa.proofs.Linked.{linked_number}
use Rattle.reach_certificate.proofs.set_rule.SetRule.is_held.Goals as goal

pub effective-requires : goal.effective-requires
effective-requires c = linked_number c.args.links.now c.args.q c.in-Some.u c.occupant.ensures.valid (sym c.in-Some.ensures.value)

pub holds-requires-clause-occupant : goal.holds-requires-clause-occupant
holds-requires-clause-occupant c =
    linked_number c.args.links.now c.args.q c.in-Some.u c.occupant.ensures.valid (sym c.in-Some.ensures.value)
