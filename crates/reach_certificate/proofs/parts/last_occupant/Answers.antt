use Rattle.std.proofs.Common.{sym, ap, ◌∙◌}
use Rattle.strong_apa.specs.State.{task_on}
use Rattle.strong_apa.proofs.Linked.{linked_number}
use Rattle.reach_certificate.specs.Defect.{last_processor}
use Rattle.reach_certificate.proofs.parts.last_occupant.Goals as goal

pub returns-clause-number : goal.returns-clause-number
returns-clause-number c =
    linked_number c.args.links.now (last_processor c.args.chain.now) c.unwrap.result c.occupant.ensures.valid
    (ap (task_on c.args.links.now) (sym c.last_of.ensures.value) ∙ sym c.occupant.ensures.value ∙ c.unwrap.ensures)
