use Rattle.strong_apa.proofs.Linked.{linked_number}
use Rattle.reach_certificate.proofs.change.move_off.Goals as goal

pub leave-requires-clause-number : goal.leave-requires-clause-number
leave-requires-clause-number c =
    linked_number c.args.links.now c.args.p c.args.moved.now.task c.processors.ensures.valid c.requires.occupied

pub come-requires-clause-number : goal.come-requires-clause-number
come-requires-clause-number c = rw (c.set_online.ensures.online, c.leave.ensures.left)
    (linked_number c.args.links.now c.args.p c.args.moved.now.task c.processors.ensures.valid c.requires.occupied)
