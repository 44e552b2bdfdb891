use Rattle.std.proofs.Common.{sym}
use Rattle.strong_apa.specs.State.{state_after_leaving}
use Rattle.strong_apa.proofs.Linked.{linked_number}
use Rattle.weak_apa.proofs.Leaving.{beside_from_stable, stable_left, stable_offline}
use Rattle.weak_apa.proofs.weak.offline.Goals as goal

pub returns-in_default-clause-stable : goal.returns-in_default-clause-stable
returns-in_default-clause-stable c =
    rw c.set_online.ensures.online (stable_offline c.args.links.now c.args.p
    (beside_from_stable c.args.links.now c.args.p c.requires.stable))

pub leave-requires-clause-number : goal.leave-requires-clause-number
leave-requires-clause-number c =
    linked_number c.args.links.now c.args.p c.in-Some.task c.is_online.ensures.valid (sym c.in-Some.ensures.value)

pub come-requires-clause-number : goal.come-requires-clause-number
come-requires-clause-number c =
    rw (c.set_online-2.ensures.online, c.leave.ensures.left)
    (linked_number c.args.links.now c.args.p c.in-Some.task c.is_online.ensures.valid (sym c.in-Some.ensures.value))

pub come-requires-clause-stable : goal.come-requires-clause-stable
come-requires-clause-stable c =
    let s = c.args.links.now in
    let on = sym c.in-Some.ensures.value in
    let number = linked_number s c.args.p c.in-Some.task c.is_online.ensures.valid on in
    rw (c.set_online-2.ensures.online, c.leave.ensures.left)
    (stable_offline (state_after_leaving s c.in-Some.task) c.args.p
    (stable_left s c.is_online.ensures.valid c.in-Some.task number c.requires.stable c.args.p on))
