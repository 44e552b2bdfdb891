use Rattle.std.proofs.Common.{sym, ◌∙◌, subst, ◌<◌}
use Rattle.std.proofs.lemmas.Bool.{true≢false}
use Rattle.strong_apa.specs.State.{State}
use Rattle.strong_apa.proofs.Linked.{linked_from_not_waiting, occupied_number}
use Rattle.task_shift.proofs.departure.withdraw.Goals as goal

pub leave-p-requires-clause-linked : goal.leave-p-requires-clause-linked
leave-p-requires-clause-linked c = linked_from_not_waiting c.args.links.now c.args.t c.requires.ready
    (λ waits. true≢false (sym (c.is_waiting.ensures.test.1 waits) ∙ c.if-is_waiting.false))

-- the processor that t left is one of the processors
pub fill-requires : goal.fill-requires
fill-requires c = subst (λ (s : State). c.leave-p.result < s.processors) (sym c.leave-p.ensures.left)
    (occupied_number c.args.links.now c.leave-p.result c.args.t c.is_waiting.ensures.valid c.leave-p.ensures.place)

pub returns-clause-leaves : goal.returns-clause-leaves
returns-clause-leaves c = (c.leave-p.result, c.leave-p.ensures.place, rw c.leave-p.ensures.left at c.fill.ensures.fills)
