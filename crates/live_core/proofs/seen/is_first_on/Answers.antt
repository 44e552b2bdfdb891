use Rattle.std.proofs.Common.{sym, ap}
use Rattle.strong_apa.specs.State.{task_count}
use Rattle.strong_apa.proofs.Linked.{linked_number}
use Rattle.live_core.proofs.seen.is_first_on.Goals as goal

pub priority-requires-in-Some : goal.priority-requires-in-Some
priority-requires-in-Some c = rw (← ap task_count c.requires.same)
    (linked_number c.args.table.now c.args.q c.in-Some.u c.in-Some.ensures.valid (sym c.in-Some.ensures.value))
