use Rattle.std.proofs.Common.{sym}
use Rattle.strong_apa.proofs.Linked.{linked_number}
use Rattle.weak_apa.proofs.comparison.only_on.Goals as goal

pub of-requires : goal.of-requires
of-requires c =
    rw c.requires.tasks.priorities (linked_number c.args.one.now c.args.p c.in_ok-t.t c.in_ok-t.ensures.valid (sym c.in_ok-t.ensures.value))
