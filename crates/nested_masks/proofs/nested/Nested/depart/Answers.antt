use Rattle.std.proofs.Common.{sym, ◌∙◌}
use Rattle.nested_masks.proofs.NestedSteps.{nested-leaving, nested-unfilled, nested-filled}
use Rattle.nested_masks.proofs.nested.Nested.depart.Goals as goal

pub invariant_of-self : goal.invariant_of-self
invariant_of-self c = rw c.leave.ensures (nested-leaving c.self.inside.counts c.self.invariant c.args.t
    (rw (← c.self.view_is) at c.requires) (sym c.is_linked.ensures ∙ c.if-not-is_linked.true))

pub invariant_of-self-in_default : goal.invariant_of-self-in_default
invariant_of-self-in_default c = rw c.leave-2.ensures
    (nested-unfilled c.self.inside.counts c.self.invariant c.args.t (rw (← c.self.view_is) at c.requires)
    (sym c.is_linked.ensures ∙ c.if-not-is_linked.false)
    (rw c.leave-2.ensures at c.in_default.ensures))

pub invariant_of-self-2 : goal.invariant_of-self-2
invariant_of-self-2 c =
    let first = rw c.leave-2.ensures at c.in-Some.ensures in
    rw (c.link.ensures, c.leave-2.ensures) (nested-filled c.self.inside.counts c.self.invariant c.args.t
    (rw (← c.self.view_is) at c.requires) (sym c.is_linked.ensures ∙ c.if-not-is_linked.false) c.in-Some.w first.0 first.1)
