use Rattle.std.proofs.Common.{sym, ◌∙◌}
use Rattle.nested_masks.proofs.Kept.{free-between}
use Rattle.nested_masks.proofs.NestedSteps.{nested-entering, nested-staying_out, nested-displacing}
use Rattle.nested_masks.proofs.nested.Nested.arrive.Goals as goal

pub invariant_of-self : goal.invariant_of-self
invariant_of-self c = rw (c.link.ensures, c.make_ready.ensures)
    (nested-entering c.self.inside.counts c.self.invariant c.args.t (rw (← c.self.view_is) at c.requires)
    (sym c.is_ready.ensures ∙ c.if-is_ready.false) c.in_default.ensures)

pub invariant_of-self-in_default-displaced : goal.invariant_of-self-in_default-displaced
invariant_of-self-in_default-displaced c = rw c.make_ready-in_default-displaced.ensures
    (nested-staying_out c.self.inside.counts c.self.invariant c.args.t (rw (← c.self.view_is) at c.requires)
    (sym c.is_ready.ensures ∙ c.if-is_ready.false)
    c.in-Some.node c.in-Some.ensures c.in_default-displaced.ensures)

pub link-requires-2-clause-free : goal.link-requires-2-clause-free
link-requires-2-clause-free c = rw (c.unlink.ensures, c.make_ready-2.ensures)
    (free-between c.self.inside.counts c.self.invariant.counted c.args.t (rw (← c.self.view_is) at c.requires)
    (sym c.is_ready.ensures ∙ c.if-is_ready.false)
    c.in-Some.node c.in-Some-displaced.out c.in-Some.ensures c.in-Some-displaced.ensures.1 c.in-Some-displaced.ensures.2)

pub invariant_of-self-2 : goal.invariant_of-self-2
invariant_of-self-2 c = rw (c.link-2.ensures, c.unlink.ensures, c.make_ready-2.ensures)
    (nested-displacing c.self.inside.counts c.self.invariant c.args.t (rw (← c.self.view_is) at c.requires)
    (sym c.is_ready.ensures ∙ c.if-is_ready.false)
    c.in-Some.node c.in-Some-displaced.out c.in-Some.ensures c.in-Some-displaced.ensures.1 c.in-Some-displaced.ensures.2)
