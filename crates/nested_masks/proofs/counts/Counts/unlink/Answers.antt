use Rattle.nested_masks.specs.Views.{counts_view}
use Rattle.nested_masks.proofs.Tallied.{tallied_some, tallied-unlinked}
use Rattle.nested_masks.proofs.counts.Counts.unlink.Goals as goal

pub hold_one_less-requires-clause-some : goal.hold_one_less-requires-clause-some
hold_one_less-requires-clause-some c =
    let s = c.self.inside in
    let number = rw (← c.self.view_is) at c.requires.number in
    let linked = rw (← c.self.view_is) at c.requires.linked in
    rw (c.deref.ensures.value, c.mask-mask.ensures.value, ← c.self.view_is)
    (tallied_some (counts_view s) s.held.items c.self.invariant c.args.t number linked)

pub invariant_of-self : goal.invariant_of-self
invariant_of-self c =
    let s = c.self.inside in
    tallied-unlinked (counts_view s) s.held.items c.self.invariant c.args.t (rw (← c.self.view_is) at c.requires.number)
    (rw (← c.self.view_is) at c.requires.linked) c.hold_one_less.new.held.items
    (rw (c.deref.ensures.value, c.mask-mask.ensures.value, ← c.self.view_is) at c.hold_one_less.ensures)
