use Rattle.nested_masks.specs.Views.{counts_view}
use Rattle.nested_masks.proofs.Tallied.{tallied_few, tallied-linked}
use Rattle.nested_masks.proofs.counts.Counts.link.Goals as goal

pub hold_one_more-requires-clause-few : goal.hold_one_more-requires-clause-few
hold_one_more-requires-clause-few c =
    rw c.deref.ensures.value (tallied_few (counts_view c.self.inside) c.self.inside.held.items c.self.invariant)

pub invariant_of-self : goal.invariant_of-self
invariant_of-self c =
    let s = c.self.inside in
    tallied-linked (counts_view s) s.held.items c.self.invariant c.args.t (rw (← c.self.view_is) at c.requires.number)
    (rw (← c.self.view_is) at c.requires.ready)
    (rw (← c.self.view_is) at c.requires.not_linked) (rw (← c.self.view_is) at c.requires.free) c.hold_one_more.new.held.items
    (rw (c.deref.ensures.value, c.mask-mask.ensures.value, ← c.self.view_is) at c.hold_one_more.ensures)
