use Rattle.nested_masks.proofs.Started.{few_masks}
use Rattle.nested_masks.proofs.Tallied.{tallied-start}
use Rattle.nested_masks.proofs.counts.Counts.new.Goals as goal

pub first_crossing-requires : goal.first_crossing-requires
first_crossing-requires c = rw (c.deref.ensures.value, c.in_ok-masks.ensures) (few_masks c.args.set.now c.len-count.ensures.valid)

pub invariant_of-result : goal.invariant_of-result
invariant_of-result c =
    rw (
      c.processors.ensures.value,
      c.in_ok-priorities.ensures,
      c.in_ok-masks.ensures,
      c.in_ok-ready.ensures.ready,
      c.in_ok-ready.ensures.linked,
      c.in_ok-ready.ensures.held,
      c.len-count.ensures.value,
    )
    (tallied-start c.args.set.now c.len-count.ensures.valid (rw (c.deref.ensures.value, c.in_ok-masks.ensures) at c.in_default.ensures))

pub returns-clause-laminar : goal.returns-clause-laminar
returns-clause-laminar c = rw (c.deref.ensures.value, c.in_ok-masks.ensures) at c.in_default.ensures
