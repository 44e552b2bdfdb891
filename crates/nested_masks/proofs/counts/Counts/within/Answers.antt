use Rattle.std.proofs.Common.{◌≤◌, sym, refl, arith}
use Rattle.std.proofs.lemmas.Bool.{false≢true}
use Rattle.strong_apa.proofs.Counts.{count_below-zero, count_below-bound}
use Rattle.nested_masks.specs.NestedData.{linked_of, mask_in}
use Rattle.nested_masks.proofs.Scanned.{held_one_more, held_no_more}
use Rattle.nested_masks.proofs.counts.Counts.within.Goals as goal
use Rattle.nested_masks.proofs.counts.Counts.within.Goals.{then-is_held, else-is_held}

pub loop-t-init : goal.loop-t-init
loop-t-init c = sym (count_below-zero _)

pub overflow_add-count : goal.overflow_add-count
overflow_add-count c = let bound : c.loop-t.count ≤ c.loop-t.t = rw c.loop-t.invariant (count_below-bound _ c.loop-t.t) in omega arith

pub loop-t-preserved : goal.loop-t-preserved
loop-t-preserved c = elim c.if-is_held.branch [
  | then-is_held w ↦ rw w.count-is (held_one_more (linked_of c.args.self.now) _ c.args.x c.loop-t.t c.loop-t.count (mask_in c.args.self.now)
      refl c.loop-t.invariant (c.is_held.ensures.0 w.if-is_held.true))
  | else-is_held w ↦ rw w.count-is (held_no_more (linked_of c.args.self.now) _ c.args.x c.loop-t.t c.loop-t.count (mask_in c.args.self.now)
      refl c.loop-t.invariant (λ here. false≢true (w.if-is_held.ensures.1 here)))
]
