use Rattle.nested_masks.specs.Counting.{HoldMoreAround}
use Rattle.nested_masks.proofs.held_counts.hold_one_less.Given as goal

abbrev pub invariant-loop-u : goal.invariant-loop-u
invariant-loop-u l = HoldMoreAround l.masks l.mask l.u l.held.items l.fn.held.items
