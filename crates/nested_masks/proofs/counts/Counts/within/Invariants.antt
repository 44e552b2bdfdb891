use Rattle.std.proofs.Common.{◌≡◌, ◌&&◌}
use Rattle.strong_apa.proofs.Counts.{count_below}
use Rattle.nested_masks.specs.Laminar.{is_within}
use Rattle.nested_masks.specs.NestedData.{linked_of, mask_in}
use Rattle.nested_masks.proofs.counts.Counts.within.Given as goal

abbrev pub invariant-loop-t : goal.invariant-loop-t
invariant-loop-t l = l.count ≡ count_below (λ u. linked_of l.self u && is_within (mask_in l.self u) l.x) l.t
