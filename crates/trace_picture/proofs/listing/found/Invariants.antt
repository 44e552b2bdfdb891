use Rattle.std.proofs.Common.{◌≡◌}
use Rattle.std.specs.Prelude.{filter}
use Rattle.std.specs.List.{range_with_len}
use Rattle.trace_picture.specs.Listing.{has_row}
use Rattle.trace_picture.proofs.listing.found.Given as goal

abbrev pub invariant-loop-t : goal.invariant-loop-t
invariant-loop-t l = l.found.items ≡ filter (has_row l.fn.tasks l.bars) (range_with_len 0 l.t)
