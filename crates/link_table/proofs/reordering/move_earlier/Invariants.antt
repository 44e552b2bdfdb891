use Rattle.std.proofs.Common.{◌<◌, length}
use Rattle.link_table.specs.Reordering.{IsNonDecreasingBut, IsMostUrgentFrom, Reordered}
use Rattle.link_table.proofs.reordering.move_earlier.Given as goal

abbrev pub invariant-loop-r : goal.invariant-loop-r
invariant-loop-r l = record {
  within : l.r < length l.order;
  sorted : IsNonDecreasingBut l.r l.order;
  urgent : IsMostUrgentFrom l.r l.order;
  moved : Reordered l.fn.order l.fn.ranks l.fn.sets l.order l.ranks l.sets;
}

abbrev pub decreases-loop-r : goal.decreases-loop-r
decreases-loop-r l = l.r
