use Rattle.std.proofs.Common.{◌≡◌, [], take, length}
use Rattle.trace_losses.specs.Watch.{AreWatches, stretches_of, longest_of}
use Rattle.trace_losses.proofs.count.new_watches.Given as goal

abbrev pub invariant-loop-tally : goal.invariant-loop-tally
invariant-loop-tally l = record {
  watches : AreWatches (length l.tallies) [] l.watches.items;
  stretches : stretches_of l.watches.items ≡ longest_of (take l.tally-index l.tallies);
}
