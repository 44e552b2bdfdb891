use Rattle.std.proofs.Common.{◌≡◌, ◌≤◌, ◌*◌, ◌^◌, take}
use Rattle.commands.specs.Summary.{sum_of_moves, trails_of}
use Rattle.commands.proofs.summary.totals_of.Given as goal

abbrev pub invariant-loop-context : goal.invariant-loop-context
invariant-loop-context l = record {
  moves : l.totals.moves ≡ sum_of_moves (take l.context-index l.contexts);
  small : l.totals.moves ≤ l.context-index * 2 ^ 64;
  trails : l.totals.trails ≡ trails_of (take l.context-index l.contexts);
}
