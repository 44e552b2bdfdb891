use Rattle.std.proofs.Common.{◌≡◌, ◌++◌, drop, length, Some, List, Option, ℕ}
use Rattle.live_core.specs.Lost.{state_held}
use Rattle.trace_losses.specs.ChainAt.{steps_of}
use Rattle.trace_losses.proofs.chains.steps_along.Given as goal

abbrev pub invariant-loop-p : goal.invariant-loop-p
invariant-loop-p l = record {
  items : l.p-items ≡ l.chain;
  all : l.p-index-end ≡ length l.p-items;
  along : (on : List (Option ℕ)) → l.core.holders ≡ Some on
      → l.steps.items ++ steps_of (state_held l.core.links on) l.guest (drop l.p-index l.p-items)
      ≡ steps_of (state_held l.core.links on) (Some l.task) l.chain;
}
