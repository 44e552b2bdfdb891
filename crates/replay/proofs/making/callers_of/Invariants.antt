use Rattle.std.proofs.Common.{◌<◌, ◌≤◌, ℕ, take, All}
use Rattle.trace_reader.specs.declared.posted.Posted.{Posted}
use Rattle.replay.proofs.making.callers_of.Given as goal

abbrev pub invariant-loop-posted : goal.invariant-loop-posted
invariant-loop-posted l = record {
  least : 1 ≤ l.callers;
  most : l.callers ≤ 16;
  above : All (λ (posted : Posted). posted.stream < l.callers) (take l.posted-index l.events);
  fewest : (n : ℕ) → 1 ≤ n → All (λ (posted : Posted). posted.stream < n) l.events → l.callers ≤ n;
}
