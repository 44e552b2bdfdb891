use Rattle.std.proofs.Common.{◌≡◌, ◌≢◌, ℕ, ◌<◌, true, get_or}
use Rattle.affinity_mask.specs.ProcSet.{has}
use Rattle.tests.proofs.stated.is_simple.Given as goal

abbrev pub invariant-loop-i : goal.invariant-loop-i
invariant-loop-i l = record {
  seen : (k : ℕ) → k < l.i → has l.seen (get_or l.chain k 0) ≡ true;
  apart : (j k : ℕ) → j < k → k < l.i → get_or l.chain j 0 ≢ get_or l.chain k 0;
}
