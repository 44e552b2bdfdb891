use Rattle.std.proofs.Common.{ℕ, ◌<◌, IsTrue, ◌↔◌}
use Rattle.affinity_mask.specs.ProcSet.{has}
use Rattle.reach_certificate.specs.Judging.{FitsChainRule, ComesBefore}
use Rattle.reach_certificate.proofs.chain_rule.ChainRule.first_misfit.Given as goal

abbrev pub invariant-loop-i : goal.invariant-loop-i
invariant-loop-i l = record {
  seen : (q : ℕ) → IsTrue (has l.seen q) ↔ ComesBefore l.chain l.i q;
  fit : (k : ℕ) → k < l.i → FitsChainRule l.links l.self l.chain k;
}
