use Rattle.std.proofs.Common.{inl, inr, arith, sym, ◌∙◌}
use Rattle.std.proofs.lemmas.Bool.{cases_eq, true≢false}
use Rattle.nested_masks.proofs.crossing.first_crossed.Goals as goal

pub loop-other-preserved : goal.loop-other-preserved
loop-other-preserved c = λ u after within cross. elim (cases_eq u c.loop-other.other) [
  | inl e ↦ true≢false (sym (c.cross.ensures.1 (rw e at cross)) ∙ c.if-cross.false)
  | inr ne ↦ c.loop-other.invariant u after (omega arith) cross
]

pub returns : goal.returns
returns c = λ u after within cross. c.loop-other.invariant u after (omega arith) cross
