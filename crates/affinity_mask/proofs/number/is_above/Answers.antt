use Rattle.std.proofs.Common.{arith, ◌<◌, length, eqb-true}
use Rattle.std.proofs.lemmas.Bool.{lt-ltb}
use Rattle.affinity_mask.proofs.Numbers.{above-longer, above-compared}
use Rattle.affinity_mask.proofs.number.is_above.Goals as goal

pub returns-then-number-other : goal.returns-then-number-other
returns-then-number-other c =
    let above = above-longer _ _ _ _ c.significant-number.ensures c.significant-other.ensures c.if-number-other.true in
    (λ yes. above, λ lt. lt-ltb _ _ c.if-number-other.true)

pub returns-then-number-other-2 : goal.returns-then-number-other-2
returns-then-number-other-2 c =
    above-compared _ _ _ _ c.gt.result c.significant-number.ensures c.significant-other.ensures c.if-number-other-2.true c.gt.ensures

pub returns-else-number-other-2 : goal.returns-else-number-other-2
returns-else-number-other-2 c =
    let shorter : length c.significant-number.result.now < length c.significant-other.result.now = omega arith in
    let below = above-longer _ _ _ _ c.significant-other.ensures c.significant-number.ensures shorter in
    (λ yes. absurd (c.if-number-other-2.false (eqb-true _ _ yes)), λ lt. absurd (omega (arith, lt, below)))
