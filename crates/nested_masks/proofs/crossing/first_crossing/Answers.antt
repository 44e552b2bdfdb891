use Rattle.std.proofs.Common.{below_more, arith}
use Rattle.nested_masks.proofs.Scanned.{laminar_from, first_pair}
use Rattle.nested_masks.proofs.crossing.first_crossing.Goals as goal

pub returns-in-Some : goal.returns-in-Some
returns-in-Some c = first_pair c.args.masks.now c.loop-one.one c.in-Some.other c.loop-one.invariant c.in-Some.ensures

pub loop-one-preserved : goal.loop-one-preserved
loop-one-preserved c = below_more _ _ c.loop-one.invariant c.in_default.ensures

pub returns : goal.returns
returns c = laminar_from c.args.masks.now (λ t lt. c.loop-one.invariant t (omega arith))
