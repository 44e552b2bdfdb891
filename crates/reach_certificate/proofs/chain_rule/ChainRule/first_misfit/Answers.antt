use Rattle.std.proofs.Common.{below_more, arith}
use Rattle.reach_certificate.proofs.Seen.{seen_none, seen_more}
use Rattle.reach_certificate.proofs.chain_rule.ChainRule.first_misfit.Goals as goal

pub loop-i-init : goal.loop-i-init
loop-i-init c = record {
  seen = seen_none c.args.chain.now c.empty-seen.result c.empty-seen.ensures;
  fit = λ k lt. absurd (omega arith);
}

pub loop-i-preserved : goal.loop-i-preserved
loop-i-preserved c = record {
  seen = seen_more c.args.chain.now c.loop-i.i c.at.result c.loop-i.seen c.with-seen.result c.at.ensures.value c.with-seen.ensures
      c.loop-i.invariant.seen;
  fit = below_more _ _ c.loop-i.invariant.fit (c.fits.ensures.0 c.if-not-fits.false);
}
