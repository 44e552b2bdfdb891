use Rattle.std.proofs.Common.{arith, refl, ◌∙◌}
use Rattle.trace_bars.specs.Bars.{Shows}
use Rattle.trace_bars.proofs.Layers.{ending_none, ending_on, ending_all}
use Rattle.trace_bars.proofs.layer.Layer.end.Goals as goal

pub loop-t-init : goal.loop-t-init
loop-t-init c = record {
  on = λ trace kind first layer. ending_none (Shows trace kind) first c.args.last _ _ layer;
  threads = refl;
}

pub loop-t-preserved : goal.loop-t-preserved
loop-t-preserved c = record {
  on = λ trace kind first layer.
      ending_on (Shows trace kind) first c.args.last c.loop-t.t _ _ _ _
      (let threads = c.loop-t.invariant.threads in omega (arith, threads)) c.in_ok-turn.ensures.turns
      (c.loop-t.invariant.on trace kind first layer);
  threads = c.in_ok-turn.ensures.threads ∙ c.loop-t.invariant.threads;
}

pub returns : goal.returns
returns c = λ trace kind first layer.
    ending_all (Shows trace kind) first c.args.last _ c.loop-t.t _ _ (omega arith)
    (let threads = c.loop-t.invariant.threads in omega (arith, threads))
    (c.loop-t.invariant.on trace kind first layer)
