use Rattle.std.proofs.Common.{arith, refl, ◌∙◌}
use Rattle.trace_bars.specs.Bars.{Shows}
use Rattle.trace_bars.proofs.Layers.{midway_none, midway_on, midway_all}
use Rattle.trace_bars.proofs.layer.Layer.see.Goals as goal

pub loop-t-init : goal.loop-t-init
loop-t-init c = record {
  on = λ trace first last next some within are layer. midway_none (Shows trace c.args.kind) first last c.args.now next _ _ layer;
  threads = refl;
}

pub loop-t-preserved : goal.loop-t-preserved
loop-t-preserved c = record {
  on = λ trace first last next some within are layer.
      midway_on (Shows trace c.args.kind) first last c.args.now next c.loop-t.t c.mark_of.result _ _ _ _
      (let threads = c.loop-t.invariant.threads in omega (arith, threads)) some within
      (λ x from until. record { sights = c.args.sights.now; are = are x from until; is = c.mark_of.ensures })
      c.in_ok-turn.ensures.turns
      (c.loop-t.invariant.on trace first last next some within are layer);
  threads = c.in_ok-turn.ensures.threads ∙ c.loop-t.invariant.threads;
}

pub returns : goal.returns
returns c = record {
  on = λ trace first last next some within are layer.
      midway_all (Shows trace c.args.kind) first last c.args.now next c.loop-t.t _ _
      (let threads = c.loop-t.invariant.threads in omega (arith, threads))
      (c.loop-t.invariant.on trace first last next some within are layer);
  threads = c.loop-t.invariant.threads;
}
