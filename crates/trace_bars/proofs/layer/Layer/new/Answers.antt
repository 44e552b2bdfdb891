use Rattle.std.proofs.Common.{List, sym, subst}
use Rattle.trace_bars.specs.Bars.{Shows}
use Rattle.trace_bars.specs.Tracks.{IsLayerAt}
use Rattle.trace_bars.specs.declared.mark.Bar.{Bar}
use Rattle.trace_bars.proofs.Layers.{layer_none}
use Rattle.trace_bars.proofs.layer.Layer.new.Goals as goal

pub returns-clause-layer : goal.returns-clause-layer
returns-clause-layer c = λ trace kind last.
    subst (λ (bars : List Bar). IsLayerAt (Shows trace kind) c.args.first last c.args.first c.loop-thread.tracks.items bars)
    (sym c.new.ensures.items)
    (layer_none (Shows trace kind) c.args.first last _ _ c.loop-thread.invariant)
