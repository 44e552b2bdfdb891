use Rattle.std.proofs.Common.{◌≡◌, ℕ, vec_len}
use Rattle.trace_bars.specs.Bars.{Shows}
use Rattle.trace_bars.specs.Sights.{Recording}
use Rattle.trace_bars.specs.Tracks.{IsLayerAt}
use Rattle.trace_bars.specs.declared.mark.Kind.{Kind}
use Rattle.trace_bars.proofs.Layers.{IsEnding}
use Rattle.trace_bars.proofs.layer.Layer.end.Given as goal

abbrev pub invariant-loop-t : goal.invariant-loop-t
invariant-loop-t l = record {
  on : (trace : Recording) (kind : Kind) (first : ℕ)
      → IsLayerAt (Shows trace kind) first l.last l.last l.fn.self.tracks.items l.fn.self.bars.items
      → IsEnding (Shows trace kind) first l.last l.t l.self.tracks.items l.self.bars.items;
  threads : vec_len l.self.tracks ≡ vec_len l.fn.self.tracks;
}
