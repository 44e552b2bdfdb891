use Rattle.std.proofs.Common.{◌≡◌, ℕ, ◌<◌, ◌≤◌, vec_len}
use Rattle.trace_bars.specs.Bars.{Shows}
use Rattle.trace_bars.specs.Sights.{Recording, IsSightsAt}
use Rattle.trace_bars.specs.Tracks.{IsLayerAt}
use Rattle.trace_bars.proofs.Layers.{IsMidway}
use Rattle.trace_bars.proofs.layer.Layer.see.Given as goal

abbrev pub invariant-loop-t : goal.invariant-loop-t
invariant-loop-t l = record {
  on : (trace : Recording) (first last next : ℕ) → l.now < next → next ≤ last
      → ((x : ℕ) → l.now ≤ x → x < next → IsSightsAt trace x l.sights)
      → IsLayerAt (Shows trace l.kind) first last l.now l.fn.self.tracks.items l.fn.self.bars.items
      → IsMidway (Shows trace l.kind) first last l.now next l.t l.self.tracks.items l.self.bars.items;
  threads : vec_len l.self.tracks ≡ vec_len l.fn.self.tracks;
}
