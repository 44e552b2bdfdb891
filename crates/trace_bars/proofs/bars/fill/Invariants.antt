use Rattle.std.proofs.Common.{◌≡◌, ◌-◌, take, vec_len}
use Rattle.std.specs.Prelude.{reverse}
use Rattle.trace_passages.specs.Passages.{moment_at}
use Rattle.trace_losses.specs.Walk.{IsWalkAt}
use Rattle.trace_bars.specs.Parts.{AreLayersAt, HasTracks, clipped, trace_of}
use Rattle.trace_bars.specs.Sights.{FollowsTo}
use Rattle.trace_bars.proofs.bars.fill.Given as goal

abbrev pub invariant-loop-i : goal.invariant-loop-i
invariant-loop-i l = record {
  at : IsWalkAt l.set l.passages (vec_len l.trail.first.processors) (l.i - 1) l.walk.core l.walk.runners.processors.items;
  follows : FollowsTo l.set (reverse (take (l.i - 1) l.passages)) l.walk.core.links;
  sights : vec_len l.walk.sights ≡ vec_len l.trail.first.processors;
  tracks : HasTracks (vec_len l.trail.first.processors) l.layers;
  layers :
      AreLayersAt (trace_of l.set (vec_len l.trail.first.processors) l.passages) l.part (clipped l.part (moment_at l.passages (l.i - 1)))
      l.layers;
}
