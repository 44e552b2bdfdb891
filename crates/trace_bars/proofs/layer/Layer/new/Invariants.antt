use Rattle.std.proofs.Common.{◌≡◌, None}
use Rattle.std.specs.Prelude.{replicate}
use Rattle.trace_bars.proofs.layer.Layer.new.Given as goal

abbrev pub invariant-loop-thread : goal.invariant-loop-thread
invariant-loop-thread l = l.tracks.items ≡ replicate l._thread (record { mark = None; since = l.first })
