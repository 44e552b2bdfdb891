use Rattle.std.proofs.Common.{◌≡◌, ◌+◌, ◌≤◌, length, MatchResult}
use Rattle.std.specs.Vec.{vec_capacity}
use Rattle.replay.specs.Places.{AllFrom}
use Rattle.replay.specs.Streams.{IsStreamedAt}
use Rattle.replay.proofs.streams.join_all.Given as goal

abbrev pub invariant-loop-stream : goal.invariant-loop-stream
invariant-loop-stream g l = record {
  count : length l.streams.items + length l.passes.items ≡ length l.initial.streams.items;
  left : AllFrom (λ n stream. MatchResult stream (λ h. (h.promise.board.now ≡ l.board) × (h.promise.events.now ≡ l.events)
      × (h.promise.caller ≡ n)) (λ back. IsStreamedAt l.board l.events back.1 n back.0)) 0 l.streams.items;
  room : length l.initial.streams.items ≤ vec_capacity l.passes;
  each : AllFrom (IsStreamedAt l.board l.events l.whole) (length l.streams.items) l.passes.items;
}

abbrev pub decreases-loop-stream : goal.decreases-loop-stream
decreases-loop-stream g l = length l.streams.items
