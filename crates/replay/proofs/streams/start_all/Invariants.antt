use Rattle.std.proofs.Common.{◌≡◌, ◌+◌, ◌≤◌, length, MatchResult}
use Rattle.std.specs.Vec.{vec_capacity}
use Rattle.std.specs.Prelude.{All}
use Rattle.replay.specs.Places.{AllFrom}
use Rattle.replay.specs.Streams.{IsPassAt, IsStreamedAt, IsUnused}
use Rattle.replay.proofs.streams.start_all.Given as goal

abbrev pub invariant-loop-pass : goal.invariant-loop-pass
invariant-loop-pass g l = record {
  count : length l.passes.items + length l.streams.items ≡ l.shared.board.now.callers;
  passes : AllFrom (IsPassAt l.shared.board.now) 0 l.passes.items;
  unused : All IsUnused l.passes.items;
  room : l.shared.board.now.callers ≤ vec_capacity l.streams;
  each : AllFrom (λ n stream. MatchResult stream
      (λ h. (h.promise.board.now ≡ l.shared.board.now) × (h.promise.events.now ≡ l.shared.events.now) × (h.promise.caller ≡ n))
      (λ back. IsStreamedAt l.shared.board.now l.shared.events.now back.1 n back.0)) (length l.passes.items) l.streams.items;
}

abbrev pub decreases-loop-pass : goal.decreases-loop-pass
decreases-loop-pass g l = length l.passes.items
