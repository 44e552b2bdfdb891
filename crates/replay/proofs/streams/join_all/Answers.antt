use Rattle.std.proofs.Common.{arith, ◌≡◌, ◌+◌, ◌&&◌, ℕ, Bool, [], ◌∷◌, length, length-append, sym, ap, ◌∙◌, subst, MatchResult}
use Rattle.event_history.specs.Boards.{PassData}
use Rattle.replay.specs.Places.{AllFrom}
use Rattle.replay.specs.Streams.{IsStreamedAt}
use Rattle.replay.proofs.Places.{AllFrom-last, AllFrom-insert, AllFrom-weaker}
use Rattle.replay.proofs.Posts.{streamed_first, streamed_last}
use Rattle.replay.proofs.Results.{match_weaker, match_gives}
use Rattle.replay.proofs.streams.join_all.Goals as goal

pub join-pass-requires : goal.join-pass-requires
join-pass-requires g c =
    let board = c.args.board.now in
    let events = c.args.events.now in
    let last = AllFrom-last (λ n stream. MatchResult stream (λ h. (h.promise.board.now ≡ board) × (h.promise.events.now ≡ events)
    × (h.promise.caller ≡ n)) (λ back. IsStreamedAt board events back.1 n back.0))
    0 c.pop.new.self.items c.in-Some.stream (subst (AllFrom _ 0) c.in-Some.ensures.items c.loop-stream.invariant.left) in
    match_weaker _ _ _ _ c.in-Some.stream last.1 (λ h a. (a.0, a.1))
    (λ back at. subst (λ (n : ℕ). IsStreamedAt board events back.1 n back.0) (sym at.own.caller) at)

pub loop-stream-preserved : goal.loop-stream-preserved
loop-stream-preserved g c =
    let board = c.args.board.now in
    let events = c.args.events.now in
    let i = c.loop-stream.invariant in
    let left = c.pop.new.self.items in
    let pass : PassData = c.join-pass.result.0 in
    let posted : Bool = c.join-pass.result.1 in
    let whole : Bool = c.loop-stream.whole in
    let last = AllFrom-last (λ n stream. MatchResult stream (λ h. (h.promise.board.now ≡ board) × (h.promise.events.now ≡ events)
    × (h.promise.caller ≡ n)) (λ back. IsStreamedAt board events back.1 n back.0))
    0 left c.in-Some.stream (subst (AllFrom _ 0) c.in-Some.ensures.items i.left) in
    let place : 0 + length left ≡ length left = omega arith in
    let fewer : length c.loop-stream.streams.items ≡ length left
    + 1 = omega (arith, ap length c.in-Some.ensures.items, length-append left (c.in-Some.stream ∷ [])) in
    let here = match_gives _ _ _ _ (IsStreamedAt board events posted (length left) pass) c.in-Some.stream last.1 c.join-pass.ensures
    (λ h at done. subst (λ (n : ℕ). IsStreamedAt board events posted n pass) (at.2 ∙ place) done)
    (λ back at done. subst (λ (n : ℕ). IsStreamedAt board events posted n pass) (at.own.caller ∙ place) done) in
    record {
      count = omega (arith, i.count, fewer, ap length c.in_default-insert.ensures.items);
      left = last.0;
      room = omega (arith, i.room, c.in_default-insert.ensures.capacity);
      each = AllFrom-insert (IsStreamedAt board events (whole && posted)) (length left) (length c.loop-stream.streams.items)
          pass c.loop-stream.passes.items c.insert.new.self.items c.in_default-insert.ensures.items fewer
          (streamed_last board events whole posted (length left) pass here)
          (AllFrom-weaker (IsStreamedAt board events whole) (IsStreamedAt board events (whole && posted))
          (λ n p at. streamed_first board events whole posted n p at) (length c.loop-stream.streams.items)
          c.loop-stream.passes.items i.each);
    }
