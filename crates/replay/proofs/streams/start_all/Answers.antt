use Rattle.std.proofs.Common.{arith, ◌≡◌, ◌+◌, ℕ, List, [], ◌∷◌, length, length-append, Some, sym, ap, ◌∙◌, subst, MatchResult}
use Rattle.std.proofs.lemmas.List.Elements.{All-pop}
use Rattle.event_history.specs.Boards.{PassData}
use Rattle.replay.specs.Places.{AllFrom}
use Rattle.replay.specs.Streams.{IsPassAt, IsStreamedAt, IsUnused}
use Rattle.replay.proofs.Places.{AllFrom-last, AllFrom-insert}
use Rattle.replay.proofs.Posts.{passes_at}
use Rattle.replay.proofs.streams.start_all.Goals as goal

pub loop-pass-init : goal.loop-pass-init
loop-pass-init g c = record {
  count = omega (arith, c.requires.passes.0, ap length c.requires.room.0);
  passes = passes_at c.args.shared.now.board.now 0 c.args.passes.items c.requires.passes.1;
  unused = c.requires.unused;
  room = c.requires.room.1;
  each = subst (AllFrom _ (length c.args.passes.items)) (sym c.requires.room.0) tt;
}

pub start-stream-requires-clause-pass : goal.start-stream-requires-clause-pass
start-stream-requires-clause-pass g c κs within =
    let board = c.args.shared.now.board.now in
    let last = AllFrom-last (IsPassAt board) 0 c.pop.new.self.items c.in-Some.pass
    (subst (AllFrom (IsPassAt board) 0) c.in-Some.ensures.items c.loop-pass.invariant.passes) in
    subst (λ (n : ℕ). IsPassAt board n c.in-Some.pass) (sym last.1.caller) last.1

pub loop-pass-preserved : goal.loop-pass-preserved
loop-pass-preserved g c =
    let board = c.args.shared.now.board.now in
    let events = c.args.shared.now.events.now in
    let i = c.loop-pass.invariant in
    let left : List PassData = c.pop.new.self.items in
    let last = AllFrom-last (IsPassAt board) 0 left c.in-Some.pass (subst (AllFrom (IsPassAt board) 0) c.in-Some.ensures.items i.passes) in
    let number : c.in-Some.pass.caller ≡ length left = last.1.caller ∙ omega arith in
    let fewer : length c.loop-pass.passes.items ≡ length left
    + 1 = omega (arith, ap length c.in-Some.ensures.items, length-append left (c.in-Some.pass ∷ [])) in
    record {
      count = omega (arith, i.count, fewer, ap length c.in_default-insert.ensures.items);
      passes = last.0;
      unused = (All-pop IsUnused c.loop-pass.passes.items left (Some c.in-Some.pass) c.in-Some.ensures.items i.unused).0;
      room = omega (arith, i.room, c.in_default-insert.ensures.capacity);
      each = AllFrom-insert _ (length left) (length c.loop-pass.passes.items) c.start-stream.result c.loop-pass.streams.items
          c.insert.new.self.items c.in_default-insert.ensures.items fewer
          (subst (λ n. MatchResult c.start-stream.result (λ h. (h.promise.board.now ≡ board) × (h.promise.events.now ≡ events)
          × (h.promise.caller ≡ n)) (λ back. IsStreamedAt board events back.1 n back.0)) number c.start-stream.ensures) i.each;
    }
