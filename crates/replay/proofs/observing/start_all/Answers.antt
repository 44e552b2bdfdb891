use Rattle.std.proofs.Common.{arith, ◌≡◌, Some, [], ◌∷◌, length, length-append, sym, ap, subst, All}
use Rattle.std.proofs.lemmas.List.Elements.{All-nil, All-pop, All-push}
use Rattle.schedule_board.specs.declared.board.Observer.{Observer}
use Rattle.schedule_board.specs.Boards.{PictureBoardData, board_at}
use Rattle.replay.specs.Watches.{IsWatcherOf}
use Rattle.replay.proofs.observing.start_all.Goals as goal

pub loop-observer-init : goal.loop-observer-init
loop-observer-init g c = record {
  count = omega (arith, ap length c.requires.room.0);
  room = c.requires.room.1;
  each = λ of all. (all, subst (All (IsWatcherOf of)) (sym c.requires.room.0) (All-nil (IsWatcherOf of)));
}

pub loop-observer-preserved : goal.loop-observer-preserved
loop-observer-preserved g c =
    let i = c.loop-observer.invariant in
    let left = c.pop.new.self.items in
    let watcher = c.start-watcher.result in
    record {
      count = omega (
        arith,
        i.count,
        ap length c.in-Some.ensures.items,
        length-append left (c.in-Some.observer ∷ []),
        ap length c.push_reserved.ensures.items,
        length-append c.loop-observer.watchers.items (watcher ∷ []),
      );
      room = omega (arith, i.room, c.push_reserved.ensures.capacity);
      each = λ of all.
          let both = i.each of all in
          let popped = All-pop (λ (o : Observer). board_at o ≡ of) c.loop-observer.observers.items left (Some c.in-Some.observer)
          c.in-Some.ensures.items both.0 in (
            popped.0,
            subst (All (IsWatcherOf of)) (sym c.push_reserved.ensures.items)
                (All-push (IsWatcherOf of) c.loop-observer.watchers.items watcher both.1
                (subst (λ (b : PictureBoardData). IsWatcherOf b watcher) popped.1 c.start-watcher.ensures)),
          );
    }

pub returns-clause-each : goal.returns-clause-each
returns-clause-each g c = λ of all. (c.loop-observer.invariant.each of all).1
