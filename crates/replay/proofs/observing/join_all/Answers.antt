use Rattle.std.proofs.Common.{arith, Some, [], ◌∷◌, length, length-append, sym, ap, subst, All}
use Rattle.std.proofs.lemmas.List.Elements.{All-nil, All-pop, All-push}
use Rattle.replay.specs.Watches.{IsObservedOf, IsWatcherOf}
use Rattle.replay.proofs.observing.join_all.Goals as goal

pub loop-watcher-init : goal.loop-watcher-init
loop-watcher-init g c = record {
  count = omega (arith, ap length c.requires.room.0);
  room = c.requires.room.1;
  each = λ of all. (all, subst (All (IsObservedOf of)) (sym c.requires.room.0) (All-nil (IsObservedOf of)));
}

pub loop-watcher-preserved : goal.loop-watcher-preserved
loop-watcher-preserved g c =
    let i = c.loop-watcher.invariant in
    let left = c.pop.new.self.items in
    let back = c.join-back.result in
    record {
      count = omega (
        arith,
        i.count,
        ap length c.in-Some.ensures.items,
        length-append left (c.in-Some.watcher ∷ []),
        ap length c.push_reserved.ensures.items,
        length-append c.loop-watcher.observed.items (back ∷ []),
      );
      room = omega (arith, i.room, c.push_reserved.ensures.capacity);
      each = λ of all.
          let both = i.each of all in
          let popped = All-pop (IsWatcherOf of) c.loop-watcher.watchers.items left (Some c.in-Some.watcher)
          c.in-Some.ensures.items both.0 in (
            popped.0,
            subst (All (IsObservedOf of)) (sym c.push_reserved.ensures.items)
                (All-push (IsObservedOf of) c.loop-watcher.observed.items back both.1 (c.join-back.ensures of popped.1)),
          );
    }

pub returns-clause-each : goal.returns-clause-each
returns-clause-each g c = λ of all. (c.loop-watcher.invariant.each of all).1
