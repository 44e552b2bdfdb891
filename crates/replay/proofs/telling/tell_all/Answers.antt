use Rattle.std.proofs.Common.{arith, List, [], ◌∷◌, length, length-append, length-set, sym, ap, ◌∙◌, subst, All}
use Rattle.std.proofs.lemmas.List.Elements.{All-push, All-set}
use Rattle.strong_apa.specs.declared.reply.Entry.{Entry}
use Rattle.schedule_board.specs.Boards.{PictureBoardData, board_of, published}
use Rattle.replay.specs.declared.observing.Observed.{Observed}
use Rattle.replay.specs.declared.sighting.Sighting.{Sighting}
use Rattle.replay.specs.Watches.{IsObservedOf, IsToldOf}
use Rattle.replay.proofs.telling.tell_all.Goals as goal

pub tell_one-sighting-requires : goal.tell_one-sighting-requires
tell_one-sighting-requires g c =
    let observed : Observed = c.index_mut.result.now in
    let of = board_of c.loop-i.publisher in
    subst (λ (b : PictureBoardData). IsObservedOf b observed) (sym (ap board_of c.loop-i.invariant.publisher))
    (subst (IsObservedOf (board_of c.args.publisher.now)) (sym c.index_mut.ensures.value)
    (c.loop-i.invariant.observed c.loop-i.i observed (omega arith)))

pub loop-i-preserved : goal.loop-i-preserved
loop-i-preserved g c =
    let i = c.loop-i.invariant in
    let old = c.args.publisher.now in
    let items : List Observed = c.loop-i.observed.items in
    let new : Observed = c.tell_one-sighting.new.observed in
    let sighting : Sighting = c.tell_one-sighting.result in
    let P = IsToldOf (board_of old).processors (published old) in
    let told = c.tell_one-sighting.ensures in
    record {
      publisher = told.kept ∙ i.publisher;
      count = omega (arith, i.count, ap length c.push_reserved.ensures.items, length-append c.loop-i.sightings.items (sighting ∷ []));
      same = length-set items c.loop-i.i new ∙ i.same;
      room = omega (arith, i.room, c.push_reserved.ensures.capacity);
      observed = All-set (IsObservedOf (board_of old)) items c.loop-i.i new
          (subst (λ (b : PictureBoardData). IsObservedOf b new) (ap board_of i.publisher) told.observed) i.observed;
      each = subst (All P) (sym c.push_reserved.ensures.items) (All-push P c.loop-i.sightings.items sighting i.each
          (subst (λ (b : PictureBoardData). IsToldOf b.processors (published old) sighting) (ap board_of i.publisher)
          (subst (λ (l : List Entry). IsToldOf (board_of c.loop-i.publisher).processors l sighting) (ap published i.publisher) told.told)));
    }
