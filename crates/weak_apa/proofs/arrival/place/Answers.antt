use Rattle.std.proofs.Common.{[], ◌∷◌}
use Rattle.weak_apa.proofs.arrival.place.Goals as goal

pub loop-out-preserved : goal.loop-out-preserved
loop-out-preserved c = record {
  next = c.in-Some.ensures.next;
  completes = λ displaced new placed. c.loop-out.invariant.completes (c.in-Some.out ∷ displaced) new
      (c.take_turn.new.links, c.in-Some.ensures.turn, placed);
}

pub returns-clause-turns : goal.returns-clause-turns
returns-clause-turns c = c.loop-out.invariant.completes [] c.take_turn.new.links c.in_default.ensures.turn
