use Rattle.context_slots.proofs.Keeps.{took_still}
use Rattle.context_slots.proofs.turn_words.TurnWords.run.Goals as goal

pub returns-clause-took : goal.returns-clause-took
returns-clause-took c =
    took_still c.args.hand.now.seat.me _ _ _ _ _ _ _ c.requires.hand.1 c.args.hand.now.numbered c.ran.ensures c.note_units.ensures.units
