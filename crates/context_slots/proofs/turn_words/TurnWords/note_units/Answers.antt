use Rattle.std.proofs.Common.{rules, arith, sym, ◌∙◌}
use Rattle.context_slots.proofs.Keeps.{noted_lem, number_kept}
use Rattle.context_slots.proofs.turn_words.TurnWords.note_units.Goals as goal

pub load-requires : goal.load-requires
load-requires g c = (search rules, search rules, noted_lem _ _ _ _ _ _ c.requires.held c.requires.hand.1 (omega arith))

pub invariant_of-hand : goal.invariant_of-hand
invariant_of-hand g c =
    record { numbered = c.args.hand.now.numbered ∙ sym (number_kept _ _ _ c.requires.held c.load.ensures.2); small = c.args.hand.now.small }
