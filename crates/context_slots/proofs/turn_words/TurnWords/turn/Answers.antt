use Rattle.std.proofs.Common.{rules}
use Rattle.context_slots.proofs.Keeps.{turns_lem}
use Rattle.context_slots.proofs.turn_words.TurnWords.turn.Goals as goal

pub load-requires : goal.load-requires
load-requires c = (search rules, search rules, turns_lem _ _ _ _ _)
