use Rattle.context_slots.proofs.turn_words.TurnWords.run.Given as goal

abbrev pub ghosts-note_units : goal.ghosts-note_units
ghosts-note_units a = record { units = a.units }
