use Rattle.event_history.proofs.Owes.{none_begins}
use Rattle.event_history.proofs.turn.held_slots.Goals as goal

pub of-requires-clause-begins : goal.of-requires-clause-begins
of-requires-clause-begins c = none_begins c.in-Ok-boxed_core.core.value c.args.senders.items c.requires.fresh
