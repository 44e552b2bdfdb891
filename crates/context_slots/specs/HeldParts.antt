-- What contracts see of a context that was taken.
use Rattle.context_slots.specs.Contexts.{HeldContext}
use Rattle.context_slots.specs.declared.held.Held.TheInside.{Inside}

-- the task, the number of the stint, and the context
abbrev pub held_data : Inside → HeldContext
held_data a = record { task = a.taken.task; number = a.taken.number; context = a.taken.context }
