-- What contracts see of what a turn gives, and what it keeps.
use Rattle.std.specs.Prelude.{◌≡◌, length}
use Rattle.event_history.specs.Holdings.{HeldData, SentBegins}
use Rattle.event_history.specs.declared.held.Held.TheInside.{Inside}

-- the core and the senders
abbrev pub turn_data : Inside → HeldData
turn_data a = record { core = a.core.value; senders = a.senders.items }

-- one sender for each processor; what each sent begins its processor's orders
pub record IsHeldByTurn (a : Inside) : Type 0 where
  pub count : length a.senders.items ≡ a.core.value.start.processors
  pub begins : SentBegins a.core.value a.senders.items
