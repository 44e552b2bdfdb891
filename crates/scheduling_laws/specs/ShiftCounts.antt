-- How many running tasks an event moves. Along a chain of k processors k - 1 occupants go on the
-- next one: the processor at its end was idle, or its occupant is displaced.
use Rattle.std.specs.Prelude.{ℕ, ◌*◌, ◌-◌, ◌≤◌, List, length, sum_by, All}
use Rattle.task_set.specs.TaskSet.{SetData, IsTaskSet}
use Rattle.task_set.specs.declared.event.Event.{Event}
use Rattle.task_set.specs.declared.event.Event.TheVariants.{Arrive, Depart, Tick, Affinity, Offline}
use Rattle.task_set.specs.declared.event.Event.TheVariants.{Online}
use Rattle.strong_apa.specs.declared.reply.Reply.{Reply}
use Rattle.strong_apa.specs.declared.reply.Entry.{Entry}
use Rattle.strong_apa.specs.Reply.{chains_of}
use Rattle.strong_apa.specs.State.{State, IsState}
use Rattle.strong_apa.specs.History.{IsLegal}
use Rattle.strong_apa.specs.Passing.{Passes}

-- how many occupants go on the next processor of their chain
abbrev pub shifts_of : Reply → ℕ
shifts_of reply = sum_by (λ (chain : List ℕ). length chain - 1) (chains_of reply)

-- on m processors: a change of a mask may be a departure and an arrival, and each other event is
-- one of them, or neither
abbrev pub most_shifts : ℕ → Event → ℕ
most_shifts m (Arrive t) = m - 1
most_shifts m (Depart t) = m - 1
most_shifts m (Tick units) = 0
most_shifts m (Affinity t mask) = 2 * (m - 1)
most_shifts m (Offline p) = m - 1
most_shifts m (Online p) = m - 1

-- no reply that passes shifts more, whoever gave it
abbrev pub PassingShiftsFew : Type 0
PassingShiftsFew = (s : State) (event : Event) (reply : Reply) → IsState s → Passes s event reply
    → shifts_of reply ≤ most_shifts s.processors event

-- and no entry of a legal history does
abbrev pub LegalShiftsFew : Type 0
LegalShiftsFew = (set : SetData) (history : List Entry) → IsTaskSet set → IsLegal set history
    → All (λ (entry : Entry). shifts_of entry.reply ≤ most_shifts set.processors entry.event)
    history
