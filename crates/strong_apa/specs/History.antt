-- Histories. A history is a list of entries, each with an event and the reply to it; what an entry
-- changes follows from its event and reply; a history is legal where each entry is the scheduler's
-- step from the state before it to the state after it.
use Rattle.std.specs.Prelude.{ℕ, ◌≤◌, List, [], ◌∷◌, reverse, take, length, Option, Some, None}
use Rattle.task_set.specs.TaskSet.{SetData}
use Rattle.task_set.specs.declared.event.Event.{Event}
use Rattle.task_set.specs.declared.event.Event.TheVariants.{Arrive, Depart, Affinity, Offline}
use Rattle.task_set.specs.declared.event.Event.TheVariants.{Online}
use Rattle.strong_apa.specs.declared.reply.Came.{Came}
use Rattle.strong_apa.specs.declared.reply.Came.TheVariants as came
use Rattle.strong_apa.specs.declared.reply.Gone.{Gone}
use Rattle.strong_apa.specs.declared.reply.Reply.{Reply}
use Rattle.strong_apa.specs.declared.reply.Reply.TheVariants.{Placed, Displaced, Waits, Freed, Left}
use Rattle.strong_apa.specs.declared.reply.Reply.TheVariants.{Masked, Remasked, Off, On}
use Rattle.strong_apa.specs.declared.reply.Entry.{Entry}
use Rattle.strong_apa.specs.State.{State, start_of, is_ready, is_linked, state_with_ready}
use Rattle.strong_apa.specs.State.{state_with_absent, state_with_mask, state_with_online}
use Rattle.strong_apa.specs.State.{state_with_offline, state_after_leaving}
use Rattle.strong_apa.specs.Chain.{state_after_shift}
use Rattle.strong_apa.specs.Placement.{TaskTest, IsBest}
use Rattle.strong_apa.specs.Step.{SchedulerStep}

-- the state after a task came in against the direction of a back chain, if one did
abbrev pub state_after_entering : State → Option ℕ → List ℕ → State
state_after_entering s None chain = s
state_after_entering s (Some w) chain = state_after_shift s w (reverse chain)

-- the state after what t, which was absent, came to
abbrev pub state_after_came : State → ℕ → Came → State
state_after_came s t (came.Placed chain) = state_after_shift (state_with_ready s t) t chain
state_after_came s t (came.Displaced chain out reach) =
    state_after_shift (state_with_ready s t) t chain
state_after_came s t (came.Waits reach) = state_with_ready s t

-- the state after somebody came in, or nobody
abbrev pub state_after_gone : State → Gone → State
state_after_gone s gone = state_after_entering s gone.entered gone.chain

-- the state after t, which was ready, left: it had waited, or somebody came in at its processor, or
-- nobody
abbrev pub state_after_left : State → ℕ → Option Gone → State
state_after_left s t None = state_with_absent s t
state_after_left s t (Some gone) = state_after_gone (state_after_leaving s t) gone

-- the state after a reply to an event; a reply that is none to the event changes nothing
abbrev pub state_after_reply : State → Event → Reply → State
state_after_reply s (Arrive t) (Placed chain) = state_after_came s t (came.Placed chain)
state_after_reply s (Arrive t) (Displaced chain out reach) =
    state_after_came s t (came.Displaced chain out reach)
state_after_reply s (Arrive t) (Waits reach) = state_after_came s t (came.Waits reach)
state_after_reply s (Depart t) (Freed entered chain back) = state_after_gone
    (state_after_leaving s t) (record { entered = entered; chain = chain; back = back })
state_after_reply s (Depart t) Left = state_with_absent s t
state_after_reply s (Affinity t mask) Masked = state_with_mask s t mask
state_after_reply s (Affinity t mask) (Remasked gone came) =
    state_after_came (state_with_mask (state_after_left s t gone) t mask) t came
state_after_reply s (Offline p) (Off None) = state_with_offline s p
state_after_reply s (Offline p) (Off (Some moved)) =
    state_after_came (state_with_offline (state_after_leaving s moved.task) p) moved.task moved.came
state_after_reply s (Online p) (On parts) = state_after_gone (state_with_online s p) parts
state_after_reply s event reply = s

-- the effect of an entry: the state after its reply
abbrev pub effect_of : State → Entry → State
effect_of s entry = state_after_reply s entry.event entry.reply

-- the state after the effects of all entries, in order
abbrev pub state_after : State → List Entry → State
state_after s [] = s
state_after s (entry ∷ rest) = state_after (effect_of s entry) rest

-- each entry is the scheduler's step from the state before it to the state after it
abbrev pub IsLegalFrom : State → List Entry → Type 0
IsLegalFrom s [] = Unit {0}
IsLegalFrom s (entry ∷ rest) = SchedulerStep s entry.event entry.reply (effect_of s entry)
    × IsLegalFrom (effect_of s entry) rest

-- a legal history of a set of tasks, of which all are absent at first
abbrev pub IsLegal : SetData → List Entry → Type 0
IsLegal set history = IsLegalFrom (start_of set) history

-- the state after the first n entries, and the tasks that are ready and linked then
abbrev pub state_at : SetData → List Entry → ℕ → State
state_at set history n = state_after (start_of set) (take n history)

abbrev pub ready_after : SetData → List Entry → ℕ → TaskTest
ready_after set history n = is_ready (state_at set history n)

abbrev pub linked_after : SetData → List Entry → ℕ → TaskTest
linked_after set history n = is_linked (state_at set history n)

-- after every entry the linked tasks are the best placeable set of the ready ones
abbrev pub IsBestThroughout : SetData → List Entry → Type 0
IsBestThroughout set history = (n : ℕ) → n ≤ length history
    → IsBest (state_at set history n) (ready_after set history n) (linked_after set history n)
