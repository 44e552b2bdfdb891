-- Slots. The number of a task is that of its slot. A slot is in use from the admission of a task
-- until the task retires, and is free otherwise. A free slot has no task, so no event is of it. It
-- keeps a mask and a priority, which count for nothing.
use Rattle.std.specs.Prelude.{◌≡◌, ◌≢◌, ℕ, ◌<◌, Bool, true, false, List, None, length, set, get_or}
use Rattle.task_set.specs.declared.event.Event.{Event}
use Rattle.task_set.specs.declared.event.Event.TheVariants.{Arrive, Depart, Tick, Affinity, Offline}
use Rattle.task_set.specs.declared.event.Event.TheVariants.{Online}
use Rattle.strong_apa.specs.State.{State, task_count, priority_of, is_ready, state_with_mask}
use Rattle.link_table.specs.Priorities.{IsFreeFor, state_with_priority}
use Rattle.live_core.specs.Live.{LiveData}
use Rattle.live_core.specs.declared.slots.SlotFault.{SlotFault}
use Rattle.live_core.specs.declared.slots.SlotFault.TheVariants.{NoSlot, SamePriority}

-- whether the slot of t is in use
abbrev pub is_in_use : LiveData → ℕ → Bool
is_in_use d t = get_or d.in_use t false

-- the task of the event, if it has one, is in use
abbrev pub IsEventInUse : LiveData → Event → Type 0
IsEventInUse d (Arrive t) = is_in_use d t ≡ true
IsEventInUse d (Depart t) = is_in_use d t ≡ true
IsEventInUse d (Affinity t mask) = is_in_use d t ≡ true
IsEventInUse d (Tick units) = Unit {0}
IsEventInUse d (Offline p) = Unit {0}
IsEventInUse d (Online p) = Unit {0}

-- no slot is free
abbrev pub AreAllInUse : List Bool → Type 0
AreAllInUse in_use = (t : ℕ) → t < length in_use → get_or in_use t false ≡ true

-- there is a slot of this number, and it is free
pub record IsFreeSlot (in_use : List Bool) (t : ℕ) : Type 0 where
  pub number : t < length in_use
  pub free : get_or in_use t false ≡ false

-- each free slot is absent
abbrev pub AreFreeAbsent : State → List Bool → Type 0
AreFreeAbsent s in_use = (t : ℕ) → get_or in_use t false ≡ false → is_ready s t ≡ false

-- u is in use, and has the priority
pub record IsInUseWith (d : LiveData) (priority u : ℕ) : Type 0 where
  pub in_use : is_in_use d u ≡ true
  pub has_it : priority_of d.links u ≡ priority

-- t is free, and may have the priority
pub record IsSlotFor (d : LiveData) (priority t : ℕ) : Type 0 where
  pub slot : IsFreeSlot d.in_use t
  pub is_new : IsFreeFor d.links t priority

-- t was free; it is in use with this priority and this mask, and seen nowhere, and all else stays:
-- the links among it, and every other task
pub record Admits (old : LiveData) (priority mask t : ℕ) (new : LiveData) : Type 0 where
  pub slot : IsFreeSlot old.in_use t
  pub admitted : new ≡ record old {
    links = state_with_mask
        (state_with_priority old.links t priority) t mask;
    in_use = set old.in_use t true;
    seen = set old.seen t None;
    holders = None;
  }

-- why no task of this priority is admitted: no slot is free, or a task in use has the priority
abbrev pub IsAdmitFault : LiveData → ℕ → SlotFault → Type 0
IsAdmitFault d priority NoSlot = AreAllInUse d.in_use
IsAdmitFault d priority (SamePriority u) = IsInUseWith d priority u

-- the slot of t is free, and all else stays
abbrev pub data_with_free : LiveData → ℕ → LiveData
data_with_free d t = record d { in_use = set d.in_use t false }

-- t has the priority, and all else of the tasks in use stays; only a free slot may have another
-- priority too
pub record GetsPriority (old : LiveData) (t priority : ℕ) (new : LiveData) : Type 0 where
  pub count : task_count new.links ≡ task_count old.links
  pub has_it : priority_of new.links t ≡ priority
  pub others : (u : ℕ) → is_in_use old u ≡ true → u ≢ t
      → priority_of new.links u ≡ priority_of old.links u
  pub rest : new ≡ record old {
    links = record old.links { priorities = new.links.priorities };
    holders = None;
  }

-- why t does not get the priority: another task in use has it
abbrev pub IsPriorityFault : LiveData → ℕ → ℕ → SlotFault → Type 0
IsPriorityFault d t priority NoSlot = ⊥
IsPriorityFault d t priority (SamePriority u) = IsInUseWith d priority u × (u ≢ t)
