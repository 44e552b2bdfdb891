-- What entering an event into a core changes.
use Rattle.std.specs.Prelude.{◌≡◌, ℕ, ◌<◌, false, true, [], ◌∷◌, ◌++◌, length}
use Rattle.task_set.specs.declared.event.Event.{Event}
use Rattle.sched_core.specs.CoreData.{CoreData, OnlyMadeRoom, entry_of, max_entries}
use Rattle.sched_core.specs.declared.fault.CoreFault.{CoreFault}
use Rattle.sched_core.specs.declared.fault.CoreFault.TheVariants.{Closed, Full, OutOfMemory}
use Rattle.event_history.specs.declared.fault.Receipt.{Receipt}

-- the core was open and had room, and has one entry more
pub record Entered (old : CoreData) (caller : ℕ) (event : Event) (new : CoreData)
    (receipt : Receipt) : Type 0 where
  pub at_place : receipt.place ≡ length old.history
  pub fits : receipt.place < max_entries
  pub history : new.history ≡ old.history ++ entry_of caller event receipt.reply ∷ []
  pub start : new.start ≡ old.start
  pub was_open : old.closed ≡ false
  pub is_open : new.closed ≡ false

-- it was taken of a receipt of which this holds
pub record IsTaken {A : Type 0} (of_receipt : Receipt → A) (holds_of : Receipt → Type 0)
    (taken : A) : Type 0 where
  pub receipt : Receipt
  pub is : taken ≡ of_receipt receipt
  pub holds : holds_of receipt

-- why there is no entry more
abbrev pub HasRefusalCause : CoreData → CoreFault → Type 0
HasRefusalCause core Closed = core.closed ≡ true
HasRefusalCause core Full = (core.closed ≡ false) × (length core.history ≡ max_entries)
HasRefusalCause core OutOfMemory = (core.closed ≡ false) × (length core.history < max_entries)

-- the core has no entry more
abbrev pub IsNoEntry : CoreData → CoreData → CoreFault → Type 0
IsNoEntry old new fault = OnlyMadeRoom old new × HasRefusalCause old fault
