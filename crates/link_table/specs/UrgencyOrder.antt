-- The tasks in the order of urgency. An entry is the number of a task with its priority.
use Rattle.std.specs.Prelude.{◌≡◌, ◌≢◌, ℕ, ◌<◌, List, length, get_or, All, Contains}
use Rattle.std.specs.List.Sorted.{IsNonDecreasingBy}
use Rattle.link_table.specs.declared.ranked.Ranked.{Ranked}

-- the entry of a task
abbrev pub urgency_entry : List ℕ → ℕ → Ranked
urgency_entry priorities t = record { priority = get_or priorities t 0; task = t }

-- an entry of one of the tasks with these priorities
abbrev pub IsEntry : List ℕ → Ranked → Type 0
IsEntry priorities entry =
    (entry.task < length priorities) × (entry.priority ≡ get_or priorities entry.task 0)

-- the entries of all tasks with these priorities, in any order
pub record AreEntries (priorities : List ℕ) (entries : List Ranked) : Type 0 where
  pub all : All (IsEntry priorities) entries
  pub each : (t : ℕ) → t < length priorities → Contains entries (urgency_entry priorities t)

-- the entries of all tasks, from the most urgent one on
pub record IsUrgencyOrder (priorities : List ℕ) (order : List Ranked) : Type 0 where
  pub complete : AreEntries priorities order
  pub ordered : IsNonDecreasingBy (λ (entry : Ranked). entry.priority) order

-- each entry is of the task whose number is its place
abbrev pub AreNumbered : List Ranked → Type 0
AreNumbered entries = (t : ℕ) (d : Ranked) → t < length entries → (get_or entries t d).task ≡ t

-- no task stands twice
abbrev pub AreApart : List Ranked → Type 0
AreApart order = (j k : ℕ) (d : Ranked) → j < k → k < length order
    → (get_or order j d).task ≢ (get_or order k d).task
