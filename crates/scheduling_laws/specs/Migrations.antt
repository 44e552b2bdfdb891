-- Migrations. A task migrates at an entry of a history where it is linked before the entry and
-- after it, and not on the same processor. What can make it migrate are the events of others while
-- it is ready.
use Rattle.std.specs.Prelude.{ℕ, ◌+◌, ◌≤◌, Bool, true, false, ◌==◌, ◌&&◌, not, List, [], ◌∷◌}
use Rattle.std.specs.Prelude.{unwrap_or, position, if◌then◌else◌}
use Rattle.task_set.specs.TaskSet.{SetData, IsTaskSet}
use Rattle.task_set.specs.declared.event.Event.{Event}
use Rattle.task_set.specs.declared.event.Event.TheVariants.{Arrive, Depart, Tick, Affinity, Offline}
use Rattle.task_set.specs.declared.event.Event.TheVariants.{Online}
use Rattle.strong_apa.specs.declared.reply.Entry.{Entry}
use Rattle.strong_apa.specs.State.{State, start_of, is_task, is_ready, is_linked}
use Rattle.strong_apa.specs.History.{IsLegal, effect_of}

-- the processor of a linked task
abbrev pub processor_of : State → ℕ → ℕ
processor_of s t = unwrap_or (position (is_task t) s.on) 0

-- t migrates from one state to another
abbrev pub migrates : State → State → ℕ → Bool
migrates old new t = is_linked old t && is_linked new t
    && not (processor_of old t == processor_of new t)

-- one where it is so, and else none
abbrev pub one_where : Bool → ℕ
one_where does = if does then 1 else 0

-- how often t migrates in a history from s
abbrev pub migrations_of : State → List Entry → ℕ → ℕ
migrations_of s [] t = 0
migrations_of s (entry ∷ rest) t =
    one_where (migrates s (effect_of s entry) t) + migrations_of (effect_of s entry) rest t

-- the event is of another task, a change of a mask, or of a processor; no time passes at it
abbrev pub is_of_others : ℕ → Event → Bool
is_of_others t (Arrive u) = not (u == t)
is_of_others t (Depart u) = not (u == t)
is_of_others t (Tick units) = false
is_of_others t (Affinity u mask) = true
is_of_others t (Offline p) = true
is_of_others t (Online p) = true

-- how many such events there are in a history from s while t is ready
abbrev pub events_of_others : State → List Entry → ℕ → ℕ
events_of_others s [] t = 0
events_of_others s (entry ∷ rest) t =
    one_where (is_ready s t
    && is_of_others t entry.event) + events_of_others (effect_of s entry) rest t

-- in a legal history a task migrates at most once at each event of others while it is ready
abbrev pub MigrationsAreFew : Type 0
MigrationsAreFew = (set : SetData) (history : List Entry) (t : ℕ) → IsTaskSet set
    → IsLegal set history
    → migrations_of (start_of set) history t ≤ events_of_others (start_of set) history t
