-- Events as both texts write them: a task is named by its name, and numbers and processor lists are
-- canonical.
use Rattle.std.specs.Prelude.{ℕ, List, [], ◌∷◌, ◌++◌, length, codes, slice_index_or}
use Rattle.affinity_mask.specs.Number.{canonical_number}
use Rattle.affinity_mask.specs.ListText.{canonical_list}
use Rattle.task_set.specs.TaskSet.{SetData, names}
use Rattle.task_set.specs.Event.{IsOfSystem}
use Rattle.task_set.specs.declared.event.Event.{Event}
use Rattle.task_set.specs.declared.event.Event.TheVariants.{Arrive, Depart, Tick, Affinity, Offline}
use Rattle.task_set.specs.declared.event.Event.TheVariants.{Online}

-- the name of the task with this number
abbrev pub name_of : SetData → ℕ → List ℕ
name_of set t = slice_index_or (names set) t []

-- the task of the event, its mask and its processor are of the set's system
abbrev pub IsAboutSet : SetData → Event → Type 0
IsAboutSet set event = IsOfSystem set.processors (length set.tasks) event

-- an event
unfoldable pub event_text : SetData → Event → List ℕ
event_text set (Arrive t) = codes "arrive " ++ name_of set t
event_text set (Depart t) = codes "depart " ++ name_of set t
event_text set (Tick units) = codes "tick " ++ canonical_number units
event_text set (Affinity t mask) =
    codes "affinity " ++ name_of set t ++ codes " " ++ canonical_list mask
event_text set (Offline p) = codes "offline " ++ canonical_number p
event_text set (Online p) = codes "online " ++ canonical_number p

-- its fields
abbrev pub event_fields : SetData → Event → List (List ℕ)
event_fields set (Arrive t) = codes "arrive" ∷ name_of set t ∷ []
event_fields set (Depart t) = codes "depart" ∷ name_of set t ∷ []
event_fields set (Tick units) = codes "tick" ∷ canonical_number units ∷ []
event_fields set (Affinity t mask) = codes "affinity" ∷ name_of set t ∷ canonical_list mask ∷ []
event_fields set (Offline p) = codes "offline" ∷ canonical_number p ∷ []
event_fields set (Online p) = codes "online" ∷ canonical_number p ∷ []
