-- Hall's condition for masks. A task is confined to a set of processors where its effective mask
-- has no other one; a set of processors is crowded where more tasks are confined to it than it has
-- members.
use Rattle.std.specs.Prelude.{◌≡◌, ℕ, ◌<◌, ◌≤◌, Bool, true, ◌==◌, ◌&&◌, ◌⊎◌, ◌↔◌, length}
use Rattle.affinity_mask.specs.ProcSet.{intersection, members}
use Rattle.strong_apa.specs.State.{State, IsState, task_count, effective_mask}
use Rattle.strong_apa.specs.Placement.{TaskTest, IsPlaceable}
use Rattle.strong_apa.specs.Ranks.{tasks_of}

-- whether each processor of the effective mask of t is in the set X
abbrev pub is_confined : State → ℕ → ℕ → Bool
is_confined s X t = intersection (effective_mask s t) X == effective_mask s t

-- the tasks of a set that are confined to the set X
abbrev pub confined_count : State → TaskTest → ℕ → ℕ
confined_count s tasks X = length (tasks_of s (λ t. tasks t && is_confined s X t))

-- more tasks are confined to the set X than it has members
abbrev pub IsCrowded : State → TaskTest → ℕ → Type 0
IsCrowded s tasks X = length (members X) < confined_count s tasks X

-- a set of tasks is placeable exactly where it crowds no set of processors
abbrev pub PlaceableIsUncrowded : Type 0
PlaceableIsUncrowded =
    (s : State) (tasks : TaskTest) → IsState s → ((t : ℕ) → tasks t ≡ true → t < task_count s)
    → IsPlaceable s tasks ↔ ((X : ℕ) → confined_count s tasks X ≤ length (members X))

-- a set of tasks is placeable, or there is a set of processors that it crowds: the reason why it
-- does not fit
abbrev pub PlaceableOrCrowded : Type 0
PlaceableOrCrowded =
    (s : State) (tasks : TaskTest) → IsState s → ((t : ℕ) → tasks t ≡ true → t < task_count s)
    → IsPlaceable s tasks ⊎ ((X : ℕ) × IsCrowded s tasks X)
