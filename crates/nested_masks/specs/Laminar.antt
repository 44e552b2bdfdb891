-- Masks that nest. Masks are laminar where of any two that meet one lies within the other, as the
-- processors of cores, clusters and sockets do. A node is the mask of a task. A node holds the
-- tasks whose masks lie within it; it is tight for a set of tasks where it holds as many of them as
-- it has processors.
use Rattle.std.specs.Prelude.{◌≡◌, ℕ, ◌<◌, ◌≤◌, ◌⊎◌, Bool, ◌&&◌, ◌==◌, List, length, get_or}
use Rattle.affinity_mask.specs.ProcSet.{empty, intersection, members, passing_below, Within, Meets}
use Rattle.strong_apa.specs.Placement.{TaskTest}

-- the mask of a task
abbrev pub mask_at : List ℕ → ℕ → ℕ
mask_at masks t = get_or masks t empty

-- two sets cross: they meet, and neither lies within the other
pub record IsCrossing (X Y : ℕ) : Type 0 where
  pub meet : Meets X Y
  pub not_within : Within X Y → ⊥
  pub not_around : Within Y X → ⊥

-- the masks of two tasks cross
abbrev pub Cross : List ℕ → ℕ → ℕ → Type 0
Cross masks t u = IsCrossing (mask_at masks t) (mask_at masks u)

-- no two masks cross
abbrev pub IsLaminar : List ℕ → Type 0
IsLaminar masks = (t u : ℕ) → t < length masks → u < length masks → Cross masks t u → ⊥

-- the masks of these two tasks cross, and no pair before them does: the pairs go by the lower
-- number, then by the higher
pub record IsFirstCrossing (masks : List ℕ) (one other : ℕ) : Type 0 where
  pub ordered : one < other
  pub number : other < length masks
  pub cross : Cross masks one other
  pub first : (t u : ℕ) → t < u → u < length masks → Cross masks t u
      → (one < t) ⊎ ((one ≡ t) × (other ≤ u))

-- the set is the mask of a task
abbrev pub IsNode : List ℕ → ℕ → Type 0
IsNode masks X = (t : ℕ) × (t < length masks) × (mask_at masks t ≡ X)

-- whether each member of X is one of Y
abbrev pub is_within : ℕ → ℕ → Bool
is_within X Y = intersection X Y == X

-- the tasks of a set whose masks lie within X
abbrev pub tasks_in : List ℕ → TaskTest → ℕ → List ℕ
tasks_in masks tasks X =
    passing_below (λ t. tasks t && is_within (mask_at masks t) X) (length masks)

-- no node holds more tasks of the set than it has processors
abbrev pub FitsNodes : List ℕ → TaskTest → Type 0
FitsNodes masks tasks =
    (X : ℕ) → IsNode masks X → length (tasks_in masks tasks X) ≤ length (members X)

-- a node that holds as many tasks of the set as it has processors
pub record IsTight (masks : List ℕ) (tasks : TaskTest) (X : ℕ) : Type 0 where
  pub node : IsNode masks X
  pub full : length (tasks_in masks tasks X) ≡ length (members X)
