-- A layout: the masks of the tasks, the processors on line, and the occupant of each processor. It
-- is that part of a state on which it depends who can be shifted where.
use Rattle.std.specs.Prelude.{◌≡◌, ℕ, Bool, false, List, set, get_or, Option, Some, None}
use Rattle.std.specs.Prelude.{if◌then◌else◌}
use Rattle.affinity_mask.specs.ProcSet.{has, empty, intersection, with_member, without_member}
use Rattle.strong_apa.specs.State.{State}

-- the columns of a state have the same names
pub record Layout : Type 0 where
  pub masks : List ℕ
  pub online : ℕ
  pub on : List (Option ℕ)

-- the layout of a state
abbrev pub layout_of : State → Layout
layout_of s = record { masks = s.masks; online = s.online; on = s.on }

-- the processors that a task may run on
abbrev pub effective_in : Layout → ℕ → ℕ
effective_in a t = intersection (get_or a.masks t empty) a.online

-- the occupant of a processor
abbrev pub occupant_in : Layout → ℕ → Option ℕ
occupant_in a p = get_or a.on p None

-- whether there is an occupant, and its mask has q, on line or not
abbrev pub mask_has : Layout → Option ℕ → ℕ → Bool
mask_has a None q = false
mask_has a (Some t) q = has (get_or a.masks t empty) q

-- whether there is an occupant, and it may run on q
abbrev pub runs_on : Layout → Option ℕ → ℕ → Bool
runs_on a None q = false
runs_on a (Some t) q = has (effective_in a t) q

-- no processor has the task
abbrev pub IsNowhere : Layout → ℕ → Type 0
IsNowhere a t = (p : ℕ) → occupant_in a p ≡ Some t → ⊥

-- another mask of t
abbrev pub with_mask : Layout → ℕ → ℕ → Layout
with_mask a t mask = record a { masks = set a.masks t mask }

-- p is on line, or off line
abbrev pub with_online : Layout → ℕ → Bool → Layout
with_online a p on =
    record a { online = if on then with_member a.online p else without_member a.online p }

-- another occupant, or none, on p
abbrev pub with_occupant : Layout → ℕ → Option ℕ → Layout
with_occupant a p guest = record a { on = set a.on p guest }

-- the places of the tasks, once the one that goes out has none
abbrev pub places_without : List (Option ℕ) → Option ℕ → List (Option ℕ)
places_without of None = of
places_without of (Some u) = set of u None

-- and once the one that comes in has p
abbrev pub places_with : List (Option ℕ) → Option ℕ → ℕ → List (Option ℕ)
places_with of None p = of
places_with of (Some t) p = set of t (Some p)
