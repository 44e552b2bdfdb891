-- The levels of a search. A processor is n away from a set where the shortest path from the set to
-- it has n processors; the level n has exactly the processors that are n away. So the level 1 is
-- the set itself, and each next level is where steps lead from the level before and no shorter path
-- leads.
use Rattle.std.specs.Prelude.{◌≡◌, ℕ, ◌+◌, ◌<◌, ◌≤◌, List, length, get_or, IsTrue, ◌↔◌}
use Rattle.affinity_mask.specs.ProcSet.{has, empty}
use Rattle.path_search.specs.Paths.{IsPathFrom, LeadsInto}

-- q is n away: some path from the set to q has n processors, and none has fewer
pub record IsAway (Step : ℕ → ℕ → Type 0) (start n q : ℕ) : Type 0 where
  pub path : List ℕ
  pub leads : IsPathFrom Step start path q
  pub as_long : length path ≡ n
  pub shortest : (other : List ℕ) → IsPathFrom Step start other q → n ≤ length other

-- the level n: exactly the processors that are n away
abbrev pub IsLevel : (ℕ → ℕ → Type 0) → ℕ → ℕ → ℕ → Type 0
IsLevel Step start n level = (q : ℕ) → IsTrue (has level q) ↔ IsAway Step start n q

-- exactly the processors to which paths of at most n processors lead
abbrev pub IsWithin : (ℕ → ℕ → Type 0) → ℕ → ℕ → ℕ → Type 0
IsWithin Step start n found = (q : ℕ)
    → IsTrue (has found q) ↔ ((path : List ℕ) × IsPathFrom Step start path q × (length path ≤ n))

-- the levels from the level 1 on, in order
abbrev pub AreLevels : (ℕ → ℕ → Type 0) → ℕ → List ℕ → Type 0
AreLevels Step start levels =
    (i : ℕ) → i < length levels → IsLevel Step start (i + 1) (get_or levels i empty)

-- no path leads into the target
abbrev pub IsOutOfReach : (ℕ → ℕ → Type 0) → ℕ → ℕ → Type 0
IsOutOfReach Step start target = (path : List ℕ) → LeadsInto Step start target path → ⊥

-- the level n is the first that meets the target: some processor of the target is n away, and no
-- path into the target has fewer than n processors
pub record IsFirstMet (Step : ℕ → ℕ → Type 0) (start target n : ℕ) : Type 0 where
  pub meets : (q : ℕ) × IsTrue (has target q) × IsAway Step start n q
  pub none_shorter : (path : List ℕ) → LeadsInto Step start target path → n ≤ length path

-- the levels up to the first one that meets the target
pub record EndsWhereItMeets (Step : ℕ → ℕ → Type 0) (start target : ℕ)
    (levels : List ℕ) : Type 0 where
  pub in_order : AreLevels Step start levels
  pub met : IsFirstMet Step start target (length levels)
