-- A row of sets, with a tree of unions over it. The places of the tree are numbered from 1, the
-- root: below place k stand the places 2k and 2k + 1, and the sets of the row stand at the leaves,
-- which are the last half of all places.
use Rattle.std.specs.Prelude.{◌≡◌, ℕ, zero, suc, ◌+◌, ◌<◌, ◌≤◌, ◌||◌, List, drop, length, get_or}
use Rattle.affinity_mask.specs.ProcSet.{has, empty, Meets}
use Rattle.link_table.specs.declared.set_tree.SetTree.TheInside.{Inside}

-- the first of the places that stand so many levels below place k
unfoldable pub first_below : ℕ → ℕ → ℕ
first_below zero k = k
first_below (suc levels) k = first_below levels (k + k)

-- so many leaves are the whole level of a tree
abbrev pub IsTreeLevel : ℕ → Type 0
IsTreeLevel width = (levels : ℕ) × (width ≡ first_below levels 1)

-- the least level that has so many leaves
pub record IsWidthFor (count width : ℕ) : Type 0 where
  pub level : IsTreeLevel width
  pub room : count ≤ width
  pub least : (other : ℕ) → IsTreeLevel other → count ≤ other → width ≤ other

-- the set at a place is the union of the two below it
abbrev pub IsUnion : List ℕ → ℕ → Type 0
IsUnion nodes k = (p : ℕ) → has (get_or nodes k empty) p
    ≡ (has (get_or nodes (k + k) empty) p || has (get_or nodes (k + k + 1) empty) p)

-- a tree over so many leaves
pub record IsTree (width : ℕ) (nodes : List ℕ) : Type 0 where
  pub level : IsTreeLevel width
  pub count : length nodes ≡ width + width
  pub unions : (k : ℕ) → 0 < k → k < width → IsUnion nodes k

-- no set of a row meets X
abbrev pub IsMetByNone : List ℕ → ℕ → Type 0
IsMetByNone sets X = (r : ℕ) → Meets X (get_or sets r empty) → ⊥

-- the set at place r of a row meets X, and none before it does
pub record IsFirstMeeting (sets : List ℕ) (X r : ℕ) : Type 0 where
  pub there : r < length sets
  pub meets : Meets X (get_or sets r empty)
  pub first : (k : ℕ) → k < r → Meets X (get_or sets k empty) → ⊥

-- the row at the leaves
abbrev pub leaf_row : Inside → List ℕ
leaf_row a = drop a.width a.nodes.items

-- the unions stand over it at every moment
abbrev pub IsSummed : Inside → Type 0
IsSummed a = IsTree a.width a.nodes.items
