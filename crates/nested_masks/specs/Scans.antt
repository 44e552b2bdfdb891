-- How far a scan has come: the words of the contracts of private functions. The public ones say
-- what is found in the end.
use Rattle.std.specs.Prelude.{◌≡◌, ℕ, ◌<◌, ◌≤◌, true, List, length, IsTrue, Option, MatchOption}
use Rattle.affinity_mask.specs.ProcSet.{has, Within}
use Rattle.nested_masks.specs.Laminar.{IsTight, Cross}
use Rattle.nested_masks.specs.NestedData.{NestedData, linked_of, mask_in, priority_in}

-- the mask of one crosses that of no task after it
abbrev pub CrossesNone : List ℕ → ℕ → Type 0
CrossesNone masks one = (u : ℕ) → one < u → u < length masks → Cross masks one u → ⊥

-- the first task after `one` whose mask crosses that of `one`
pub record IsFirstCrossed (masks : List ℕ) (one other : ℕ) : Type 0 where
  pub ordered : one < other
  pub number : other < length masks
  pub cross : Cross masks one other
  pub first : (u : ℕ) → one < u → u < other → Cross masks one u → ⊥

-- of the first m tasks that pass, w is one, and leads them all
pub record IsLeader (Passes : ℕ → Type 0) (Leads : ℕ → ℕ → Type 0) (m w : ℕ) : Type 0 where
  pub number : w < m
  pub passes : Passes w
  pub leads : (v : ℕ) → v < m → Passes v → Leads w v

-- of the first m tasks none passes, or this one is the leader of those that pass
abbrev pub IsScan : (ℕ → Type 0) → (ℕ → ℕ → Type 0) → ℕ → Option ℕ → Type 0
IsScan Passes Leads m found =
    MatchOption found ((v : ℕ) → v < m → Passes v → ⊥) (IsLeader Passes Leads m)

-- the mask of u is a tight node, and contains X
abbrev pub IsTightAround : NestedData → ℕ → ℕ → Type 0
IsTightAround n X u = IsTight n.masks (linked_of n) (mask_in n u) × Within X (mask_in n u)

-- u is linked, and the node holds it
abbrev pub IsHeldIn : NestedData → ℕ → ℕ → Type 0
IsHeldIn n node u = (linked_of n u ≡ true) × Within (mask_in n u) node

-- who leads: a smaller node, the less urgent task, the more urgent one
abbrev pub LiesWithin : NestedData → ℕ → ℕ → Type 0
LiesWithin n w v = Within (mask_in n w) (mask_in n v)

abbrev pub IsNoMoreUrgent : NestedData → ℕ → ℕ → Type 0
IsNoMoreUrgent n w v = priority_in n v ≤ priority_in n w

abbrev pub IsNoLessUrgent : NestedData → ℕ → ℕ → Type 0
IsNoLessUrgent n w v = priority_in n w ≤ priority_in n v

-- X has the processors of those of the first m masks that are tight nodes, and no others
pub record IsTightUnion (n : NestedData) (m X : ℕ) : Type 0 where
  pub inside : (p : ℕ) → IsTrue (has X p)
      → (u : ℕ) × (u < m) × IsTight n.masks (linked_of n) (mask_in n u)
      × IsTrue (has (mask_in n u) p)
  pub around : (u : ℕ) → u < m → IsTight n.masks (linked_of n) (mask_in n u)
      → Within (mask_in n u) X
