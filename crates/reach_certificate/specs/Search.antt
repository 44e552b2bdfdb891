-- The search for an idle processor. A way of a task past some visited processors is a chain of the
-- task that ends on an idle processor, visits no processor twice, and none of the visited ones.
-- There is none where the visited processors can be completed to a set from which no shift leads
-- out: the task may run only within it, each processor of it that was not visited is occupied, and
-- its occupant may run only within it as well.
use Rattle.std.specs.Prelude.{◌≡◌, ℕ, ◌+◌, ◌≤◌, false, List, length, reverse, IsTrue, ◌⊎◌, Some}
use Rattle.std.specs.Prelude.{All}
use Rattle.affinity_mask.specs.ProcSet.{has, members, Within}
use Rattle.strong_apa.specs.State.{State, effective_mask, task_on}
use Rattle.strong_apa.specs.Chain.{EndsIdle, IsSimple}
use Rattle.reach_certificate.specs.declared.search.Found.{Found}
use Rattle.reach_certificate.specs.declared.search.Found.TheVariants.{Way, Full}

-- a simple chain of t to an idle processor, past the visited ones
pub record IsWay (s : State) (t visited : ℕ) (chain : List ℕ) : Type 0 where
  pub ends_idle : EndsIdle s t chain
  pub simple : IsSimple chain
  pub fresh : All (λ p. has visited p ≡ false) chain
  pub fits : length chain + length (members visited) ≤ 64

-- from t and from each processor of the set that was not visited, shifts stay in the set
pub record IsFull (s : State) (t visited set : ℕ) : Type 0 where
  pub kept : Within visited set
  pub mask : Within (effective_mask s t) set
  pub occupied : (p : ℕ) → IsTrue (has set p)
      → IsTrue (has visited p) ⊎ ((u : ℕ) × (task_on s p ≡ Some u)
      × Within (effective_mask s u) set)

-- what a search from t finds: a way, which stands from its end to its start, or a set from which
-- none leads out
abbrev pub IsSearched : State → ℕ → ℕ → Found → Type 0
IsSearched s t visited (Way back) = IsWay s t visited (reverse back)
IsSearched s t visited (Full set) = IsFull s t visited set
