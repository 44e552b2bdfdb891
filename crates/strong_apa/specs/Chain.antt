-- Chains of shifts. A chain of a task is a non-empty list of processors; the first is in the
-- effective mask of the task; each one before the last is occupied, and the effective mask of its
-- occupant has the next. To shift the task along the chain puts it on the first processor and each
-- occupant on the next one. A back chain to a processor is such a list read from there. Of chains
-- the one with fewer processors is less, and of equally many the lexicographically smaller one.
use Rattle.std.specs.Prelude.{◌≡◌, ◌≢◌, ℕ, ◌<◌, ◌⊎◌, List, [], ◌∷◌, length, IsTrue, ◌↔◌, Option}
use Rattle.std.specs.Prelude.{Some, None, AllPairs, map, if◌then◌else◌, ◌==◌}
use Rattle.std.specs.List.{range_with_len}
use Rattle.affinity_mask.specs.ProcSet.{has}
use Rattle.strong_apa.specs.State.{State, effective_mask, task_on, IsIdle, IsWaiting, IsMoreUrgent}

-- p is occupied, and its occupant may run on q
abbrev pub CanShift : State → ℕ → ℕ → Type 0
CanShift s p q = (u : ℕ) × (task_on s p ≡ Some u) × IsTrue (has (effective_mask s u) q)

-- a path of steps from p: each leads to the next processor of the list, and the last processor is q
abbrev pub IsPath : (ℕ → ℕ → Type 0) → ℕ → List ℕ → ℕ → Type 0
IsPath Step p [] q = p ≡ q
IsPath Step p (r ∷ rest) q = Step p r × IsPath Step r rest q

-- from p on, the occupant of each processor can be shifted to the next one of the list, and the
-- last one is q
abbrev pub IsWalk : State → ℕ → List ℕ → ℕ → Type 0
IsWalk s p rest q = IsPath (CanShift s) p rest q

-- a chain from a set of processors to q: it is not empty, its first processor is in the set, and
-- the rest is a walk
abbrev pub IsChain : State → ℕ → List ℕ → ℕ → Type 0
IsChain s mask [] q = ⊥
IsChain s mask (p ∷ rest) q = IsTrue (has mask p) × IsWalk s p rest q

-- a chain of t that ends on q
abbrev pub IsChainOf : State → ℕ → List ℕ → ℕ → Type 0
IsChainOf s t chain q = IsChain s (effective_mask s t) chain q

-- t reaches q: some chain of t ends on q
abbrev pub Reaches : State → ℕ → ℕ → Type 0
Reaches s t q = (chain : List ℕ) × IsChainOf s t chain q

-- the set has exactly the processors that t reaches
abbrev pub IsReach : State → ℕ → ℕ → Type 0
IsReach s t reach = (q : ℕ) → IsTrue (has reach q) ↔ Reaches s t q

-- no processor stands twice in the list
abbrev pub IsSimple : List ℕ → Type 0
IsSimple chain = AllPairs (λ p q. p ≢ q) chain

-- who is on p once `guest` goes on the first processor of the chain, and each occupant goes on the
-- next one
abbrev pub occupant_after_shift : State → Option ℕ → List ℕ → ℕ → Option ℕ
occupant_after_shift s guest [] p = task_on s p
occupant_after_shift s guest (q ∷ rest) p =
    if p == q then guest else occupant_after_shift s (task_on s q) rest p

-- the state after t was shifted along the chain
abbrev pub state_after_shift : State → ℕ → List ℕ → State
state_after_shift s t chain =
    record s { on = map (occupant_after_shift s (Some t) chain) (range_with_len 0 s.processors) }

-- t is shifted along the chain: it goes on the first processor, each occupant on the next one, and
-- all else stays
abbrev pub Shifted : State → ℕ → List ℕ → State → Type 0
Shifted old t chain new = new ≡ state_after_shift old t chain

-- the task that a shift displaces: the occupant of the last processor, if it had one
abbrev pub task_put_out : State → List ℕ → Option ℕ
task_put_out s [] = None
task_put_out s (p ∷ []) = task_on s p
task_put_out s (p ∷ q ∷ rest) = task_put_out s (q ∷ rest)

-- of two lists of one length: at the first place where they differ, the first list has the smaller
-- number
abbrev pub IsLexicographicallyLess : List ℕ → List ℕ → Type 0
IsLexicographicallyLess [] ys = ⊥
IsLexicographicallyLess (x ∷ xs) [] = ⊥
IsLexicographicallyLess (x ∷ xs) (y ∷ ys) = (x < y) ⊎ ((x ≡ y) × IsLexicographicallyLess xs ys)

-- a list is less than another where it has fewer numbers, or as many and is lexicographically less
abbrev pub IsLess : List ℕ → List ℕ → Type 0
IsLess xs ys = (length xs < length ys) ⊎ ((length xs ≡ length ys) × IsLexicographicallyLess xs ys)

-- the least of all lists with a property
pub record IsLeastSuch (Has : List ℕ → Type 0) (chain : List ℕ) : Type 0 where
  pub itself : Has chain
  pub least : (other : List ℕ) → Has other → (chain ≡ other) ⊎ IsLess chain other

-- a chain of t that ends on an idle processor
abbrev pub EndsIdle : State → ℕ → List ℕ → Type 0
EndsIdle s t chain = (q : ℕ) × IsChainOf s t chain q × IsIdle s q

-- a chain of t that ends on the processor of d
abbrev pub EndsOnTask : State → ℕ → ℕ → List ℕ → Type 0
EndsOnTask s t d chain = (q : ℕ) × IsChainOf s t chain q × (task_on s q ≡ Some d)

-- a back chain to p that ends on q: it begins with p, and each next processor can be shifted to the
-- one before it
abbrev pub IsBackChain : State → ℕ → List ℕ → ℕ → Type 0
IsBackChain s p [] q = ⊥
IsBackChain s p (first ∷ rest) q = (first ≡ p) × IsPath (λ a b. CanShift s b a) p rest q

-- a back chain to p leads back to q
abbrev pub ReachesBack : State → ℕ → ℕ → Type 0
ReachesBack s p q = (chain : List ℕ) × IsBackChain s p chain q

-- the set has exactly the processors that back chains to p lead back to
abbrev pub IsBackReach : State → ℕ → ℕ → Type 0
IsBackReach s p back = (q : ℕ) → IsTrue (has back q) ↔ ReachesBack s p q

-- a waiting task can enter at a processor of its effective mask
abbrev pub CanEnterAt : State → ℕ → ℕ → Type 0
CanEnterAt s w q = IsTrue (has (effective_mask s w) q)

-- a back chain to p at whose end w can enter
abbrev pub EntersBy : State → ℕ → ℕ → List ℕ → Type 0
EntersBy s p w chain = (q : ℕ) × IsBackChain s p chain q × CanEnterAt s w q

-- an improving chain: a chain of a waiting task that ends on an idle processor, or on that of a
-- less urgent task
pub record IsImproving (s : State) (t : ℕ) (chain : List ℕ) : Type 0 where
  pub waits : IsWaiting s t
  pub better : EndsIdle s t chain ⊎ ((d : ℕ) × EndsOnTask s t d chain × IsMoreUrgent s t d)
