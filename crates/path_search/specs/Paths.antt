-- Paths, and what a search for them answers. A path from a set of processors is a list that is not
-- empty; its first processor is in the set, and a step leads from each processor to the next one.
-- Onward a step is a shift of an occupant, and back it is such a shift read the other way round. A
-- search for a least list answers the least of all lists with the property, or nothing where there
-- is none.
use Rattle.std.specs.Prelude.{ℕ, List, [], ◌∷◌, Option, Some, None, IsTrue}
use Rattle.affinity_mask.specs.ProcSet.{has}
use Rattle.strong_apa.specs.State.{State}
use Rattle.strong_apa.specs.Chain.{CanShift, IsPath, IsChainOf, IsLeastSuch}
use Rattle.path_search.specs.declared.direction.Direction.{Direction}
use Rattle.path_search.specs.declared.direction.Direction.TheVariants.{Onward, Back}

-- the answer is the least list that has the property, or nothing, and then no list has it
abbrev pub IsLeastIfAny : (List ℕ → Type 0) → Option (List ℕ) → Type 0
IsLeastIfAny Has None = (chain : List ℕ) → Has chain → ⊥
IsLeastIfAny Has (Some chain) = IsLeastSuch Has chain

-- a chain of t that ends in the set
abbrev pub EndsIn : State → ℕ → ℕ → List ℕ → Type 0
EndsIn s t ends chain = (q : ℕ) × IsChainOf s t chain q × IsTrue (has ends q)

-- a step from p to q: onward the occupant of p can be shifted to q, and back the occupant of q to p
abbrev pub Steps : State → Direction → ℕ → ℕ → Type 0
Steps s Onward = λ p q. CanShift s p q
Steps s Back = λ p q. CanShift s q p

-- the other direction
abbrev pub opposite_of : Direction → Direction
opposite_of Onward = Back
opposite_of Back = Onward

-- some step leads from the set to q
abbrev pub StepsFrom : State → Direction → ℕ → ℕ → Type 0
StepsFrom s direction set q = (p : ℕ) × IsTrue (has set p) × Steps s direction p q

-- a path from a set of processors to q
abbrev pub IsPathFrom : (ℕ → ℕ → Type 0) → ℕ → List ℕ → ℕ → Type 0
IsPathFrom Step start [] q = ⊥
IsPathFrom Step start (p ∷ rest) q = IsTrue (has start p) × IsPath Step p rest q

-- some path leads from the set to q
abbrev pub LeadsTo : (ℕ → ℕ → Type 0) → ℕ → ℕ → Type 0
LeadsTo Step start q = (path : List ℕ) × IsPathFrom Step start path q

-- a path from a set of processors into another one
abbrev pub LeadsInto : (ℕ → ℕ → Type 0) → ℕ → ℕ → List ℕ → Type 0
LeadsInto Step start target path = (q : ℕ) × IsPathFrom Step start path q × IsTrue (has target q)
