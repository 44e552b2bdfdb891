-- Least paths from a set of processors into another one, by their length.
use Rattle.std.proofs.Common.{◌≡◌, ℕ, ◌+◌, ◌<◌, ◌&&◌, List, [], ◌∷◌, ◌++◌, length, length-append, refl, sym, ap, ◌∙◌, subst, inl, inr, ◌⊎◌}
use Rattle.std.proofs.Common.{IsTrue, arith}
use Rattle.std.proofs.lemmas.Bool.{cases_eq, and_parts, and_from}
use Rattle.affinity_mask.specs.ProcSet.{has, IsLeastMember}
use Rattle.strong_apa.specs.State.{State, IsState}
use Rattle.strong_apa.specs.Chain.{IsPath, IsLess, IsLeastSuch}
use Rattle.strong_apa.proofs.Paths.{IsPath-push}
use Rattle.strong_apa.proofs.Simple.{AllBelow}
use Rattle.path_search.specs.declared.direction.Direction.{Direction}
use Rattle.path_search.specs.Paths.{Steps, IsPathFrom, LeadsInto}
use Rattle.path_search.proofs.Moves.{Steps-below}

-- ---- lists with one number more at the end
pub length-behind : (xs : List ℕ) (p : ℕ) → length (xs ++ p ∷ []) ≡ length xs + 1
length-behind xs p = length-append xs (p ∷ [])

-- ---- paths and their ends
pub IsPathFrom-push : (Step : ℕ → ℕ → Type 0) (start : ℕ) (path : List ℕ) (q r : ℕ) → IsPathFrom Step start path q → Step q r
    → IsPathFrom Step start (path ++ r ∷ []) r
IsPathFrom-push Step start [] q r path step = absurd path
IsPathFrom-push Step start (p ∷ rest) q r path step = (path.0, IsPath-push Step p rest q r path.1 step)

walk_below : (s : State) → IsState s → (direction : Direction) (p : ℕ) (rest : List ℕ) (q : ℕ) → p < s.processors
    → IsPath (Steps s direction) p rest q → q < s.processors
walk_below s ok direction p [] q below path = subst (λ (x : ℕ). x < s.processors) path below
walk_below s ok direction p (r ∷ rest) q below path = walk_below s ok direction r rest q (Steps-below s ok direction p r path.0) path.1

-- a path from some of the processors ends on one of them
pub IsPathFrom-below : (s : State) → IsState s → (direction : Direction) (start : ℕ) (path : List ℕ) (q : ℕ)
    → ((p : ℕ) → IsTrue (has start p) → p < s.processors) → IsPathFrom (Steps s direction) start path q → q < s.processors
IsPathFrom-below s ok direction start [] q below path = absurd path
IsPathFrom-below s ok direction start (p ∷ rest) q below path = walk_below s ok direction p rest q (below p path.0) path.1

walk_all_below : (s : State) → IsState s → (direction : Direction) (p : ℕ) (rest : List ℕ) (q : ℕ) → IsPath (Steps s direction) p rest q
    → AllBelow s.processors rest
walk_all_below s ok direction p [] q path = tt
walk_all_below s ok direction p (r ∷ rest) q path = (Steps-below s ok direction p r path.0, walk_all_below s ok direction r rest q path.1)

-- and so are all that it comes to
pub IsPathFrom-all_below : (s : State) → IsState s → (direction : Direction) (start : ℕ) (path : List ℕ) (q : ℕ)
    → ((p : ℕ) → IsTrue (has start p) → p < s.processors) → IsPathFrom (Steps s direction) start path q → AllBelow s.processors path
IsPathFrom-all_below s ok direction start [] q below path = absurd path
IsPathFrom-all_below s ok direction start (p ∷ rest) q below path = (below p path.0, walk_all_below s ok direction p rest q path.1)

-- a path that has a step: what stands before its last processor, and the step to it
path_parted : (Step : ℕ → ℕ → Type 0) (p r : ℕ) (rest : List ℕ) (q : ℕ) → IsPath Step p (r ∷ rest) q
    → (front : List ℕ) × (e : ℕ) × (r ∷ rest ≡ front ++ q ∷ []) × IsPath Step p front e × Step e q
path_parted Step p r [] q path = ([], p, ap (λ (z : ℕ). z ∷ []) path.1, refl, subst (Step p) path.1 path.0)
path_parted Step p r (x ∷ rest) q path =
    let later = path_parted Step r x rest q path.1 in (r ∷ later.0, later.1, ap (λ (z : List ℕ). r ∷ z) later.2, (path.0, later.3), later.4)

-- a path of one processor, or a path to some processor and a step from there
pub last_step : (Step : ℕ → ℕ → Type 0) (start : ℕ) (path : List ℕ) (q : ℕ) → IsPathFrom Step start path q
    → ((path ≡ q ∷ []) × IsTrue (has start q))
    ⊎ ((front : List ℕ) × (e : ℕ) × (path ≡ front ++ q ∷ []) × IsPathFrom Step start front e × Step e q)
last_step Step start [] q path = absurd path
last_step Step start (p ∷ []) q path = inl (ap (λ (z : ℕ). z ∷ []) path.1, subst (λ (x : ℕ). IsTrue (has start x)) path.1 path.0)
last_step Step start (p ∷ r ∷ rest) q path = let parts = path_parted Step p r rest q path.1 in
    inr (p ∷ parts.0, parts.1, ap (λ (z : List ℕ). p ∷ z) parts.2, (path.0, parts.3), parts.4)

-- where two sets meet, the least path from one into the other is their least common member
module _ (Step : ℕ → ℕ → Type 0) (start target both : ℕ) (is_both : (q : ℕ) → has both q ≡ (has start q && has target q)) (p : ℕ)
    (member : IsLeastMember both p) where
  against : (other : List ℕ) → LeadsInto Step start target other → (p ∷ [] ≡ other) ⊎ IsLess (p ∷ []) other
  against [] leads = absurd leads.1
  against (q ∷ []) leads =
      let le = member.1 q (is_both q ∙ and_from (has start q) (has target q) leads.1.0
      (subst (λ (x : ℕ). IsTrue (has target x)) (sym leads.1.1) leads.2)) in
      elim (cases_eq p q) [
        | inl e ↦ inl (ap (λ (z : ℕ). z ∷ []) e)
        | inr ne ↦ inr (inr (refl, inl (omega arith)))
      ]
  against (q ∷ r ∷ rest) leads = inr (inl (omega arith))

  pub least_one : IsLeastSuch (LeadsInto Step start target) (p ∷ [])
  least_one = let parts = and_parts (has start p) (has target p) (sym (is_both p) ∙ member.0) in
      record { itself = (p, (parts.0, refl), parts.1); least = against }
