-- The processors that a task reaches, and those that lead back from a processor, are sets: paths can be searched for.
use Rattle.std.proofs.Common.{◌≡◌, ℕ, zero, suc, ◌<◌, ◌≤◌, ◌^◌, List, [], ◌∷◌, length, refl, ap, subst, inl, inr, ◌↔◌, IsTrue, arith}
use Rattle.std.proofs.lemmas.Bool.{cases_eq}
use Rattle.affinity_mask.specs.ProcSet.{has}
use Rattle.affinity_mask.proofs.Sets.{has-pow}
use Rattle.strong_apa.specs.State.{State, IsState, effective_mask}
use Rattle.strong_apa.specs.Chain.{IsPath, IsSimple, IsLeastSuch, IsReach, IsBackReach, Reaches}
use Rattle.strong_apa.proofs.Ends.{CanShift_decided, has_decided}
use Rattle.strong_apa.proofs.Least.{Decided, least_exists}
use Rattle.strong_apa.proofs.Masks.{effective_mask_below}
use Rattle.strong_apa.proofs.Shortest.{shortest_is_simple}
use Rattle.strong_apa.proofs.Simple.{length-simple}
use Rattle.path_search.specs.declared.direction.Direction.{Direction}
use Rattle.path_search.specs.declared.direction.Direction.TheVariants.{Onward, Back}
use Rattle.path_search.specs.Paths.{Steps, IsPathFrom, LeadsTo}
use Rattle.path_search.proofs.ChainPaths.{path_from_back_chain, back_chain_from_path, start_below}
use Rattle.path_search.proofs.LeastPaths.{IsPathFrom-below, IsPathFrom-all_below}
use Rattle.path_search.proofs.Moves.{Steps-below}
use Rattle.strong_apa.proofs.FirstFound.{both_decided, exists_below}
use Rattle.history_laws.proofs.StepSearch.{set_below}

-- whether a list is a path from p to q
path_decided : (Step : ℕ → ℕ → Type 0) → ((p q : ℕ) → Decided (Step p q)) → (p : ℕ) (rest : List ℕ) (q : ℕ) → Decided (IsPath Step p rest q)
path_decided Step step_decided p [] q = cases_eq p q
path_decided Step step_decided p (r ∷ rest) q =
    both_decided (Step p r) (IsPath Step r rest q) (step_decided p r) (path_decided Step step_decided r rest q)

-- a path of at most n steps leads from p to q
abbrev LeadsWithin : (ℕ → ℕ → Type 0) → ℕ → ℕ → ℕ → Type 0
LeadsWithin Step n p q = (rest : List ℕ) × (length rest ≤ n) × IsPath Step p rest q

leads_within_decided : (Step : ℕ → ℕ → Type 0) → ((p q : ℕ) → Decided (Step p q)) → (m : ℕ) → ((p q : ℕ) → Step p q → q < m) → (n p q : ℕ)
    → Decided (LeadsWithin Step n p q)
leads_within_decided Step step_decided m below zero p q = elim (cases_eq p q) [
  | inl same ↦ inl ([], omega arith, same)
  | inr other ↦ inr (no_path other)
]
  where
    no_path : (p ≡ q → ⊥) → LeadsWithin Step zero p q → ⊥
    no_path other ([], short, path) = other path
    no_path other (r ∷ rest, short, path) = omega arith
leads_within_decided Step step_decided m below (suc n) p q = elim (cases_eq p q) [
  | inl same ↦ inl ([], omega arith, same)
  | inr other ↦ elim (exists_below (λ r. Step p r × LeadsWithin Step n r q)
      (λ r. both_decided (Step p r) (LeadsWithin Step n r q) (step_decided p r) (leads_within_decided Step step_decided m below n r q)) m) [
        | inl found ↦ inl (found.0 ∷ found.2.1.0, (let short = found.2.1.1 in omega arith), (found.2.0, found.2.1.2))
        | inr none ↦ inr (first_step other none)
      ]
]
  where
    first_step : (p ≡ q → ⊥) → ((r : ℕ) × (r < m) × (Step p r × LeadsWithin Step n r q) → ⊥) → LeadsWithin Step (suc n) p q → ⊥
    first_step other none ([], short, path) = other path
    first_step other none (r ∷ rest, short, path) = none (r, below p r path.0, (path.0, (rest, omega arith, path.1)))

-- ---- paths in a state
module _ (s : State) (ok : IsState s) (direction : Direction) where
  steps_decided : (p q : ℕ) → Decided (Steps s direction p q)
  steps_decided p q = by direction
    where
      by : (d : Direction) → Decided (Steps s d p q)
      by Onward = CanShift_decided s p q
      by Back = CanShift_decided s q p

  module _ (start : ℕ) (start_inside : (p : ℕ) → IsTrue (has start p) → p < s.processors) where
    abbrev PathTo : ℕ → List ℕ → Type 0
    PathTo q path = IsPathFrom (Steps s direction) start path q

    path_to_decided : (q : ℕ) (path : List ℕ) → Decided (PathTo q path)
    path_to_decided q [] = inr (λ h. h)
    path_to_decided q (p ∷ rest) = both_decided (IsTrue (has start p)) (IsPath (Steps s direction) p rest q) (has_decided start p)
        (path_decided (Steps s direction) steps_decided p rest q)

    least_is_simple : (q : ℕ) (path : List ℕ) → IsLeastSuch (PathTo q) path → IsSimple path
    least_is_simple q [] least = absurd least.itself
    least_is_simple q (p ∷ rest) least =
        shortest_is_simple (Steps s direction) (λ e. e ≡ q) p rest q refl least.itself.1
        (λ other e ends path. elim (least.least (p ∷ other) (least.itself.0, subst (IsPath (Steps s direction) p other) ends path)) [
          | inl same ↦ (let l = ap length same in omega arith)
          | inr (inl shorter) ↦ omega arith
          | inr (inr as_long) ↦ (let l = as_long.0 in omega arith)
        ])

    -- where there is a path, there is one with at most as many processors as there are
    short_path : (q : ℕ) (path : List ℕ) → PathTo q path → (short : List ℕ) × PathTo q short × (length short ≤ s.processors)
    short_path q path h =
        let least = least_exists s.processors (PathTo q) (path_to_decided q)
        (λ other h'. IsPathFrom-all_below s ok direction start other q start_inside h') path h in (
          least.0,
          least.1.itself,
          length-simple s.processors least.0 (least_is_simple q least.0 least.1)
              (IsPathFrom-all_below s ok direction start least.0 q start_inside least.1.itself),
        )

    -- a path to q begins with p
    abbrev BeginsTo : ℕ → ℕ → Type 0
    BeginsTo q p = IsTrue (has start p) × LeadsWithin (Steps s direction) s.processors p q

    -- whether the set leads to q
    leads_to_decided : (q : ℕ) → Decided (LeadsTo (Steps s direction) start q)
    leads_to_decided q = elim (exists_below (BeginsTo q)
        (λ p. both_decided (IsTrue (has start p)) (LeadsWithin (Steps s direction) s.processors p q) (has_decided start p)
        (leads_within_decided (Steps s direction) steps_decided s.processors (Steps-below s ok direction) s.processors p q)) s.processors) [
          | inl found ↦ inl (found.0 ∷ found.2.1.0, (found.2.0, found.2.1.2))
          | inr none ↦ inr (λ h. let short = short_path q h.0 h.1 in no_start none short.0 short.1 short.2)
        ]
      where
        no_start : ((p : ℕ) × (p < s.processors) × BeginsTo q p → ⊥) → (path : List ℕ) → PathTo q path → length path ≤ s.processors → ⊥
        no_start none [] path short = path
        no_start none (p ∷ rest) path short = none (p, start_inside p path.0, (path.0, (rest, omega arith, path.1)))

    -- all that the set leads to is a set
    pub leads_to_set : (X : ℕ) × ((q : ℕ) → IsTrue (has X q) ↔ LeadsTo (Steps s direction) start q)
    leads_to_set =
        let found = set_below (LeadsTo (Steps s direction) start) leads_to_decided s.processors in
        (found.0, λ q. (λ h. ((found.1 q).0 h).1, λ h. (found.1 q).1 (IsPathFrom-below s ok direction start h.0 q start_inside h.1, h)))

-- ---- the reach of a task
pub reach_exists : (s : State) → IsState s → (t : ℕ) → (reach : ℕ) × IsReach s t reach
reach_exists s ok t =
    let found = leads_to_set s ok Onward (effective_mask s t) (effective_mask_below s ok t) in
    (found.0, λ q. (λ h. chain_of q ((found.1 q).0 h), λ h. (found.1 q).1 (path_of q h)))
  where
    chain_of : (q : ℕ) → LeadsTo (Steps s Onward) (effective_mask s t) q → Reaches s t q
    chain_of q ([], path) = absurd path
    chain_of q (p ∷ rest, path) = (p ∷ rest, path)

    path_of : (q : ℕ) → Reaches s t q → LeadsTo (Steps s Onward) (effective_mask s t) q
    path_of q ([], chain) = absurd chain
    path_of q (p ∷ rest, chain) = (p ∷ rest, chain)

-- ---- the back reach of a processor
pub back_reach_exists : (s : State) → IsState s → (p : ℕ) → p < s.processors → (back : ℕ) × IsBackReach s p back
back_reach_exists s ok p inside =
    let start = 2 ^ p in
    let is_start = has-pow p in
    let found = leads_to_set s ok Back start (start_below s p start is_start inside) in (
      found.0,
      λ q. (
        λ h. (let path = (found.1 q).0 h in (path.0, back_chain_from_path s p start is_start path.0 q path.1)),
        λ h. (found.1 q).1 (h.0, path_from_back_chain s p start is_start h.0 q h.1),
      ),
    )
