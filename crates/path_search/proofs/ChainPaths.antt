-- Chains and back chains as paths.
use Rattle.std.proofs.Common.{◌≡◌, ℕ, ◌<◌, List, [], ◌∷◌, Option, Some, None, nat_eq, refl, sym, ◌∙◌, subst, IsTrue, ◌↔◌, eq-eqb, eqb-true}
use Rattle.affinity_mask.specs.ProcSet.{has}
use Rattle.strong_apa.specs.State.{State, IsState, IsIdle, task_on, effective_mask}
use Rattle.strong_apa.specs.Chain.{IsPath, IsChainOf, IsBackChain, EndsIdle, EndsOnTask, EntersBy}
use Rattle.path_search.specs.declared.direction.Direction.TheVariants.{Onward, Back}
use Rattle.path_search.specs.Paths.{Steps, IsPathFrom, LeadsInto, IsLeastIfAny, EndsIn}

-- two properties of the same lists have the same answer
pub IsLeastIfAny-same : (A B : List ℕ → Type 0) → ((xs : List ℕ) → A xs → B xs) → ((xs : List ℕ) → B xs → A xs) → (answer : Option (List ℕ))
    → IsLeastIfAny A answer → IsLeastIfAny B answer
IsLeastIfAny-same A B to from None none = λ path h. none path (from path h)
IsLeastIfAny-same A B to from (Some path) least =
    record { itself = to path least.itself; least = λ other h. least.least other (from other h) }

-- ---- chains
path_from_chain : (s : State) (t : ℕ) (chain : List ℕ) (q : ℕ) → IsChainOf s t chain q
    → IsPathFrom (Steps s Onward) (effective_mask s t) chain q
path_from_chain s t [] q c = c
path_from_chain s t (p ∷ rest) q c = c

chain_from_path : (s : State) (t : ℕ) (chain : List ℕ) (q : ℕ) → IsPathFrom (Steps s Onward) (effective_mask s t) chain q
    → IsChainOf s t chain q
chain_from_path s t [] q c = c
chain_from_path s t (p ∷ rest) q c = c

-- the least path of shifts from the mask of t into a set is the least chain of t that ends there
pub chain_answer : (s : State) (t ends : ℕ) (answer : Option (List ℕ))
    → IsLeastIfAny (LeadsInto (Steps s Onward) (effective_mask s t) ends) answer → IsLeastIfAny (EndsIn s t ends) answer
chain_answer s t ends answer found =
    IsLeastIfAny-same (LeadsInto (Steps s Onward) (effective_mask s t) ends) (EndsIn s t ends) to from answer found
  where
    to : (path : List ℕ) → LeadsInto (Steps s Onward) (effective_mask s t) ends path → EndsIn s t ends path
    to path h = (h.0, chain_from_path s t path h.0 h.1, h.2)

    from : (path : List ℕ) → EndsIn s t ends path → LeadsInto (Steps s Onward) (effective_mask s t) ends path
    from path h = (h.0, path_from_chain s t path h.0 h.1, h.2)

-- chains that end in the set of one processor
module _ (s : State) (t p one : ℕ) (is_one : (q : ℕ) → has one q ≡ nat_eq q p) where
  pub EndsIn-one : (chain : List ℕ) → EndsIn s t one chain → IsChainOf s t chain p
  EndsIn-one chain h = subst (λ (x : ℕ). IsChainOf s t chain x) (eqb-true h.0 p (sym (is_one h.0) ∙ h.2)) h.1

  pub one-EndsIn : (chain : List ℕ) → IsChainOf s t chain p → EndsIn s t one chain
  one-EndsIn chain c = (p, c, is_one p ∙ eq-eqb p p refl)

  module _ (ok : IsState s) (d : ℕ) (on : task_on s p ≡ Some d) where
    pub EndsIn-task : (chain : List ℕ) → EndsIn s t one chain → EndsOnTask s t d chain
    EndsIn-task chain h = (p, EndsIn-one chain h, on)

    pub task-EndsIn : (chain : List ℕ) → EndsOnTask s t d chain → EndsIn s t one chain
    task-EndsIn chain h = one-EndsIn chain (subst (λ (x : ℕ). IsChainOf s t chain x) (ok.once h.0 p d h.2 on) h.1)

-- chains that end in the set of the idle processors
module _ (s : State) (t idle : ℕ) (is_idle : (q : ℕ) → IsTrue (has idle q) ↔ IsIdle s q) where
  pub EndsIn-idle : (chain : List ℕ) → EndsIn s t idle chain → EndsIdle s t chain
  EndsIn-idle chain h = (h.0, h.1, (is_idle h.0).0 h.2)

  pub idle-EndsIn : (chain : List ℕ) → EndsIdle s t chain → EndsIn s t idle chain
  idle-EndsIn chain h = (h.0, h.1, (is_idle h.0).1 h.2)

-- ---- back chains
module _ (s : State) (p start : ℕ) (is_start : (q : ℕ) → has start q ≡ nat_eq q p) where
  pub path_from_back_chain : (chain : List ℕ) (q : ℕ) → IsBackChain s p chain q → IsPathFrom (Steps s Back) start chain q
  path_from_back_chain [] q c = c
  path_from_back_chain (first ∷ rest) q c =
      (is_start first ∙ eq-eqb first p c.0, subst (λ (x : ℕ). IsPath (Steps s Back) x rest q) (sym c.0) c.1)

  pub back_chain_from_path : (chain : List ℕ) (q : ℕ) → IsPathFrom (Steps s Back) start chain q → IsBackChain s p chain q
  back_chain_from_path [] q c = c
  back_chain_from_path (first ∷ rest) q c =
      let e = eqb-true first p (sym (is_start first) ∙ c.0) in (e, subst (λ (x : ℕ). IsPath (Steps s Back) x rest q) e c.1)

  -- its one processor is one of the processors
  pub start_below : p < s.processors → (q : ℕ) → IsTrue (has start q) → q < s.processors
  start_below below q h = let e = eqb-true q p (sym (is_start q) ∙ h) in subst (λ (x : ℕ). x < s.processors) (sym e) below

  module _ (w entries : ℕ) (is_entries : entries ≡ effective_mask s w) where
    to : (path : List ℕ) → LeadsInto (Steps s Back) start entries path → EntersBy s p w path
    to path h = (h.0, back_chain_from_path path h.0 h.1, subst (λ (X : ℕ). IsTrue (has X h.0)) is_entries h.2)

    from : (path : List ℕ) → EntersBy s p w path → LeadsInto (Steps s Back) start entries path
    from path h = (h.0, path_from_back_chain path h.0 h.1, subst (λ (X : ℕ). IsTrue (has X h.0)) (sym is_entries) h.2)

    -- the least path back from p into the mask of w is the least back chain to p by which w can enter
    pub back_chain_answer : (answer : Option (List ℕ)) → IsLeastIfAny (LeadsInto (Steps s Back) start entries) answer
        → IsLeastIfAny (EntersBy s p w) answer
    back_chain_answer answer found = IsLeastIfAny-same (LeadsInto (Steps s Back) start entries) (EntersBy s p w) to from answer found
