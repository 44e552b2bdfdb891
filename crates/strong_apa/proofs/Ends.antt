-- Least chains and least back chains to ends with a property: there is one where there is any, it visits no processor
-- twice, and so it has at most 64.
use Rattle.std.proofs.Common.{◌≡◌, ℕ, ◌<◌, ◌≤◌, List, [], ◌∷◌, length, Option, Some, None, refl, sym, ap, ◌∙◌, inl, inr, IsTrue, arith}
use Rattle.std.proofs.lemmas.Bool.{cases_Bool, cases_eq, true≢false}
use Rattle.std.proofs.lemmas.Option.{same_Some}
use Rattle.affinity_mask.specs.ProcSet.{has}
use Rattle.strong_apa.specs.State.{State, IsState, IsIdle, task_on, effective_mask}
use Rattle.strong_apa.specs.Chain.{CanShift, IsPath, IsWalk, IsChainOf, IsBackChain, IsSimple, IsLeastSuch, EntersBy, CanEnterAt}
use Rattle.strong_apa.specs.Laws.{LeastChainToIdle, LeastChainToTask, LeastBackChain}
use Rattle.strong_apa.proofs.Least.{Decided, least_exists}
use Rattle.strong_apa.proofs.Linked.{occupied_number}
use Rattle.strong_apa.proofs.Masks.{effective_mask_below}
use Rattle.strong_apa.proofs.Shortest.{shortest_is_simple}
use Rattle.strong_apa.proofs.Simple.{AllBelow, length-simple}

-- ---- what can be decided
pub has_decided : (X p : ℕ) → Decided (IsTrue (has X p))
has_decided X p = elim (cases_Bool (has X p)) [
  | inl h ↦ inl h
  | inr h ↦ inr (λ yes_it. true≢false (sym yes_it ∙ h))
]

pub on_decided : (o : Option ℕ) (P : ℕ → Type 0) → ((u : ℕ) → Decided (P u)) → Decided ((u : ℕ) × (o ≡ Some u) × P u)
on_decided None P decided = inr (λ h. let e = h.1 in cc)
on_decided (Some u) P decided = elim (decided u) [
  | inl h ↦ inl (u, refl, h)
  | inr fails ↦ inr (λ h. fails (rw (same_Some u h.0 h.1) h.2))
]

pub CanShift_decided : (s : State) (p q : ℕ) → Decided (CanShift s p q)
CanShift_decided s p q = on_decided (task_on s p) (λ u. IsTrue (has (effective_mask s u) q)) (λ u. has_decided (effective_mask s u) q)

same_occupant_decided : (o : Option ℕ) (d : ℕ) → Decided (o ≡ Some d)
same_occupant_decided o d = elim (on_decided o (λ u. u ≡ d) (λ u. cases_eq u d)) [
  | inl h ↦ inl (h.1 ∙ ap (λ (n : ℕ). Some n) h.2)
  | inr fails ↦ inr (λ e. fails (d, e, refl))
]

path_decided : (Step : ℕ → ℕ → Type 0) → ((p q : ℕ) → Decided (Step p q)) → (Ends : ℕ → Type 0) → ((q : ℕ) → Decided (Ends q))
    → (p : ℕ) (rest : List ℕ) → Decided ((q : ℕ) × IsPath Step p rest q × Ends q)
path_decided Step step_decided Ends ends_decided p [] = elim (ends_decided p) [
  | inl h ↦ inl (p, refl, h)
  | inr fails ↦ inr (λ c. fails (rw c.1 c.2))
]
path_decided Step step_decided Ends ends_decided p (r ∷ rest) = elim (step_decided p r) [
  | inl step ↦ elim (path_decided Step step_decided Ends ends_decided r rest) [
    | inl h ↦ inl (h.0, (step, h.1), h.2)
    | inr fails ↦ inr (λ c. fails (c.0, c.1.1, c.2))
  ]
  | inr fails ↦ inr (λ c. fails c.1.0)
]

-- ---- chains of t to an end with a property
module _ (s : State) (ok : IsState s) (t : ℕ) (Ends : ℕ → Type 0) where
  abbrev EndsWell : List ℕ → Type 0
  EndsWell chain = (q : ℕ) × IsChainOf s t chain q × Ends q

  chain_decided : ((q : ℕ) → Decided (Ends q)) → (chain : List ℕ) → Decided (EndsWell chain)
  chain_decided ends_decided [] = inr (λ h. h.1)
  chain_decided ends_decided (p ∷ rest) = elim (has_decided (effective_mask s t) p) [
    | inl first ↦ elim (path_decided (CanShift s) (CanShift_decided s) Ends ends_decided p rest) [
      | inl h ↦ inl (h.0, (first, h.1), h.2)
      | inr fails ↦ inr (λ c. fails (c.0, c.1.1, c.2))
    ]
    | inr fails ↦ inr (λ c. fails c.1.0)
  ]

  walk_all_below : (p : ℕ) (rest : List ℕ) (q : ℕ) → IsWalk s p rest q → AllBelow s.processors rest
  walk_all_below p [] q walk = tt
  walk_all_below p (r ∷ rest) q walk = (effective_mask_below s ok walk.0.0 r walk.0.2, walk_all_below r rest q walk.1)

  pub chain_all_below : (chain : List ℕ) (q : ℕ) → IsChainOf s t chain q → AllBelow s.processors chain
  chain_all_below [] q c = absurd c
  chain_all_below (p ∷ rest) q c = (effective_mask_below s ok t p c.0, walk_all_below p rest q c.1)

  pub least_chain_exists : ((q : ℕ) → Decided (Ends q)) → (chain : List ℕ) → EndsWell chain → (least : List ℕ) × IsLeastSuch EndsWell least
  least_chain_exists ends_decided chain h =
      least_exists s.processors EndsWell (chain_decided ends_decided) (λ other h'. chain_all_below other h'.0 h'.1) chain h

  pub least_chain_is_simple : (chain : List ℕ) → IsLeastSuch EndsWell chain → IsSimple chain
  least_chain_is_simple [] least = absurd least.itself.1
  least_chain_is_simple (p ∷ rest) least =
      shortest_is_simple (CanShift s) Ends p rest least.itself.0 least.itself.2 least.itself.1.1
      (λ other q ends path. elim (least.least (p ∷ other) (q, (least.itself.1.0, path), ends)) [
        | inl same ↦ (let l = ap length same in omega arith)
        | inr (inl shorter) ↦ omega arith
        | inr (inr as_long) ↦ (let l = as_long.0 in omega arith)
      ])

  pub least_chain_fits : (chain : List ℕ) → IsLeastSuch EndsWell chain → length chain ≤ 64
  least_chain_fits chain least = let n = length-simple s.processors chain (least_chain_is_simple chain least)
      (chain_all_below chain least.itself.0 least.itself.1) in let m = ok.processors in omega arith

-- ---- back chains to p at whose end w can enter
module _ (s : State) (ok : IsState s) (p w : ℕ) where
  abbrev BackStep : ℕ → ℕ → Type 0
  BackStep a b = CanShift s b a

  back_chain_decided : (chain : List ℕ) → Decided (EntersBy s p w chain)
  back_chain_decided [] = inr (λ h. h.1)
  back_chain_decided (first ∷ rest) = elim (cases_eq first p) [
    | inl same ↦ elim (path_decided BackStep (λ a b. CanShift_decided s b a) (CanEnterAt s w) (has_decided (effective_mask s w)) p rest) [
      | inl h ↦ inl (h.0, (same, h.1), h.2)
      | inr fails ↦ inr (λ c. fails (c.0, c.1.1, c.2))
    ]
    | inr other ↦ inr (λ c. other c.1.0)
  ]

  back_walk_all_below : (a : ℕ) (rest : List ℕ) (q : ℕ) → IsPath BackStep a rest q → AllBelow s.processors rest
  back_walk_all_below a [] q path = tt
  back_walk_all_below a (r ∷ rest) q path = (occupied_number s r path.0.0 ok path.0.1, back_walk_all_below r rest q path.1)

  back_chain_all_below : p < s.processors → (chain : List ℕ) (q : ℕ) → IsBackChain s p chain q → AllBelow s.processors chain
  back_chain_all_below below [] q c = absurd c
  back_chain_all_below below (first ∷ rest) q c = (rw c.0 below, back_walk_all_below p rest q c.1)

  pub least_back_chain_exists : p < s.processors → (chain : List ℕ) → EntersBy s p w chain
      → (least : List ℕ) × IsLeastSuch (EntersBy s p w) least
  least_back_chain_exists below chain h =
      least_exists s.processors (EntersBy s p w) back_chain_decided (λ other h'. back_chain_all_below below other h'.0 h'.1) chain h

  pub least_back_chain_is_simple : (chain : List ℕ) → IsLeastSuch (EntersBy s p w) chain → IsSimple chain
  least_back_chain_is_simple [] least = absurd least.itself.1
  least_back_chain_is_simple (first ∷ rest) least =
      rw (least.itself.1.0) (shortest_is_simple BackStep (CanEnterAt s w) p rest least.itself.0 least.itself.2 least.itself.1.1
      (λ other q enters path. elim (least.least (p ∷ other) (q, (refl, path), enters)) [
        | inl same ↦ (let l = ap length same in omega arith)
        | inr (inl shorter) ↦ omega arith
        | inr (inr as_long) ↦ (let l = as_long.0 in omega arith)
      ]))

  pub least_back_chain_fits : p < s.processors → (chain : List ℕ) → IsLeastSuch (EntersBy s p w) chain → length chain ≤ 64
  least_back_chain_fits below chain least = let n = length-simple s.processors chain (least_back_chain_is_simple chain least)
      (back_chain_all_below below chain least.itself.0 least.itself.1) in let m = ok.processors in omega arith

-- ---- the three properties for which a least chain is chosen
pub least_chain_to_idle : LeastChainToIdle
least_chain_to_idle s t ok = record {
  exists = least_chain_exists s ok t (IsIdle s) (λ q. idle_decided q);
  simple = least_chain_is_simple s ok t (IsIdle s);
  fits = least_chain_fits s ok t (IsIdle s);
}
  where
    nobody_decided : (o : Option ℕ) → Decided (o ≡ None)
    nobody_decided None = inl refl
    nobody_decided (Some u) = inr (λ e. cc)

    idle_decided : (q : ℕ) → Decided (IsIdle s q)
    idle_decided q = elim (has_decided s.online q) [
      | inl online ↦ elim (nobody_decided (task_on s q)) [
        | inl nobody ↦ inl (online, nobody)
        | inr occupied ↦ inr (λ h. occupied h.1)
      ]
      | inr offline ↦ inr (λ h. offline h.0)
    ]

pub least_chain_to_task : LeastChainToTask
least_chain_to_task s t d ok = record {
  exists = least_chain_exists s ok t (λ q. task_on s q ≡ Some d) (λ q. same_occupant_decided (task_on s q) d);
  simple = least_chain_is_simple s ok t (λ q. task_on s q ≡ Some d);
  fits = least_chain_fits s ok t (λ q. task_on s q ≡ Some d);
}

pub least_back_chain : LeastBackChain
least_back_chain s p w ok below = record {
  exists = least_back_chain_exists s ok p w below;
  simple = least_back_chain_is_simple s ok p w;
  fits = least_back_chain_fits s ok p w below;
}
