-- Closed sets of processors. A chain that comes into one stays in it, so a shift along a chain either leaves the set
-- alone, or ends in it and moves none of its tasks out but the one on which it ends.
use Rattle.std.proofs.Common.{◌≡◌, ◌≢◌, ℕ, false, List, [], ◌∷◌, ◌++◌, length, get_or, Option, Some, None, refl, sym, ap, ◌∙◌, subst, inl}
use Rattle.std.proofs.Common.{inr, ◌⊎◌, IsTrue, arith}
use Rattle.std.proofs.lemmas.Bool.{cases_Bool, cases_eq, true≢false}
use Rattle.std.proofs.lemmas.Option.{same_Some}
use Rattle.affinity_mask.specs.ProcSet.{has, Within}
use Rattle.strong_apa.specs.State.{State, effective_mask, task_on}
use Rattle.strong_apa.specs.Chain.{IsWalk, IsChainOf, IsReach, IsSimple, occupant_after_shift}
use Rattle.strong_apa.specs.Certificate.{IsCertificate}
use Rattle.strong_apa.proofs.Paths.{IsChainOf-push}
use Rattle.strong_apa.proofs.Shifts.{occupant-first, occupant-later, handed_on}
use Rattle.strong_apa.proofs.Simple.{Avoids, IsSimple-head, IsSimple-tail}

-- each task on a processor of the set may run only within it
abbrev pub IsClosed : State → ℕ → Type 0
IsClosed s X = (p u : ℕ) → IsTrue (has X p) → task_on s p ≡ Some u → Within (effective_mask s u) X

pub IsCertificate-closed : (s : State) (v X : ℕ) → IsCertificate s v X → IsClosed s X
IsCertificate-closed s v X certificate p u inside on =
    let occupant = certificate.occupied p inside in
    subst (λ (z : ℕ). Within (effective_mask s z) X) (same_Some occupant.0 u (sym occupant.1 ∙ on)) occupant.3

-- a reach has the mask of its task, and it is closed
pub IsReach-first : (s : State) (t reach : ℕ) → IsReach s t reach → Within (effective_mask s t) reach
IsReach-first s t reach reached p allowed = (reached p).1 (p ∷ [], (allowed, refl))

pub IsReach-closed : (s : State) (t reach : ℕ) → IsReach s t reach → IsClosed s reach
IsReach-closed s t reach reached p u inside on r allowed =
    let chain = (reached p).0 inside in
    (reached r).1 (chain.0 ++ r ∷ [], IsChainOf-push s t chain.0 p r chain.1 (u, on, allowed))

-- two processors of which the set has just one differ
apart : (X p x : ℕ) → IsTrue (has X p) → has X x ≡ false → p ≢ x
apart X p x inside outside same = true≢false (sym inside ∙ ap (has X) same ∙ outside)

module _ (s : State) (X : ℕ) (closed : IsClosed s X) where
  walk_inside : (p : ℕ) (rest : List ℕ) (q : ℕ) → IsTrue (has X p) → IsWalk s p rest q → IsTrue (has X q)
  walk_inside p [] q inside walk = rw walk at inside
  walk_inside p (r ∷ rest) q inside walk = walk_inside r rest q (closed p walk.0.0 inside walk.0.1 r walk.0.2) walk.1

  -- a chain of a task that may run only within the set ends there
  pub chain_inside : (t : ℕ) → Within (effective_mask s t) X → (chain : List ℕ) (q : ℕ) → IsChainOf s t chain q → IsTrue (has X q)
  chain_inside t first [] q c = absurd c
  chain_inside t first (x ∷ rest) q c = walk_inside x rest q (first x c.0) c.1

  -- a chain that does not end in the set leaves the set alone
  walk_past : (guest : Option ℕ) (x : ℕ) (rest : List ℕ) (q : ℕ) → IsWalk s x rest q → has X q ≡ false → (p : ℕ) → IsTrue (has X p)
      → occupant_after_shift s guest (x ∷ rest) p ≡ task_on s p
  walk_past guest x [] q walk past p inside = occupant-later s guest x [] p (apart X p x inside (ap (has X) walk ∙ past))
  walk_past guest x (r ∷ rest) q walk past p inside = elim (cases_Bool (has X x)) [
    | inl enters ↦ absurd (true≢false (sym (walk_inside x (r ∷ rest) q enters walk) ∙ past))
    | inr outside ↦ occupant-later s guest x (r ∷ rest) p (apart X p x inside outside)
        ∙ walk_past (task_on s x) r rest q walk.1 past p inside
  ]

  pub chain_past : (guest : Option ℕ) (t : ℕ) (chain : List ℕ) (q : ℕ) → IsChainOf s t chain q → has X q ≡ false → (p : ℕ)
      → IsTrue (has X p) → occupant_after_shift s guest chain p ≡ task_on s p
  chain_past guest t [] q c past p inside = absurd c
  chain_past guest t (x ∷ rest) q c past p inside = walk_past guest x rest q c.1 past p inside

  -- a chain within the set leaves all else alone
  walk_within : (guest : Option ℕ) (x : ℕ) (rest : List ℕ) (q : ℕ) → IsWalk s x rest q → IsTrue (has X x) → (p : ℕ) → has X p ≡ false
      → occupant_after_shift s guest (x ∷ rest) p ≡ task_on s p
  walk_within guest x [] q walk enters p outside = occupant-later s guest x [] p (λ e. apart X x p enters outside (sym e))
  walk_within guest x (r ∷ rest) q walk enters p outside =
      occupant-later s guest x (r ∷ rest) p (λ e. apart X x p enters outside (sym e))
      ∙ walk_within (task_on s x) r rest q walk.1 (closed x walk.0.0 enters walk.0.1 r walk.0.2) p outside

  pub chain_within : (t : ℕ) → Within (effective_mask s t) X → (chain : List ℕ) (q : ℕ) → IsChainOf s t chain q → (p : ℕ) → has X p ≡ false
      → occupant_after_shift s (Some t) chain p ≡ task_on s p
  chain_within t first [] q c p outside = absurd c
  chain_within t first (x ∷ rest) q c p outside = walk_within (Some t) x rest q c.1 (first x c.0) p outside

  -- after a chain within the set, whoever is in it is the guest, or was in it before
  from_within : (guest : Option ℕ) (x : ℕ) (rest : List ℕ) (q : ℕ) → IsWalk s x rest q → IsTrue (has X x) → (p u : ℕ) → IsTrue (has X p)
      → occupant_after_shift s guest (x ∷ rest) p ≡ Some u → (guest ≡ Some u) ⊎ ((y : ℕ) × IsTrue (has X y) × (task_on s y ≡ Some u))
  from_within guest x [] q walk enters p u inside e = elim (cases_eq p x) [
    | inl same ↦ inl (sym (occupant-first s guest x []) ∙ rw same at e)
    | inr other ↦ inr (p, inside, sym (occupant-later s guest x [] p other) ∙ e)
  ]
  from_within guest x (r ∷ rest) q walk enters p u inside e = elim (cases_eq p x) [
    | inl same ↦ inl (sym (occupant-first s guest x (r ∷ rest)) ∙ rw same at e)
    | inr other ↦ inr (elim (from_within (task_on s x) r rest q walk.1 (closed x walk.0.0 enters walk.0.1 r walk.0.2) p u inside
        (sym (occupant-later s guest x (r ∷ rest) p other) ∙ e)) [
          | inl here ↦ (x, enters, here)
          | inr there ↦ there
        ])
  ]

  pub occupant_within : (t : ℕ) → Within (effective_mask s t) X → (chain : List ℕ) (q : ℕ) → IsChainOf s t chain q → (p u : ℕ)
      → IsTrue (has X p) → occupant_after_shift s (Some t) chain p ≡ Some u
      → (t ≡ u) ⊎ ((y : ℕ) × IsTrue (has X y) × (task_on s y ≡ Some u))
  occupant_within t first [] q c p u inside e = absurd c
  occupant_within t first (x ∷ rest) q c p u inside e = elim (from_within (Some t) x rest q c.1 (first x c.0) p u inside e) [
    | inl it ↦ inl (same_Some t u it)
    | inr there ↦ inr there
  ]

-- ---- chains and who is where, in any set
-- an occupied processor stays occupied, and the last one of the chain is occupied then
walk_fills : (s : State) (guest : Option ℕ) (x : ℕ) (rest : List ℕ) (q : ℕ) → IsWalk s x rest q → guest ≢ None → (p : ℕ)
    → (task_on s p ≢ None) ⊎ (p ≡ q) → occupant_after_shift s guest (x ∷ rest) p ≢ None
walk_fills s guest x [] q walk some p before e = elim (cases_eq p x) [
  | inl same ↦ some (sym (occupant-first s guest x []) ∙ rw same at e)
  | inr other ↦ elim before [
    | inl occupied ↦ occupied (sym (occupant-later s guest x [] p other) ∙ e)
    | inr end ↦ other (end ∙ sym walk)
  ]
]
walk_fills s guest x (r ∷ rest) q walk some p before e = elim (cases_eq p x) [
  | inl same ↦ some (sym (occupant-first s guest x (r ∷ rest)) ∙ rw same at e)
  | inr other ↦ walk_fills s (task_on s x) r rest q walk.1 (λ none. let on = walk.0.1 in cc) p before
      (sym (occupant-later s guest x (r ∷ rest) p other) ∙ e)
]

pub chain_fills : (s : State) (t : ℕ) (chain : List ℕ) (q : ℕ) → IsChainOf s t chain q → (p : ℕ) → (task_on s p ≢ None) ⊎ (p ≡ q)
    → (u : ℕ) × (occupant_after_shift s (Some t) chain p ≡ Some u)
chain_fills s t [] q c p before = absurd c
chain_fills s t (x ∷ rest) q c p before =
    some_of (occupant_after_shift s (Some t) (x ∷ rest) p) (walk_fills s (Some t) x rest q c.1 (λ e. cc) p before)
  where
    some_of : (o : Option ℕ) → o ≢ None → (u : ℕ) × (o ≡ Some u)
    some_of None ne = absurd (ne refl)
    some_of (Some u) ne = (u, refl)

-- the last processor of a walk
walk_last : (s : State) (p : ℕ) (rest : List ℕ) (q : ℕ) → IsWalk s p rest q → get_or (p ∷ rest) (length rest) 0 ≡ q
walk_last s p [] q walk = walk
walk_last s p (r ∷ rest) q walk = walk_last s r rest q walk.1

-- no task is on two processors
abbrev pub IsOnce : State → Type 0
IsOnce s = (p q t : ℕ) → task_on s p ≡ Some t → task_on s q ≡ Some t → p ≡ q

-- the task that a simple chain displaces is nowhere then
walk_puts_out : (s : State) → IsOnce s → (guest : Option ℕ) (x : ℕ) (rest : List ℕ) (q : ℕ) → IsWalk s x rest q → IsSimple (x ∷ rest)
    → (d : ℕ) → guest ≢ Some d → task_on s q ≡ Some d → (p : ℕ) → occupant_after_shift s guest (x ∷ rest) p ≢ Some d
walk_puts_out s once guest x [] q walk simple d other_guest end p e = elim (cases_eq p x) [
  | inl same ↦ other_guest (sym (occupant-first s guest x []) ∙ rw same at e)
  | inr other ↦ other (once p q d (sym (occupant-later s guest x [] p other) ∙ e) end ∙ sym walk)
]
walk_puts_out s once guest x (r ∷ rest) q walk simple d other_guest end p e = elim (cases_eq p x) [
  | inl same ↦ other_guest (sym (occupant-first s guest x (r ∷ rest)) ∙ rw same at e)
  | inr other ↦
      walk_puts_out s once (task_on s x) r rest q walk.1 (IsSimple-tail x (r ∷ rest) simple) d
      (λ here. IsSimple-head x (r ∷ rest) simple (length rest) (omega arith) (walk_last s r rest q walk.1 ∙ once q x d end here)) end p
      (sym (occupant-later s guest x (r ∷ rest) p other) ∙ e)
]

pub chain_puts_out : (s : State) → IsOnce s → (t : ℕ) (chain : List ℕ) (q : ℕ) → IsChainOf s t chain q → IsSimple chain → (d : ℕ) → t ≢ d
    → task_on s q ≡ Some d → (p : ℕ) → occupant_after_shift s (Some t) chain p ≢ Some d
chain_puts_out s once t [] q c simple d ne end p = absurd c
chain_puts_out s once t (x ∷ rest) q c simple d ne end p =
    walk_puts_out s once (Some t) x rest q c.1 simple d (λ e. ne (same_Some t d e)) end p

-- u is on a processor outside V: before a shift, and after it
abbrev pub WasOutside : State → (ℕ → Type 0) → ℕ → Type 0
WasOutside s V u = (y : ℕ) × (V y → ⊥) × (task_on s y ≡ Some u)

abbrev pub ComesOutside : State → (ℕ → Type 0) → Option ℕ → List ℕ → ℕ → Type 0
ComesOutside s V guest chain u = (p : ℕ) × (V p → ⊥) × (occupant_after_shift s guest chain p ≡ Some u)

-- the guest, and whoever was on a processor outside V, is on one then, or is handed on after the chain
pub still_somewhere : (s : State) (V : ℕ → Type 0) (guest : Option ℕ) (chain : List ℕ) (u : ℕ) → Avoids V chain
    → (guest ≡ Some u) ⊎ WasOutside s V u → ComesOutside s V guest chain u ⊎ (handed_on s guest chain ≡ Some u)
still_somewhere s V guest [] u avoids (inl it) = inr it
still_somewhere s V guest [] u avoids (inr there) = inl there
still_somewhere s V guest (x ∷ rest) u avoids (inl it) = inl (x, avoids.0, occupant-first s guest x rest ∙ it)
still_somewhere s V guest (x ∷ rest) u avoids (inr there) =
    later (still_somewhere s (λ p. (p ≡ x) ⊎ V p) (task_on s x) rest u avoids.1 (elim (cases_eq there.0 x) [
      | inl same ↦ inl (sym (ap (task_on s) same) ∙ there.2)
      | inr other ↦ inr (there.0, (λ c. elim c [ inl e ↦ other e | inr v ↦ there.1 v ]), there.2)
    ]))
  where
    later : ComesOutside s (λ p. (p ≡ x) ⊎ V p) (task_on s x) rest u ⊎ (handed_on s (task_on s x) rest ≡ Some u)
        → ComesOutside s V guest (x ∷ rest) u ⊎ (handed_on s guest (x ∷ rest) ≡ Some u)
    later (inl found) = inl (found.0, (λ v. found.1 (inr v)), occupant-later s guest x rest found.0 (λ e. found.1 (inl e)) ∙ found.2)
    later (inr out) = inr out
