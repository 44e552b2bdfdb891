-- A set of processors whose occupants may run only within it is full: in every placement of them each of its processors has one.
use Rattle.std.proofs.Common.{◌≡◌, ℕ, ◌<◌, true, false, not, ◌&&◌, List, [], ◌∷◌, nat_eq, Option, Some, None, refl, sym, ap, ◌∙◌, subst}
use Rattle.std.proofs.Common.{inl, inr, ◌⊎◌, IsTrue, arith, eq-eqb, ne_eqb}
use Rattle.std.proofs.Math.Bool.{and-true}
use Rattle.std.proofs.lemmas.Bool.{cases_Bool, cases_eq, true≢false, and_from}
use Rattle.std.proofs.lemmas.Option.{same_Some}
use Rattle.affinity_mask.specs.ProcSet.{has, Within}
use Rattle.strong_apa.specs.State.{State, IsState, IsWaiting, task_on, is_linked, is_ready, effective_mask, task_count}
use Rattle.strong_apa.specs.Chain.{IsWalk, IsChainOf, IsReach, EndsIdle}
use Rattle.strong_apa.specs.Placement.{TaskTest, IsPlacement}
use Rattle.strong_apa.proofs.Counts.{count_below-injection, count_below-one_more, search_below}
use Rattle.strong_apa.proofs.Linked.{place_in, task_on-linked, is_linked-from_on, occupied_number, linked_number}
use Rattle.strong_apa.proofs.Closed.{IsReach-first, IsReach-closed}
use Rattle.strong_apa.proofs.Masks.{effective_mask_online}
use Rattle.live_core.specs.Seen.{IsTable, IsLost}

-- ---- a map of a set into itself that sends no two to one meets each
meets_decided : (X q x y : ℕ) → (IsTrue (has X x) × (y ≡ q)) ⊎ (IsTrue (has X x) × (y ≡ q) → ⊥)
meets_decided X q x y = elim (cases_Bool (has X x)) [
  | inl inside ↦ elim (cases_eq y q) [
    | inl e ↦ inl (inside, e)
    | inr ne ↦ inr (λ h. ne h.1)
  ]
  | inr outside ↦ inr (λ h. true≢false (sym h.0 ∙ outside))
]

onto : (X m : ℕ) → ((p : ℕ) → IsTrue (has X p) → p < m) → (f : ℕ → ℕ) → ((p : ℕ) → IsTrue (has X p) → IsTrue (has X (f p)))
    → ((p r : ℕ) → IsTrue (has X p) → IsTrue (has X r) → f p ≡ f r → p ≡ r) → (q : ℕ) → IsTrue (has X q)
    → (p : ℕ) × IsTrue (has X p) × (f p ≡ q)
onto X m below f inside apart q there = elim (search_below (λ p. IsTrue (has X p) × (f p ≡ q)) m (λ p lt. meets_decided X q p (f p))) [
  | inl found ↦ (found.0, found.2.0, found.2.1)
  | inr nowhere ↦ absurd (
      let fewer = count_below-injection (λ p. has X p) m (λ p. has X p && not (nat_eq p q)) m f record {
        below = λ p lt h. below (f p) (inside p h);
        passes = λ p lt h. and_from _ _ (inside p h) (rw (ne_eqb (f p) q (λ e. nowhere p lt (h, e))) refl);
        apart = λ p r lt lr h k e. apart p r h k e;
      } in
      let more = count_below-one_more (λ p. has X p) (λ p. has X p && not (nat_eq p q)) q m (below q there) there
      (rw (there, eq-eqb q q refl) refl) (λ y lt ne. rw (ne_eqb y q ne) (sym (and-true (has X y)))) in
      omega arith)
]

-- ---- a full set
abbrev who : Option ℕ → ℕ
who None = 0
who (Some u) = u

module _ (a : State) (ok : IsState a) (B : TaskTest) (place : ℕ → ℕ) (placed : IsPlacement a B place) (X : ℕ)
    (occupied : (p : ℕ) → IsTrue (has X p) → (u : ℕ) × (task_on a p ≡ Some u) × (B u ≡ true) × Within (effective_mask a u) X) where
  who_is : (p : ℕ) (inside : IsTrue (has X p)) → who (task_on a p) ≡ (occupied p inside).0
  who_is p inside = ap who (occupied p inside).1

  pub filled : (q : ℕ) → IsTrue (has X q) → (p : ℕ) × (u : ℕ) × IsTrue (has X p) × (task_on a p ≡ Some u) × (B u ≡ true) × (place u ≡ q)
  filled q there =
      let found = onto X a.processors
      (λ p h. occupied_number a p (occupied p h).0 ok (occupied p h).1)
      (λ p. place (who (task_on a p)))
      (λ p h. rw (who_is p h) ((occupied p h).3 (place (occupied p h).0) (placed.allowed (occupied p h).0 (occupied p h).2)))
      (λ p r h k e.
      let same : (occupied p h).0 ≡ (occupied r k).0 =
      placed.apart (occupied p h).0 (occupied r k).0 (occupied p h).2 (occupied r k).2
      (ap place (sym (who_is p h)) ∙ e ∙ ap place (who_is r k)) in
      ok.once p r (occupied p h).0 (occupied p h).1 ((occupied r k).1 ∙ ap (λ (n : ℕ). Some n) (sym same)))
      q there in (
        found.0,
        (occupied found.0 found.1).0,
        found.1,
        (occupied found.0 found.1).1,
        (occupied found.0 found.1).2,
        ap place (sym (who_is found.0 found.1)) ∙ found.2,
      )

-- ---- chains end on line
walk_online : (a : State) (p : ℕ) (rest : List ℕ) (q : ℕ) → IsTrue (has a.online p) → IsWalk a p rest q → IsTrue (has a.online q)
walk_online a p [] q h walk = subst (λ (r : ℕ). IsTrue (has a.online r)) walk h
walk_online a p (r ∷ rest) q h walk = walk_online a r rest q (effective_mask_online a walk.0.0 r walk.0.2) walk.1

pub chain_online : (a : State) (t : ℕ) (chain : List ℕ) (q : ℕ) → IsChainOf a t chain q → IsTrue (has a.online q)
chain_online a t [] q c = absurd c
chain_online a t (p ∷ rest) q c = walk_online a p rest q (effective_mask_online a t p c.0) c.1

-- ---- a task of a placeable set that is not placed has a chain to an idle processor
module _ (a : State) (ok : IsState a) (B : TaskTest) (place : ℕ → ℕ) (placed : IsPlacement a B place) (within : (p u : ℕ)
    → task_on a p ≡ Some u → B u ≡ true)
    (t : ℕ) (in_B : B t ≡ true) (nowhere : is_linked a t ≡ false) where
  occupied_where_reached : (R : ℕ) → IsReach a t R → ((chain : List ℕ) → EndsIdle a t chain → ⊥) → (p : ℕ) → IsTrue (has R p)
      → (u : ℕ) × (task_on a p ≡ Some u) × (B u ≡ true) × Within (effective_mask a u) R
  occupied_where_reached R reached none p inside = go (task_on a p) refl
    where
      go : (o : Option ℕ) → task_on a p ≡ o → (u : ℕ) × (task_on a p ≡ Some u) × (B u ≡ true) × Within (effective_mask a u) R
      go None e = let chain = (reached p).0 inside in absurd (none chain.0 (p, chain.1, (chain_online a t chain.0 p chain.1, e)))
      go (Some u) e = (u, e, within p u e, IsReach-closed a t R reached p u inside e)

  pub some_chain : (R : ℕ) → IsReach a t R → ((chain : List ℕ) → EndsIdle a t chain → ⊥) → ⊥
  some_chain R reached none =
      let found = filled a ok B place placed R (occupied_where_reached R reached none) (place t)
      (IsReach-first a t R reached (place t) (placed.allowed t in_B)) in
      let same : found.1 ≡ t = placed.apart found.1 t found.4 in_B found.5 in
      true≢false (sym (is_linked-from_on a found.0 t (found.3 ∙ ap (λ (n : ℕ). Some n) same)) ∙ nowhere)

-- ---- the linked tasks stand in the table's masks where they are linked
pub same_mask : (s table : State) → table ≡ record s { on = table.on } → (t q : ℕ)
    → has (effective_mask table t) q ≡ has (effective_mask s t) q
same_mask s table same t q = ap (λ (x : State). has (effective_mask x t) q) same

linked_place : (s table : State) → IsState s → table ≡ record s { on = table.on } → IsPlacement table (is_linked s) (λ t. place_in t s.on)
linked_place s table ok same = record {
  allowed = λ t linked. same_mask s table same t (place_in t s.on) ∙ ok.allowed (place_in t s.on) t (task_on-linked s t linked);
  apart = λ t u ht hu e. same_Some t u (sym (task_on-linked s t ht) ∙ (rw e (task_on-linked s u hu)));
}

-- a lost task has a chain
pub lost_has_some : (s table : State) (seen : List (Option ℕ)) (t : ℕ) → IsState s → IsTable s seen table → IsLost s table t → (R : ℕ)
    → IsReach table t R → ((chain : List ℕ) → EndsIdle table t chain → ⊥) → ⊥
lost_has_some s table seen t ok is_table lost R reached none =
    some_chain table is_table.state (is_linked s) (λ u. place_in u s.on) (linked_place s table ok is_table.same)
    (λ p u on. (is_table.holds p u on).linked) t lost.linked lost.nowhere R reached none

-- it is a task of the table, and waits there
pub lost_number : (s table : State) (seen : List (Option ℕ)) (t : ℕ) → IsState s → IsTable s seen table → IsLost s table t
    → t < task_count table
lost_number s table seen t ok is_table lost =
    rw (ap task_count is_table.same) (linked_number s (place_in t s.on) t ok (task_on-linked s t lost.linked))

pub lost_waits : (s table : State) (seen : List (Option ℕ)) (t : ℕ) → IsState s → IsTable s seen table → IsLost s table t
    → IsWaiting table t
lost_waits s table seen t ok is_table lost = record {
  ready = ap (λ (x : State). is_ready x t) is_table.same ∙ ok.linked_ready (place_in t s.on) t (task_on-linked s t lost.linked);
  not_linked = lost.nowhere;
}
