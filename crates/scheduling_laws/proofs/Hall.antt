-- Where a task is left out of the best subset of a set, its certificate is crowded: each of its processors has a task that is confined to
-- it, and so is the one that is left out.
use Rattle.std.proofs.Common.{◌≡◌, ◌≢◌, ℕ, ◌<◌, ◌≤◌, true, false, not, ◌&&◌, ◌⊎◌, length, nat_eq, Some, refl, sym, ap, ◌∙◌, subst, inl, inr}
use Rattle.std.proofs.Common.{IsTrue, arith, eq-eqb, eqb-true, ne_eqb}
use Rattle.std.proofs.Math.Bool.{and-true}
use Rattle.std.proofs.lemmas.Bool.{cases_Bool, true≢false, and_from, and_left, and_right, and_parts}
use Rattle.affinity_mask.specs.ProcSet.{has, intersection, members, Within}
use Rattle.affinity_mask.proofs.Sets.{has-intersection, same_set}
use Rattle.strong_apa.specs.State.{State, IsState, IsWaiting, task_count, task_on, priority_of, effective_mask}
use Rattle.strong_apa.specs.Certificate.{IsCertificate}
use Rattle.strong_apa.specs.Placement.{TaskTest, IsPlaceable, IsBest}
use Rattle.strong_apa.proofs.Counts.{count_below, count_below-one_more, count_below-injection, search_below}
use Rattle.strong_apa.proofs.Masks.{effective_mask_below}
use Rattle.reach_certificate.proofs.BestFound.{best_exists}
use Rattle.scheduling_laws.specs.Hall.{is_confined, confined_count, IsCrowded, PlaceableIsUncrowded, PlaceableOrCrowded}
use Rattle.scheduling_laws.proofs.PlacedState.{who, placed_state, ready_is, on_is, linked_is, placed_certificates}

confined_within : (s : State) (X t : ℕ) → is_confined s X t ≡ true → Within (effective_mask s t) X
confined_within s X t h p inside =
    let same = eqb-true (intersection (effective_mask s t) X) (effective_mask s t) h in
    (and_parts (has (effective_mask s t) p) (has X p) (sym (has-intersection (effective_mask s t) X p) ∙ ap (λ (Y : ℕ). has Y p) same
    ∙ inside)).1

within_confined : (s : State) (X t : ℕ) → Within (effective_mask s t) X → is_confined s X t ≡ true
within_confined s X t within = eq-eqb (intersection (effective_mask s t) X) (effective_mask s t)
    (same_set (intersection (effective_mask s t) X) (effective_mask s t) (λ q. elim (cases_Bool (has (effective_mask s t) q)) [
      | inl inside ↦ has-intersection (effective_mask s t) X q ∙ and_from _ _ inside (within q inside) ∙ sym inside
      | inr outside ↦ has-intersection (effective_mask s t) X q ∙ and_left (has (effective_mask s t) q) (has X q) outside ∙ sym outside
    ]))

-- ---- who is placed on a set of processors is not more than it has
module _ (s : State) (ok : IsState s) (tasks : TaskTest) where
  uncrowded : IsPlaceable s tasks → (X : ℕ) → confined_count s tasks X ≤ length (members X)
  uncrowded placeable X = count_below-injection (λ t. tasks t && is_confined s X t) (task_count s) (has X) 64 placeable.0 record {
    below = λ t lt h. let few = ok.processors in let below = effective_mask_below s ok t (placeable.0 t)
        (placeable.1.allowed t (and_parts (tasks t) _ h).0) in omega arith;
    passes = λ t lt h. confined_within s X t (and_parts (tasks t) _ h).1 (placeable.0 t)
        (placeable.1.allowed t (and_parts (tasks t) _ h).0);
    apart = λ t u lt lu h k e. placeable.1.apart t u (and_parts (tasks t) _ h).0 (and_parts (tasks u) _ k).0 e;
  }

-- ---- a task that is left out of the best subset
module _ (s : State) (ok : IsState s) (R : TaskTest) (number : (t : ℕ) → R t ≡ true → t < task_count s) (best : TaskTest)
    (is_best : IsBest s R best) where
  abbrev placed : State
  placed = placed_state s ok R number best is_best

  module _ (t : ℕ) (member : R t ≡ true) (out : best t ≡ false) where
    waits : IsWaiting placed t
    waits = record { ready = ready_is s ok R number best is_best t ∙ member; not_linked = linked_is s ok R number best is_best t ∙ out }

    abbrev X : ℕ
    X = (placed_certificates s ok R number best is_best t waits).0

    certificate : IsCertificate placed t X
    certificate = (placed_certificates s ok R number best is_best t waits).1

    abbrev confined : TaskTest
    confined u = R u && is_confined s X u

    abbrev others : TaskTest
    others u = confined u && not (nat_eq u t)

    record Holds (p u : ℕ) : Type 0 where
      on : task_on placed p ≡ Some u
      place : is_best.placeable.0 u ≡ p
      passes : others u ≡ true
      below : u < task_count s

    holder : (p : ℕ) → IsTrue (has X p) → (u : ℕ) × Holds p u
    holder p inside =
        let held = certificate.occupied p inside in
        let is = on_is s ok R number best is_best p held.0 held.1 in
        let in_R = is_best.subset held.0 is.0 in
        let urgent = held.2 in
        let differs : held.0 ≢ t = λ e. (let same = ap (priority_of s) e in omega arith) in (
          held.0,
          record {
            on = held.1;
            place = is.1;
            passes = and_from _ _ (and_from _ _ in_R (within_confined s X held.0 held.3)) (ap not (ne_eqb held.0 t differs));
            below = number held.0 in_R;
          },
        )

    as_many : length (members X) ≤ count_below others (task_count s)
    as_many = count_below-injection (has X) 64 others (task_count s) (λ p. who (task_on placed p)) record {
      below = λ p lt h. let u = holder p h in subst (λ (z : ℕ). z < task_count s) (sym (ap who u.1.on)) u.1.below;
      passes = λ p lt h. let u = holder p h in subst (λ (z : ℕ). others z ≡ true) (sym (ap who u.1.on)) u.1.passes;
      apart = λ p q lp lq hp hq e.
          let u = holder p hp in
          let v = holder q hq in
          let same : u.0 ≡ v.0 = sym (ap who u.1.on) ∙ e ∙ ap who v.1.on in
          sym u.1.place ∙ ap is_best.placeable.0 same ∙ v.1.place;
    }

    crowded : IsCrowded s R X
    crowded =
        let itself : confined t ≡ true = and_from _ _ member (within_confined s X t certificate.within) in
        let more = count_below-one_more confined others t (task_count s) (number t member) itself
        (and_right (confined t) _ (ap not (eq-eqb t t refl))) (λ u lt ne. rw (ne_eqb u t ne) (sym (and-true (confined u)))) in
        let many = as_many in
        omega arith

pub placeable_or_crowded : PlaceableOrCrowded
placeable_or_crowded s tasks ok number =
    let found = best_exists s tasks ok number in
    elim (search_below (λ t. (tasks t ≡ true) × (found.0 t ≡ false)) (task_count s) (λ t lt. decided found.0 t)) [
      | inl left_out ↦ inr (
        X s ok tasks number found.0 found.1 left_out.0 left_out.2.0 left_out.2.1,
        crowded s ok tasks number found.0 found.1 left_out.0 left_out.2.0 left_out.2.1,
      )
      | inr none ↦ (
          let chosen : (t : ℕ) → tasks t ≡ true → found.0 t ≡ true = λ t h. elim (cases_Bool (found.0 t)) [
            | inl in_best ↦ in_best
            | inr out ↦ absurd (none t (number t h) (h, out))
          ] in
          inl (
            found.1.placeable.0,
            record {
              allowed = λ t h. found.1.placeable.1.allowed t (chosen t h);
              apart = λ t u h k e. found.1.placeable.1.apart t u (chosen t h) (chosen u k) e;
            },
          ))
    ]
  where
    decided : (best : TaskTest) (t : ℕ) → ((tasks t ≡ true) × (best t ≡ false)) ⊎ ((tasks t ≡ true) × (best t ≡ false) → ⊥)
    decided best t = elim (cases_Bool (tasks t)) [
      | inr absent ↦ inr (λ h. true≢false (sym h.0 ∙ absent))
      | inl member ↦ elim (cases_Bool (best t)) [
        | inl chosen ↦ inr (λ h. true≢false (sym chosen ∙ h.1))
        | inr out ↦ inl (member, out)
      ]
    ]

pub placeable_is_uncrowded : PlaceableIsUncrowded
placeable_is_uncrowded s tasks ok number = (
  uncrowded s ok tasks,
  λ none. elim (placeable_or_crowded s tasks ok number) [
    | inl placeable ↦ placeable
    | inr found ↦ absurd (let le = none found.0 in let more = found.1 in omega arith)
  ],
)
