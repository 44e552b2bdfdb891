-- What a waiting task finds on the processors of its effective mask.
use Rattle.std.proofs.Common.{◌≡◌, ℕ, ◌<◌, ◌≤◌, ◌&&◌, Option, Some, None, ◌↔◌, refl, sym, ap, ◌∙◌, inl, inr, IsTrue, arith, nat_eq}
use Rattle.std.proofs.Common.{eqb-true, eq-eqb}
use Rattle.std.proofs.lemmas.Bool.{cases_lt, and_from}
use Rattle.affinity_mask.specs.ProcSet.{has, empty}
use Rattle.affinity_mask.proofs.Meetings.{no_member}
use Rattle.strong_apa.specs.State.{State, IsState, IsWaiting, IsIdle, task_on, task_count, priority_of, effective_mask}
use Rattle.strong_apa.specs.Step.{IsOccupied, IsNobodyOn, IsLeastUrgentOn, IsMostUrgentInto}
use Rattle.strong_apa.proofs.Linked.{linked_number, not_on}
use Rattle.strong_apa.proofs.Masks.{effective_mask_online}
use Rattle.weak_apa.specs.Stable.{IsKeptOut}
use Rattle.weak_apa.specs.Step.{IsMostUrgentAt}

module _ (s : State) (x : ℕ) where
  -- where no processor of the effective mask is idle, each is occupied
  pub own_occupied : (own idle both : ℕ) → own ≡ effective_mask s x → ((p : ℕ) → IsTrue (has idle p) ↔ IsIdle s p)
      → ((p : ℕ) → has both p ≡ (has own p && has idle p)) → both ≡ empty → IsOccupied s (effective_mask s x)
  own_occupied own idle both same idles meets none p inside = go (task_on s p) refl
    where
      go : (occupant : Option ℕ) → task_on s p ≡ occupant → (u : ℕ) × (task_on s p ≡ Some u)
      go (Some u) on = (u, on)
      go None nobody = absurd (no_member both p none
          (meets p ∙ and_from (has own p) (has idle p) (rw same inside) ((idles p).1 (effective_mask_online s x p inside, nobody))))

  pub kept_out_by_none : IsOccupied s (effective_mask s x) → IsNobodyOn s (effective_mask s x) → IsKeptOut s x
  kept_out_by_none occupied nobody p inside = let u = occupied p inside in absurd (nobody p u.0 inside u.1)

  -- where the least urgent task there is not less urgent than x, all are more urgent
  pub kept_out_by_least : IsState s → IsWaiting s x → x < task_count s → IsOccupied s (effective_mask s x) → (out : ℕ)
      → IsLeastUrgentOn s (effective_mask s x) out → priority_of s out ≤ priority_of s x → IsKeptOut s x
  kept_out_by_least ok waits number occupied out least not_less p inside =
      let u = occupied p inside in
      let below = least.least_urgent p u.0 inside u.1 in (
        u.0,
        u.1,
        elim (cases_lt (priority_of s u.0) (priority_of s x)) [
          | inl lt ↦ lt
          | inr ge ↦ absurd (not_on s p x waits.not_linked
              (u.1 ∙ ap (λ (n : ℕ). Some n) (ok.distinct u.0 x (linked_number s p u.0 ok u.1) number (omega arith))))
        ],
      )

-- the most urgent task that can enter at the only processor of a set
pub most_urgent_at : (s : State) (p w one : ℕ) → ((q : ℕ) → has one q ≡ nat_eq q p) → IsMostUrgentInto s one w → IsMostUrgentAt s p w
most_urgent_at s p w one only most = record {
  waits = most.waits;
  enters = (let same : most.there.0 ≡ p = eqb-true most.there.0 p (sym (only most.there.0) ∙ most.there.1) in rw same at most.there.2);
  most_urgent = λ v waits enters. most.most_urgent v p waits (only p ∙ eq-eqb p p refl) enters;
}
