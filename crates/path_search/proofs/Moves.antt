-- Steps, and the sets of processors before and after them.
use Rattle.std.proofs.Common.{◌≡◌, ℕ, ◌<◌, ◌||◌, ◌&&◌, not, Option, Some, None, nat_eq, sym, ◌∙◌, subst, inl, inr, ◌⊎◌, ◌↔◌, IsTrue, ne_eqb}
use Rattle.std.proofs.lemmas.Bool.{cases_eq, or_cases, or_left, or_right, and_parts, and_from, not_from_false}
use Rattle.affinity_mask.specs.ProcSet.{has, empty, Within}
use Rattle.affinity_mask.proofs.Meetings.{no_member}
use Rattle.strong_apa.specs.State.{State, IsState, task_on}
use Rattle.strong_apa.specs.Chain.{CanShift}
use Rattle.strong_apa.proofs.Linked.{occupied_number}
use Rattle.strong_apa.proofs.Masks.{effective_mask_below, effective_mask_online}
use Rattle.path_search.specs.declared.direction.Direction.{Direction}
use Rattle.path_search.specs.declared.direction.Direction.TheVariants.{Onward, Back}
use Rattle.path_search.specs.Paths.{Steps}

-- a step leads to one of the processors
pub Steps-below : (s : State) → IsState s → (direction : Direction) (p q : ℕ) → Steps s direction p q → q < s.processors
Steps-below s ok Onward p q step = effective_mask_below s ok step.0 q step.2
Steps-below s ok Back p q step = occupied_number s q step.0 ok step.1

-- and that one is on line
pub Steps-online : (s : State) → IsState s → (direction : Direction) (p q : ℕ) → Steps s direction p q → IsTrue (has s.online q)
Steps-online s ok Onward p q step = effective_mask_online s step.0 q step.2
Steps-online s ok Back p q step = effective_mask_online s step.0 q (ok.allowed q step.0 step.1)

-- nobody can be shifted from an idle processor
pub CanShift-idle : (s : State) (p q : ℕ) → task_on s p ≡ None → CanShift s p q → ⊥
CanShift-idle s p q nobody shift = let e : ◌≡◌ {A = Option ℕ} None (Some shift.0) = sym nobody ∙ shift.1 in cc

-- ---- the processors to which steps lead from a set, found so far: all but those from the rest of the set
pub record IsUnionSoFar (Step : ℕ → ℕ → Type 0) (set found rest : ℕ) : Type 0 where
  pub within : Within rest set
  pub sound : (q : ℕ) → IsTrue (has found q) → (p : ℕ) × IsTrue (has set p) × Step p q
  pub complete : (p q : ℕ) → IsTrue (has set p) → Step p q → IsTrue (has rest p) ⊎ IsTrue (has found q)

pub IsUnionSoFar-start : (Step : ℕ → ℕ → Type 0) (set found : ℕ) → found ≡ empty → IsUnionSoFar Step set found set
IsUnionSoFar-start Step set found none = record {
  within = λ p h. h;
  sound = λ q h. absurd (no_member found q none h);
  complete = λ p q h step. inl h;
}

module _ (Step : ℕ → ℕ → Type 0) (set found rest : ℕ) (so_far : IsUnionSoFar Step set found rest) where
  -- one processor of the rest is done
  pub IsUnionSoFar-more : (p after found' rest' : ℕ) → IsTrue (has rest p) → ((q : ℕ) → IsTrue (has after q) ↔ Step p q)
      → ((q : ℕ) → has found' q ≡ (has found q || has after q)) → ((q : ℕ) → has rest' q ≡ (has rest q && not (nat_eq q p)))
      → IsUnionSoFar Step set found' rest'
  IsUnionSoFar-more p after found' rest' here is_after grown fewer = record {
    within = λ q h. so_far.within q (and_parts (has rest q) (not (nat_eq q p)) (sym (fewer q) ∙ h)).0;
    sound = λ q h. elim (or_cases (has found q) (has after q) (sym (grown q) ∙ h)) [
      | inl before ↦ so_far.sound q before
      | inr new ↦ (p, so_far.within p here, (is_after q).0 new)
    ];
    complete = λ r q h step. elim (so_far.complete r q h step) [
      | inl left ↦ (elim (cases_eq r p) [
        | inl e ↦ inr (grown q ∙ or_right (has found q) (has after q) ((is_after q).1 (subst (λ (x : ℕ). Step x q) e step)))
        | inr ne ↦ inl (fewer r ∙ and_from (has rest r) (not (nat_eq r p)) left (not_from_false (nat_eq r p) (ne_eqb r p ne)))
      ])
      | inr before ↦ inr (grown q ∙ or_left (has found q) (has after q) before)
    ];
  }

  -- none is left
  pub IsUnionSoFar-end : rest ≡ empty → (q : ℕ) → IsTrue (has found q) ↔ ((p : ℕ) × IsTrue (has set p) × Step p q)
  IsUnionSoFar-end none q = (
    so_far.sound q,
    λ step. elim (so_far.complete step.0 q step.1 step.2) [
      | inl left ↦ absurd (no_member rest step.0 none left)
      | inr here ↦ here
    ],
  )
