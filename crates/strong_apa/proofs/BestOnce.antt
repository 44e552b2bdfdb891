-- A set of tasks has at most one best subset: where two differ, the most urgent task in just one of them decides.
use Rattle.std.proofs.Common.{◌≡◌, ◌≢◌, ℕ, zero, suc, ◌<◌, ◌≤◌, Bool, true, false, refl, sym, ◌∙◌, inl, inr, ◌⊎◌, arith}
use Rattle.std.proofs.lemmas.Bool.{cases_Bool, cases_eq, cases_lt, true≢false, false≢true}
use Rattle.strong_apa.specs.State.{State, task_count, priority_of}
use Rattle.strong_apa.specs.Placement.{TaskTest, IsBetter, IsSubset}
use Rattle.strong_apa.specs.Laws.{BestIsUnique}

-- two answers of a test are the same or differ
same_answer : (a b : Bool) → (a ≡ b) ⊎ (a ≡ b → ⊥)
same_answer true true = inl refl
same_answer true false = inr true≢false
same_answer false true = inr false≢true
same_answer false false = inl refl

module _ (s : State) (A B : TaskTest) where
  -- the most urgent of the tasks below n on which the sets differ, or they agree there
  first_difference : (n : ℕ) → ((d : ℕ) × (A d ≢ B d) × ((u : ℕ) → u < n → A u ≢ B u → priority_of s d ≤ priority_of s u))
      ⊎ ((u : ℕ) → u < n → A u ≡ B u)
  first_difference zero = inr (λ u lt. absurd (omega arith))
  first_difference (suc n) = go (first_difference n) (same_answer (A n) (B n))
    where
      go : ((d : ℕ) × (A d ≢ B d) × ((u : ℕ) → u < n → A u ≢ B u → priority_of s d ≤ priority_of s u)) ⊎ ((u : ℕ) → u < n → A u ≡ B u)
          → (A n ≡ B n) ⊎ (A n ≡ B n → ⊥)
          → ((d : ℕ) × (A d ≢ B d) × ((u : ℕ) → u < suc n → A u ≢ B u → priority_of s d ≤ priority_of s u))
          ⊎ ((u : ℕ) → u < suc n → A u ≡ B u)
      go (inl found) (inl same) = inl (
        found.0,
        found.1,
        (λ u lt differ. elim (cases_eq u n) [
          | inl here ↦ absurd (differ (rw here same))
          | inr other ↦ found.2 u (omega arith) differ
        ]),
      )
      go (inl found) (inr differ) = elim (cases_lt (priority_of s n) (priority_of s found.0)) [
        | inl more_urgent ↦ inl (
          n,
          differ,
          (λ u lt differ'. elim (cases_eq u n) [
            | inl here ↦ rw here (omega arith)
            | inr other ↦ (let le = found.2 u (omega arith) differ' in omega arith)
          ]),
        )
        | inr as_urgent ↦ inl (
          found.0,
          found.1,
          (λ u lt differ'. elim (cases_eq u n) [
            | inl here ↦ rw here as_urgent
            | inr other ↦ found.2 u (omega arith) differ'
          ]),
        )
      ]
      go (inr agree) (inl same) = inr (λ u lt. elim (cases_eq u n) [
        | inl here ↦ rw here same
        | inr other ↦ agree u (omega arith)
      ])
      go (inr agree) (inr differ) = inl (
        n,
        differ,
        (λ u lt differ'. elim (cases_eq u n) [
          | inl here ↦ rw here (omega arith)
          | inr other ↦ absurd (differ' (agree u (omega arith)))
        ]),
      )

pub best_is_unique : BestIsUnique
best_is_unique s R A B bounded best_A best_B t =
    elim (first_difference s A B (task_count s)) [
      | inl found ↦ absurd (elim (cases_Bool (A found.0)) [
        | inl in_A ↦ best_B.none_better A best_A.subset best_A.placeable
            (better A B best_A.subset best_B.subset found.0 in_A (not_in found.0 found.1 in_A) found.2)
        | inr not_in_A ↦ best_A.none_better B best_B.subset best_B.placeable
            (better B A best_B.subset best_A.subset found.0 (in_other found.0 found.1 not_in_A) not_in_A
            (λ u lt differ. found.2 u lt (λ e. differ (sym e))))
      ])
      | inr agree ↦ elim (cases_lt t (task_count s)) [
        | inl number ↦ agree t number
        | inr ge ↦ outside A best_A.subset t ge ∙ sym (outside B best_B.subset t ge)
      ]
    ]
  where
    -- a number that is none of the set's tasks is in no subset
    outside : (C : TaskTest) → IsSubset C R → (u : ℕ) → task_count s ≤ u → C u ≡ false
    outside C subset u ge = elim (cases_Bool (C u)) [
      | inl in_C ↦ (let lt = bounded u (subset u in_C) in absurd (omega arith))
      | inr not_in_C ↦ not_in_C
    ]

    not_in : (d : ℕ) → A d ≢ B d → A d ≡ true → B d ≡ false
    not_in d differ in_A = elim (cases_Bool (B d)) [
      | inl in_B ↦ absurd (differ (in_A ∙ sym in_B))
      | inr not_in_B ↦ not_in_B
    ]

    in_other : (d : ℕ) → A d ≢ B d → A d ≡ false → B d ≡ true
    in_other d differ not_in_A = elim (cases_Bool (B d)) [
      | inl in_B ↦ in_B
      | inr not_in_B ↦ absurd (differ (not_in_A ∙ sym not_in_B))
    ]

    better : (C D : TaskTest) → IsSubset C R → IsSubset D R → (d : ℕ) → C d ≡ true → D d ≡ false
        → ((u : ℕ) → u < task_count s → C u ≢ D u → priority_of s d ≤ priority_of s u) → IsBetter s C D
    better C D sub_C sub_D d in_C not_in_D first = record {
      task = d;
      in_first = in_C;
      not_in_second = not_in_D;
      most_urgent = λ u differ. elim (cases_lt u (task_count s)) [
        | inl number ↦ first u number differ
        | inr ge ↦ absurd (differ (outside C sub_C u ge ∙ sym (outside D sub_D u ge)))
      ];
    }
