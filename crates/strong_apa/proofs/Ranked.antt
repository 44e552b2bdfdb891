-- A set with k tasks has a k-th most urgent one; and where it keeps up with another set, it is as urgent rank by rank.
use Rattle.std.proofs.Common.{◌≡◌, ◌≢◌, ℕ, zero, suc, ◌<◌, ◌≤◌, Bool, true, ◌&&◌, sym, ap, ◌∙◌, inl, inr, ◌⊎◌, arith, nat_le, nat_lt}
use Rattle.std.proofs.lemmas.Bool.{cases_Bool, cases_lt, cases_eq, true≢false, and_from, and_left, and_right, le-leb, lt-leb, lt-ltb}
use Rattle.std.proofs.lemmas.Bool.{le-ltb}
use Rattle.strong_apa.specs.State.{State, IsState, is_linked, priority_of, task_count}
use Rattle.strong_apa.specs.Placement.{TaskTest}
use Rattle.strong_apa.specs.Ranks.{IsRanked}
use Rattle.strong_apa.specs.CertificateLaws.{HoldsWhereCertified, LinkedIsAsUrgent}
use Rattle.strong_apa.proofs.Counts.{count_below, count_below-zero, count_below-same, count_below-agree, count_below-one_more, search_below}
use Rattle.strong_apa.proofs.Fullness.{linked_keeps_up}
use Rattle.strong_apa.proofs.Best.{latest, count_within-latest}

-- how many tasks of a set are more urgent than a bound
abbrev before : State → TaskTest → ℕ → ℕ
before s A bound = count_below (λ t. A t && nat_lt (priority_of s t) bound) (task_count s)

within_before : (s : State) (A : TaskTest) (bound : ℕ) → count_below (λ t. A t && nat_le (priority_of s t) bound) (task_count s)
    ≡ before s A (suc bound)
within_before s A bound =
    count_below-agree _ _ (task_count s) (λ t lt. ap (λ (b : Bool). A t && b) (elim (cases_lt bound (priority_of s t)) [
      | inl later ↦ lt-leb _ _ later ∙ sym (le-ltb _ _ (omega arith))
      | inr le ↦ le-leb _ _ le ∙ sym (lt-ltb _ _ (omega arith))
    ]))

none_before : (s : State) (A : TaskTest) (n : ℕ) → count_below (λ t. A t && nat_lt (priority_of s t) 0) n ≡ 0
none_before s A zero = count_below-zero _
none_before s A (suc n) = count_below-same _ n (and_right (A n) _ (le-ltb _ _ (omega arith))) ∙ none_before s A n

-- the k-th most urgent task of a set, where the set has k tasks that are more urgent than the bound
pub ranked : (s : State) → IsState s → (A : TaskTest) (k : ℕ) → 1 ≤ k → (bound : ℕ) → k ≤ before s A bound
    → (t : ℕ) × IsRanked s A k t × (priority_of s t < bound)
ranked s ok A k some zero enough = absurd (let none = none_before s A (task_count s) in omega arith)
ranked s ok A k some (suc bound) enough = elim (cases_lt (before s A bound) k) [
  | inr earlier ↦ let found = ranked s ok A k some bound earlier in (found.0, found.1, (let lt = found.2 in omega arith))
  | inl last ↦ elim (search_below (λ t. (A t ≡ true) × (priority_of s t ≡ bound)) (task_count s) (λ t lt. decided t)) [
    | inl found ↦ (
      found.0,
      record {
        member = found.2.0;
        rank =
            (let more = one_more found.0 found.1 found.2.0 found.2.1 in let same = within_before s A bound in rw (found.2.1) (omega arith));
      },
      (let e = found.2.1 in omega arith),
    )
    | inr none ↦ absurd (let same = no_more none in omega arith)
  ]
]
  where
    decided : (t : ℕ) → ((A t ≡ true) × (priority_of s t ≡ bound)) ⊎ ((A t ≡ true) × (priority_of s t ≡ bound) → ⊥)
    decided t = elim (cases_Bool (A t)) [
      | inl in_A ↦ elim (cases_eq (priority_of s t) bound) [
        | inl here ↦ inl (in_A, here)
        | inr other ↦ inr (λ h. other h.1)
      ]
      | inr not_in_A ↦ inr (λ h. true≢false (sym h.0 ∙ not_in_A))
    ]

    -- one bound later, another task has the same answer
    same_answer : (u : ℕ) → priority_of s u ≢ bound → nat_lt (priority_of s u) (suc bound) ≡ nat_lt (priority_of s u) bound
    same_answer u ne = elim (cases_lt (priority_of s u) bound) [
      | inl lt ↦ lt-ltb _ _ (omega arith) ∙ sym (lt-ltb _ _ lt)
      | inr ge ↦ le-ltb _ _ (omega arith) ∙ sym (le-ltb _ _ ge)
    ]

    no_more : ((t : ℕ) → t < task_count s → (A t ≡ true) × (priority_of s t ≡ bound) → ⊥) → before s A (suc bound) ≡ before s A bound
    no_more none = count_below-agree _ _ (task_count s) (λ u lt. elim (cases_Bool (A u)) [
      | inl in_A ↦ ap (λ (b : Bool). A u && b) (same_answer u (λ e. none u lt (in_A, e)))
      | inr not_in_A ↦ and_left (A u) _ not_in_A ∙ sym (and_left (A u) _ not_in_A)
    ])

    one_more : (t : ℕ) → t < task_count s → A t ≡ true → priority_of s t ≡ bound → before s A (suc bound) ≡ suc (before s A bound)
    one_more t lt in_A here = count_below-one_more _ _ t (task_count s) lt (and_from _ _ in_A (lt-ltb _ _ (omega arith)))
        (and_right (A t) _ (le-ltb _ _ (omega arith)))
        (λ u below ne. ap (λ (b : Bool). A u && b) (same_answer u (λ e. ne (ok.distinct u t below lt (e ∙ sym here)))))

pub linked_is_as_urgent : HoldsWhereCertified LinkedIsAsUrgent
linked_is_as_urgent s ok certificates B subset placeable k some fits =
    let bound = (latest s (task_count s)).0 in
    let all = count_within-latest s B bound (latest s (task_count s)).1 in
    let e = within_before s B bound in
    let u = ranked s ok B k some (suc bound) (omega arith) in
    let rank = u.1.rank in
    let keeps_up = linked_keeps_up s ok certificates B subset placeable (priority_of s u.0) in
    let f = within_before s (is_linked s) (priority_of s u.0) in
    let t = ranked s ok (is_linked s) k some (suc (priority_of s u.0)) (omega arith) in
    (t.0, u.0, t.1, u.1, (let lt = t.2 in omega arith))
