-- Where the linked tasks keep up with every placeable set of ready tasks, they are the best one and the largest.
use Rattle.std.proofs.Common.{◌≡◌, ◌≢◌, ℕ, zero, suc, ◌<◌, ◌≤◌, Bool, true, false, ◌&&◌, refl, sym, ap, ◌∙◌, inl, inr, arith, nat_le}
use Rattle.std.proofs.Math.Bool.{and-true}
use Rattle.std.proofs.lemmas.Bool.{cases_lt, cases_eq, true≢false, and_from, and_left, and_right, le-leb, lt-leb}
use Rattle.std.proofs.lemmas.Option.{same_Some}
use Rattle.strong_apa.specs.State.{State, IsState, is_ready, is_linked, priority_of, task_count}
use Rattle.strong_apa.specs.Placement.{TaskTest, IsPlacement, IsBetter}
use Rattle.strong_apa.proofs.BestOnce.{best_is_unique}
use Rattle.strong_apa.proofs.Linked.{place_in, task_on-linked}
use Rattle.strong_apa.proofs.Unique.{ready_number}
use Rattle.strong_apa.specs.CertificateLaws.{HoldsWhereCertified, LinkedIsBest, LinkedIsOnlyBest, LinkedIsLargest}
use Rattle.strong_apa.proofs.Counts.{count_below, count_below-agree, count_below-one_more}
use Rattle.strong_apa.proofs.Fullness.{linked_keeps_up}

-- the linked tasks stand where they are linked
pub linked_placement : (s : State) → IsState s → IsPlacement s (is_linked s) (λ t. place_in t s.on)
linked_placement s ok = record {
  allowed = λ t linked. ok.allowed (place_in t s.on) t (task_on-linked s t linked);
  apart = λ t u ht hu e. same_Some t u (sym (task_on-linked s t ht) ∙ (rw e (task_on-linked s u hu)));
}

-- a better set has one task more up to the priority of the task that decides
pub better_has_more : (s : State) → IsState s → (A B : TaskTest) → (better : IsBetter s A B) → better.task < task_count s
    → count_below (λ t. A t && nat_le (priority_of s t) (priority_of s better.task)) (task_count s)
    ≡ suc (count_below (λ t. B t && nat_le (priority_of s t) (priority_of s better.task)) (task_count s))
better_has_more s ok A B better number =
    count_below-one_more _ _ better.task (task_count s) number
    (and_from _ _ better.in_first (le-leb _ _ (omega arith)))
    (and_left _ _ better.not_in_second)
    (λ u lt ne. elim (cases_lt (priority_of s better.task) (priority_of s u)) [
      | inl later ↦ and_right (A u) _ (lt-leb _ _ later) ∙ sym (and_right (B u) _ (lt-leb _ _ later))
      | inr as_urgent ↦ ap (λ (b : Bool). b && nat_le (priority_of s u) (priority_of s better.task)) (same u lt ne as_urgent)
    ])
  where
    same : (u : ℕ) → u < task_count s → u ≢ better.task → priority_of s u ≤ priority_of s better.task → A u ≡ B u
    same u lt ne as_urgent = go (A u) (B u) (better.most_urgent u)
      where
        decides : (priority_of s better.task ≤ priority_of s u) → ⊥
        decides le = ne (ok.distinct u better.task lt number (omega arith))

        go : (a b : Bool) → ((a ≡ b → ⊥) → priority_of s better.task ≤ priority_of s u) → a ≡ b
        go true true first = refl
        go true false first = absurd (decides (first true≢false))
        go false true first = absurd (decides (first (λ e. true≢false (sym e))))
        go false false first = refl

pub linked_is_best : HoldsWhereCertified LinkedIsBest
linked_is_best s ok certificates = record {
  subset = λ t linked. ok.linked_ready (place_in t s.on) t (task_on-linked s t linked);
  placeable = ((λ t. place_in t s.on), linked_placement s ok);
  none_better = λ B subset placeable better.
      let more = better_has_more s ok B (is_linked s) better (ready_number s ok better.task (subset better.task better.in_first)) in
      let keeps_up = linked_keeps_up s ok certificates B subset placeable (priority_of s better.task) in
      omega arith;
}

pub linked_is_only_best : HoldsWhereCertified LinkedIsOnlyBest
linked_is_only_best s ok certificates best is_best =
    best_is_unique s (is_ready s) best (is_linked s) (ready_number s ok) is_best (linked_is_best s ok certificates)

-- some bound is as late as every priority of the tasks below n
pub latest : (s : State) (n : ℕ) → (bound : ℕ) × ((t : ℕ) → t < n → priority_of s t ≤ bound)
latest s zero = (0, (λ t lt. absurd (omega arith)))
latest s (suc n) = go (latest s n)
  where
    go : (bound : ℕ) × ((t : ℕ) → t < n → priority_of s t ≤ bound) → (bound : ℕ) × ((t : ℕ) → t < suc n → priority_of s t ≤ bound)
    go (bound, late) = elim (cases_lt bound (priority_of s n)) [
      | inl later ↦ (
        priority_of s n,
        (λ t lt. elim (cases_eq t n) [
          | inl e ↦ rw e (omega arith)
          | inr ne ↦ let le = late t (omega arith) in omega arith
        ]),
      )
      | inr le ↦ (
        bound,
        (λ t lt. elim (cases_eq t n) [
          | inl e ↦ rw e le
          | inr ne ↦ late t (omega arith)
        ]),
      )
    ]

-- up to that bound a set has all its tasks
pub count_within-latest : (s : State) (A : TaskTest) (bound : ℕ) → ((t : ℕ) → t < task_count s → priority_of s t ≤ bound)
    → count_below (λ t. A t && nat_le (priority_of s t) bound) (task_count s) ≡ count_below A (task_count s)
count_within-latest s A bound late = count_below-agree _ _ (task_count s) (λ t lt. rw (le-leb _ _ (late t lt)) (and-true (A t)))

pub linked_is_largest : HoldsWhereCertified LinkedIsLargest
linked_is_largest s ok certificates B subset placeable =
    let bound = (latest s (task_count s)).0 in
    let late = (latest s (task_count s)).1 in
    let a = count_within-latest s B bound late in
    let b = count_within-latest s (is_linked s) bound late in
    let keeps_up = linked_keeps_up s ok certificates B subset placeable bound in
    omega arith
