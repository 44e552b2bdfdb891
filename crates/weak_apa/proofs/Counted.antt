-- There are as many linked tasks as occupied processors, and what holds of the tasks that are linked in one state alone.
use Rattle.std.proofs.Common.{◌≡◌, ℕ, ◌<◌, ◌≤◌, true, false, Option, Some, None, refl, sym, ap, ◌∙◌, inl, inr, ◌⊎◌, arith, le_antisymm}
use Rattle.std.proofs.Common.{length}
use Rattle.std.specs.Prelude.{is_some, unwrap_or, MatchOption, IfSome}
use Rattle.std.specs.Option.{ForSome}
use Rattle.std.proofs.lemmas.Bool.{cases_Bool, true≢false}
use Rattle.std.proofs.lemmas.Option.{same_Some}
use Rattle.affinity_mask.specs.ProcSet.{has, members}
use Rattle.strong_apa.specs.State.{State, IsState, task_on, task_count, is_linked, priority_of}
use Rattle.strong_apa.proofs.Linked.{place_in, task_on-linked, is_linked-from_on, linked_number, occupied_number}
use Rattle.link_table.proofs.Leaders.{IsFound}
use Rattle.strong_apa.proofs.Counts.{count_below-injection}
use Rattle.weak_apa.specs.Apart.{IsOnlyOn, IsFirstOnlyIn, IsNobodyOnlyIn}
use Rattle.weak_apa.specs.Compared.{linked_count, IsFirstApart, IsInJustOne}

module _ (s : State) (ok : IsState s) (occupied : ℕ) (is_occupied : (p : ℕ) → has occupied p ≡ is_some (task_on s p)) where
  -- the task of a processor, and no matter what of one without
  pub task_of : ℕ → ℕ
  task_of p = unwrap_or (task_on s p) 0

  pub on_task_of : (p : ℕ) → has occupied p ≡ true → task_on s p ≡ Some (task_of p)
  unfolding task_of
  on_task_of p inside = go (task_on s p) (sym (is_occupied p) ∙ inside)
    where
      go : (o : Option ℕ) → is_some o ≡ true → o ≡ Some (unwrap_or o 0)
      go None none = absurd (true≢false (sym none))
      go (Some t) some = refl

  no_more_tasks : linked_count s ≤ length (members occupied)
  no_more_tasks = count_below-injection (is_linked s) (task_count s) (has occupied) 64 (λ t. place_in t s.on) record {
    below = λ t lt linked. let place = occupied_number s (place_in t s.on) t ok (task_on-linked s t linked) in let few = ok.processors in
        omega arith;
    passes = λ t lt linked. is_occupied (place_in t s.on) ∙ ap (λ (o : Option ℕ). is_some o) (task_on-linked s t linked);
    apart = λ t u lt lu ht hu e. same_Some t u (sym (task_on-linked s t ht) ∙ ap (task_on s) e ∙ task_on-linked s u hu);
  }

  no_more_processors : length (members occupied) ≤ linked_count s
  no_more_processors = count_below-injection (has occupied) 64 (is_linked s) (task_count s) task_of record {
    below = λ p lt inside. linked_number s p (task_of p) ok (on_task_of p inside);
    passes = λ p lt inside. is_linked-from_on s p (task_of p) (on_task_of p inside);
    apart = λ p q lp lq hp hq e. ok.once p q (task_of p) (on_task_of p hp) (on_task_of q hq ∙ ap (λ (n : ℕ). Some n) (sym e));
  }

  pub counted : length (members occupied) ≡ linked_count s
  counted = le_antisymm no_more_processors no_more_tasks

-- ---- the tasks that are linked in one state alone
-- who was found on the processors below n
abbrev pub IsFoundOnly : State → State → ℕ → Option ℕ → Type 0
IsFoundOnly one other n found = IsFound (IsOnlyOn one other) (λ d t. priority_of one d ≤ priority_of one t) n found

-- over all processors
pub found_only : (one other : State) → IsState one → (n : ℕ) → one.processors ≤ n → (found : Option ℕ) → IsFoundOnly one other n found
    → MatchOption found (IsNobodyOnlyIn one other) (IsFirstOnlyIn one other)
found_only one other ok n all None nobody = λ t linked not_linked.
    let p = place_in t one.on in
    let below = occupied_number one p t ok (task_on-linked one t linked) in
    nobody p (omega arith) t (task_on-linked one t linked, not_linked)
found_only one other ok n all (Some d) first = record {
  linked = is_linked-from_on one first.0.0 d first.0.1.0;
  not_linked = first.0.1.1;
  first = λ t linked not_linked.
      let p = place_in t one.on in
      let below = occupied_number one p t ok (task_on-linked one t linked) in
      first.1 p (omega arith) t (task_on-linked one t linked, not_linked);
}

-- ---- the most urgent one of both sides
module _ (weak strong : State) where
  -- a task that is linked in just one of the two
  sides : (u : ℕ) → IsInJustOne weak strong u → ((is_linked weak u ≡ true) × (is_linked strong u ≡ false))
      ⊎ ((is_linked strong u ≡ true) × (is_linked weak u ≡ false))
  sides u apart = elim (cases_Bool (is_linked weak u)) [
    | inl in_weak ↦ elim (cases_Bool (is_linked strong u)) [
      | inl in_strong ↦ absurd (apart (in_weak ∙ sym in_strong))
      | inr not_in_strong ↦ inl (in_weak, not_in_strong)
    ]
    | inr not_in_weak ↦ elim (cases_Bool (is_linked strong u)) [
      | inl in_strong ↦ inr (in_strong, not_in_weak)
      | inr not_in_strong ↦ absurd (apart (not_in_weak ∙ sym not_in_strong))
    ]
  ]

  only_weak : (u : ℕ) → is_linked weak u ≡ true → is_linked strong u ≡ false → IsInJustOne weak strong u
  only_weak u there not_there same = true≢false (sym there ∙ same ∙ not_there)

  only_strong : (u : ℕ) → is_linked strong u ≡ true → is_linked weak u ≡ false → IsInJustOne weak strong u
  only_strong u there not_there same = true≢false (sym there ∙ sym same ∙ not_there)

  module _ (priorities : (u : ℕ) → priority_of strong u ≡ priority_of weak u) where
    -- the weak state has nobody alone
    pub first_of_strong : (found : Option ℕ) → MatchOption found (IsNobodyOnlyIn strong weak) (IsFirstOnlyIn strong weak)
        → IsNobodyOnlyIn weak strong → IsFirstApart weak strong found
    first_of_strong None nobody none = λ u. elim (cases_Bool (is_linked weak u)) [
      | inl in_weak ↦ elim (cases_Bool (is_linked strong u)) [
        | inl in_strong ↦ in_weak ∙ sym in_strong
        | inr not_in_strong ↦ absurd (none u in_weak not_in_strong)
      ]
      | inr not_in_weak ↦ elim (cases_Bool (is_linked strong u)) [
        | inl in_strong ↦ absurd (nobody u in_strong not_in_weak)
        | inr not_in_strong ↦ not_in_weak ∙ sym not_in_strong
      ]
    ]
    first_of_strong (Some d) first none = (
      only_strong d first.linked first.not_linked,
      λ u apart. elim (sides u apart) [
        | inl weakly ↦ absurd (none u weakly.0 weakly.1)
        | inr strongly ↦ first.first u strongly.0 strongly.1
      ],
    )

    -- the weak state has t alone, and r is the more urgent one of t and who was found in the strong one
    pub first_of_both : (found : Option ℕ) (t r : ℕ) → MatchOption found (IsNobodyOnlyIn strong weak) (IsFirstOnlyIn strong weak)
        → IsFirstOnlyIn weak strong t
        → (r ≡ t) ⊎ (found ≡ Some r) → priority_of strong r ≤ priority_of strong t
        → IfSome found (λ u. priority_of strong r ≤ priority_of strong u) → IsFirstApart weak strong (Some r)
    first_of_both found t r strongly weakly either first first_of_found = (
      apart found strongly either,
      λ u apart_u. elim (sides u apart_u) [
        | inl in_weak ↦ let le = weakly.first u in_weak.0 in_weak.1 in let a = priorities t in let b = priorities u in omega arith
        | inr in_strong ↦ of_found found strongly first_of_found u in_strong.0 in_strong.1
      ],
    )
      where
        apart : (found : Option ℕ) → MatchOption found (IsNobodyOnlyIn strong weak) (IsFirstOnlyIn strong weak) → (r ≡ t) ⊎ (found ≡ Some r)
            → IsInJustOne weak strong r
        apart found strongly (inl it) = rw it (only_weak t weakly.linked weakly.not_linked)
        apart None strongly (inr is) = cc
        apart (Some d) strongly (inr is) = rw (← same_Some d r is) (only_strong d strongly.linked strongly.not_linked)

        of_found : (found : Option ℕ) → MatchOption found (IsNobodyOnlyIn strong weak) (IsFirstOnlyIn strong weak)
            → IfSome found (λ u. priority_of strong r ≤ priority_of strong u) → (u : ℕ) → is_linked strong u ≡ true
            → is_linked weak u ≡ false → priority_of strong r ≤ priority_of strong u
        of_found None nobody first_of_found u there not_there = absurd (nobody u there not_there)
        of_found (Some d) strongly first_of_found u there not_there = let le = strongly.first u there not_there in omega arith

-- whoever was found alone in a state is a task of it
pub only_number : (one other : State) → IsState one → (found : Option ℕ)
    → MatchOption found (IsNobodyOnlyIn one other) (IsFirstOnlyIn one other) → ForSome found (λ t. t < task_count one)
only_number one other ok None nobody = λ u e. cc
only_number one other ok (Some d) first = λ u e. rw (← same_Some d u e)
    (linked_number one (place_in d one.on) d ok (task_on-linked one d first.linked))

-- whoever is linked in just one of two states over the same tasks is a task of them
pub apart_number : (weak strong : State) → IsState weak → IsState strong → task_count weak ≡ task_count strong → (found : Option ℕ)
    → IsFirstApart weak strong found → ForSome found (λ t. t < task_count strong)
apart_number weak strong ok_weak ok_strong same None none = λ u e. cc
apart_number weak strong ok_weak ok_strong same (Some d) first = λ u e. rw (← same_Some d u e) (elim (sides weak strong d first.0) [
  | inl weakly ↦ rw (← same) (linked_number weak (place_in d weak.on) d ok_weak (task_on-linked weak d weakly.0))
  | inr strongly ↦ linked_number strong (place_in d strong.on) d ok_strong (task_on-linked strong d strongly.0)
])
