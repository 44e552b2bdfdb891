-- The rows of a chain change to their occupants, one by one. A processor may stand in the chain twice: its row holds the
-- occupant then, and stays.
use Rattle.std.proofs.Common.{◌≡◌, ◌≢◌, ℕ, ◌+◌, ◌<◌, Bool, true, false, not, ◌&&◌, cond, if◌then◌else◌, List, [], ◌∷◌, ◌++◌, length, get_or}
use Rattle.std.proofs.Common.{filter, set, Option, Some, refl, sym, ap, ◌∙◌, subst, inl, inr, arith}
use Rattle.std.specs.Prelude.{All, Contains}
use Rattle.std.specs.List.{range_with_len}
use Rattle.std.proofs.lemmas.Bool.{cases_Bool, cases_eq}
use Rattle.std.proofs.lemmas.List.{length-set, get_or-set_same, get_or-set_other}
use Rattle.std.proofs.lemmas.List.Elements.{All-nil, All-cons, All-head, All-tail, Contains-push, Contains-push_cases, Contains-append_left}
use Rattle.std.proofs.lemmas.List.Elements.{Contains-append_right, Contains-append_cases}
use Rattle.task_set.specs.declared.order.Order.{Order}
use Rattle.strong_apa.specs.State.{State, task_on, is_task}
use Rattle.strong_apa.proofs.Linked.{is_task-true, linked_number}
use Rattle.sched_core.specs.CoreRows.{RowData, row_at, empty_row, RowChanges, RowChangesIn, RowsChange, CanFollow, NumbersBecome, came}
use Rattle.sched_core.specs.CoreRows.{came_between}
use Rattle.sched_core.proofs.RowLoops.{filtered_count-at, filtered_count-none, filtered_count-split, change_orders-same_number}

-- nobody comes where the same task is held
pub came-same : (t : ℕ) (held : Option ℕ) → came t held held ≡ false
came-same t held = by (is_task t held)
  where
    by : (b : Bool) → (b && not b) ≡ false
    by true = refl
    by false = refl

pub nothing_in : (p : ℕ) → Contains {X = ℕ} [] p → ⊥
nothing_in p there = let low = there.1 in absurd (let no : ⊥ = omega (arith, low) in no)

-- along no chain
pub rows_change-none : (links : State) (rows : List RowData) (takes : List ℕ) → RowsChange [] links rows takes rows takes
rows_change-none links rows takes = record {
  count = refl;
  each = λ p. inr (nothing_in p, refl);
  takes_more = record {
    count = refl;
    each = λ t d fits. let none = filtered_count-none (λ p. came t (row_at rows p).held (row_at rows p).held) (length rows)
        (λ p below. came-same t (row_at rows p).held) in omega (arith, none);
  };
}

-- ---- along one processor
module _ (links : State) (x : ℕ) (now : List RowData) (counted : List ℕ) (row : RowData) (after : List ℕ) (fits : x < length now)
    (changes : RowChanges (row_at now x) (λ t. get_or counted t 0) (task_on links x) row)
    (numbers : NumbersBecome (λ t n. if came t (row_at now x).held (task_on links x) then n + 1 else n) counted after) where
  at_x : row_at (set now x row) x ≡ row
  at_x = get_or-set_same now x row empty_row fits

  elsewhere : (p : ℕ) → p ≢ x → row_at (set now x row) p ≡ row_at now p
  elsewhere p other = get_or-set_other now x p row empty_row other

  x_alone : (p : ℕ) → Contains (x ∷ []) p → p ≡ x
  x_alone p there = elim (Contains-push_cases [] x p there) [
    | inl before ↦ absurd (nothing_in p before)
    | inr here ↦ sym here
  ]

  each_row : (p : ℕ) → RowChangesIn (x ∷ []) links (λ t. get_or counted t 0) p (row_at now p) (row_at (set now x row) p)
  each_row p = elim (cases_eq p x) [
    | inl same ↦ rw (same, at_x) (inl (Contains-push [] x, changes))
    | inr other ↦ inr ((λ there. other (x_alone p there)), elsewhere p other)
  ]

  -- t is counted where it came to x
  counted_here : (t : ℕ) → length (came_between now (set now x row) t) ≡ cond (came t (row_at now x).held (task_on links x)) 1 0
  counted_here t =
      let before = filtered_count-none (λ p. came t (row_at now p).held (row_at now p).held) (length now)
      (λ p below. came-same t (row_at now p).held) in
      let more = filtered_count-at (λ p. came t (row_at now p).held (row_at now p).held)
      (λ p. came t (row_at now p).held (row_at (set now x row) p).held) x (length now) fits
      (came-same t (row_at now x).held)
      (λ p other. ap (λ (r : RowData). came t (row_at now p).held r.held) (elsewhere p other)) in
      let there : cond (came t (row_at now x).held (row_at (set now x row) x).held) 1 0
      ≡ cond (came t (row_at now x).held (task_on links x)) 1 0 =
      ap (λ (held : Option ℕ). cond (came t (row_at now x).held held) 1 0) (ap (λ (r : RowData). r.held) at_x ∙ changes.held) in
      alone _ _ _ _ more before there
    where
      alone : (all none here there : ℕ) → all ≡ none + here → none ≡ 0 → here ≡ there → all ≡ there
      alone all none here there e f g = omega arith

  pub rows_change-one : RowsChange (x ∷ []) links now counted (set now x row) after
  rows_change-one = record {
    count = length-set now x row;
    each = each_row;
    takes_more = record {
      count = numbers.count;
      each = λ t d known. numbers.each t d known ∙ by (came t (row_at now x).held (task_on links x)) (get_or counted t d)
          (length (came_between now (set now x row) t)) (counted_here t);
    };
  }
    where
      by : (b : Bool) (n more : ℕ) → more ≡ cond b 1 0 → (if b then n + 1 else n) ≡ n + more
      by true n more e = omega (arith, e)
      by false n more e = omega (arith, e)

-- ---- along a part of a chain
all_first : (P : ℕ → Type 0) (xs ys : List ℕ) → All P (xs ++ ys) → All P xs
all_first P [] ys all = All-nil P
all_first P (x ∷ xs) ys all = All-cons P x xs (All-head P x (xs ++ ys) all) (all_first P xs ys (All-tail P x (xs ++ ys) all))

all_later : (P : ℕ → Type 0) (xs ys : List ℕ) → All P (xs ++ ys) → All P ys
all_later P [] ys all = all
all_later P (x ∷ xs) ys all = all_later P xs ys (All-tail P x (xs ++ ys) all)

pub can_follow-first : (links : State) (first later : List ℕ) (rows : List RowData) (takes : List ℕ)
    → CanFollow (first ++ later) links rows takes → CanFollow first links rows takes
can_follow-first links first later rows takes can = record {
  state = can.state;
  below = all_first (λ p. p < links.processors) first later can.below;
  one_each = can.one_each;
  number_each = can.number_each;
  each = can.each;
}

-- ---- along one chain, and then another
module _ (links : State) (chain first : List ℕ) (old now : List RowData) (takes counted : List ℕ) (can : CanFollow chain links old takes)
    (so_far : RowsChange first links old takes now counted) where
  -- the occupant of a processor outside the first chain came nowhere
  not_yet : (x : ℕ) → (Contains first x → ⊥) → (t : ℕ) → task_on links x ≡ Some t → length (came_between old now t) ≡ 0
  not_yet x fresh t on =
      filtered_count-none (λ p. came t (row_at old p).held (row_at now p).held) (length old) (λ p below. elim (so_far.each p) [
        | inl there ↦ elim (cases_Bool (is_task t (task_on links p))) [
          | inl here ↦ absurd (fresh (subst (λ (q : ℕ). Contains first q) (can.state.once p x t (is_task-true t (task_on links p) here) on)
              there.0))
          | inr other ↦ rw (there.1.held, other) refl
        ]
        | inr same ↦ rw same.1 (came-same t (row_at old p).held)
      ])

  -- so the number of its takes is the one before the event
  number_before : (x : ℕ) → (Contains first x → ⊥) → (t : ℕ) → task_on links x ≡ Some t → get_or counted t 0 ≡ get_or takes t 0
  number_before x fresh t on =
      let known : t < length takes = (let number = linked_number links x t can.state on in rw can.number_each number) in
      let number = so_far.takes_more.each t 0 known in
      let none = not_yet x fresh t on in
      omega (arith, number, none)

  -- after the first chain others can be followed
  pub can_follow-after : (more : List ℕ) → All (λ p. p < links.processors) more → CanFollow more links now counted
  can_follow-after more below = record {
    state = can.state;
    below = below;
    one_each = so_far.count ∙ can.one_each;
    number_each = so_far.takes_more.count ∙ can.number_each;
    each = λ p inside other. elim (so_far.each p) [
      | inl there ↦ absurd (other there.1.held)
      | inr same ↦
          let before = can.each p inside (λ e. other (ap (λ (r : RowData). r.held) same.1 ∙ e)) in
          record {
            room = rw same.1 before.room;
            small = λ t on. rw (number_before p same.0 t on) (before.small t on);
          }
    ];
  }

  -- and so the later part of a chain
  pub can_follow-later : (later : List ℕ) → chain ≡ first ++ later → CanFollow later links now counted
  can_follow-later later is = can_follow-after later (all_later (λ p. p < links.processors) first later (rw is at can.below))

  module _ (later : List ℕ) (new : List RowData) (after : List ℕ) (next : RowsChange later links now counted new after) where
    -- a row of the first chain stays at the second one
    stays_held : (p : ℕ) → (row_at now p).held ≡ task_on links p → row_at new p ≡ row_at now p
    stays_held p held = elim (next.each p) [
      | inl there ↦ there.1.kept held
      | inr same ↦ same.1
    ]

    changed : (p : ℕ) → (Contains first p → ⊥) → row_at now p ≡ row_at old p
        → RowChanges (row_at now p) (λ t. get_or counted t 0) (task_on links p) (row_at new p)
        → RowChanges (row_at old p) (λ t. get_or takes t 0) (task_on links p) (row_at new p)
    changed p fresh same changes =
        let moved : RowChanges (row_at old p) (λ t. get_or counted t 0) (task_on links p) (row_at new p) = subst
        (λ (r : RowData). RowChanges r (λ t. get_or counted t 0) (task_on links p) (row_at new p)) same changes in
        record {
          orders = moved.orders ∙ ap (λ (xs : List Order). (row_at old p).orders ++ xs)
              (change_orders-same_number (λ t. get_or counted t 0) (λ t. get_or takes t 0) (row_at old p).held (task_on links p)
              (λ t on. number_before p fresh t on));
          held = moved.held;
          room = moved.room;
          kept = moved.kept;
        }

    each_of_both : (p : ℕ) → RowChangesIn (first ++ later) links (λ t. get_or takes t 0) p (row_at old p) (row_at new p)
    each_of_both p = elim (so_far.each p) [
      | inl there ↦ inl (Contains-append_left first later p there.0, rw (stays_held p there.1.held) there.1)
      | inr same ↦ elim (next.each p) [
        | inl there ↦ inl (Contains-append_right first later p there.0, changed p same.0 same.1 there.1)
        | inr still ↦ inr (
          (λ inside. elim (Contains-append_cases first later p inside) [
            | inl before ↦ same.0 before
            | inr here ↦ still.0 here
          ]),
          still.1 ∙ same.1,
        )
      ]
    ]

    counted_twice : (t : ℕ) → length (came_between old new t) ≡ length (came_between old now t) + length (came_between now new t)
    counted_twice t =
        filtered_count-split (λ p. came t (row_at old p).held (row_at new p).held) (λ p. came t (row_at old p).held (row_at now p).held)
        (λ p. came t (row_at now p).held (row_at new p).held) (length old)
        (λ p below. elim (so_far.each p) [
          | inl there ↦ let still = stays_held p there.1.held in inl (rw still (came-same t (row_at now p).held), rw still refl)
          | inr same ↦ inr (rw same.1 (came-same t (row_at old p).held), rw same.1 refl)
        ])
        ∙ ap (λ (n : ℕ). length (came_between old now t)
        + length (filter (λ p. came t (row_at now p).held (row_at new p).held) (range_with_len 0 n))) (sym so_far.count)

    pub rows_change-then : RowsChange (first ++ later) links old takes new after
    rows_change-then = record {
      count = next.count ∙ so_far.count;
      each = each_of_both;
      takes_more = record {
        count = next.takes_more.count ∙ so_far.takes_more.count;
        each = λ t d known. sum _ _ _ _ _ _ (next.takes_more.each t d (rw so_far.takes_more.count known)) (so_far.takes_more.each t d known)
            (counted_twice t);
      };
    }
      where
        sum : (n n' n'' a b whole : ℕ) → n'' ≡ n' + b → n' ≡ n + a → whole ≡ a + b → n'' ≡ n + whole
        sum n n' n'' a b whole e f g = omega arith
