-- The rows of orders, as a loop goes over them one by one.
use Rattle.std.proofs.Common.{◌≡◌, ◌≢◌, ℕ, zero, suc, ◌+◌, ◌<◌, ◌≤◌, Bool, true, false, cond, List, [], ◌∷◌, length, filter, set, ◌⊎◌}
use Rattle.std.proofs.Common.{Option, Some, None, refl, sym, ap, ◌∙◌, subst, inl, inr, arith, zero-add}
use Rattle.std.specs.List.{range_with_len}
use Rattle.std.proofs.lemmas.Bool.{cases_lt, cases_eq}
use Rattle.std.proofs.lemmas.List.{length-append, length-set, get_or-set_same, get_or-set_other}
use Rattle.strong_apa.specs.Dispatch.{change_orders}
use Rattle.sched_core.specs.CoreRows.{RowData, row_at, empty_row, OnlyGrew, RowsOnlyGrew, HasRoomInEach}
use Rattle.strong_apa.proofs.Counts.{filter_more}

-- the rows below n became what they have to, and the others are as they were
pub record RowsDone (Becomes : ℕ → RowData → RowData → Type 0) (old : List RowData) (n : ℕ) (now : List RowData) : Type 0 where
  pub count : length now ≡ length old
  pub done : (p : ℕ) → p < n → p < length old → Becomes p (row_at old p) (row_at now p)
  pub rest : (p : ℕ) → n ≤ p → row_at now p ≡ row_at old p

pub rows_done-none : (Becomes : ℕ → RowData → RowData → Type 0) (old : List RowData) → RowsDone Becomes old 0 old
rows_done-none Becomes old = record {
  count = refl;
  done = λ p below fits. absurd (let no : ⊥ = omega arith in no);
  rest = λ p above. refl;
}

-- one row more
pub rows_done-more : (Becomes : ℕ → RowData → RowData → Type 0) (old : List RowData) (n : ℕ) (now : List RowData) (row : RowData)
    → n < length old → RowsDone Becomes old n now → Becomes n (row_at now n) row → RowsDone Becomes old (n + 1) (set now n row)
rows_done-more Becomes old n now row fits so_far here = record {
  count = length-set now n row ∙ so_far.count;
  done = λ p below inside. elim (cases_eq p n) [
    | inl same ↦ rw (same, get_or-set_same now n row empty_row (rw so_far.count fits), ← so_far.rest n (omega arith)) here
    | inr other ↦ rw (get_or-set_other now n p row empty_row other) (so_far.done p (omega arith) inside)
  ];
  rest = λ p above. get_or-set_other now n p row empty_row (λ e. absurd (let no : ⊥ = omega arith in no)) ∙ so_far.rest p (omega arith);
}

-- ---- rows that only grow
pub grew-same : (row : RowData) → OnlyGrew row row
grew-same row = record { orders = refl; held = refl; room = omega arith }

-- the rows gone over have the room, and all only grew
abbrev pub GrewWithRoom : ℕ → ℕ → RowData → RowData → Type 0
GrewWithRoom room p old new = OnlyGrew old new × (room ≤ new.room)

module _ (room : ℕ) (old : List RowData) (n : ℕ) (now : List RowData) (so_far : RowsDone (GrewWithRoom room) old n now) where
  pub rows_grew : RowsOnlyGrew old now
  rows_grew = record {
    count = so_far.count;
    each = λ p fits. elim (cases_lt p n) [
      | inl below ↦ (so_far.done p below fits).0
      | inr above ↦ rw (so_far.rest p above) (grew-same (row_at old p))
    ];
  }

  -- the row at n has grown as well, with enough room or not
  pub rows_grew-more : (row : RowData) → n < length old → OnlyGrew (row_at now n) row → RowsOnlyGrew old (set now n row)
  rows_grew-more row inside here = record {
    count = length-set now n row ∙ so_far.count;
    each = λ p fits. elim (cases_eq p n) [
      | inl same ↦ rw (same, get_or-set_same now n row empty_row (rw so_far.count inside), ← so_far.rest n (omega arith)) here
      | inr other ↦ rw (get_or-set_other now n p row empty_row other) (rows_grew.each p fits)
    ];
  }

  pub rows_have_room : length old ≤ n → HasRoomInEach room now
  rows_have_room whole p fits = let inside : p < length old = rw so_far.count at fits in (so_far.done p (omega arith) inside).1

-- ---- the numbers below n that pass a test
pub filtered_count-more : (test : ℕ → Bool) (n : ℕ) → length (filter test (range_with_len 0 (n + 1)))
    ≡ length (filter test (range_with_len 0 n)) + cond (test n) 1 0
filtered_count-more test n =
    ap length (filter_more test n) ∙ length-append (filter test (range_with_len 0 n)) (cond (test n) (n ∷ []) []) ∙ last (test n)
  where
    last : (b : Bool) → length (filter test (range_with_len 0 n)) + length (cond b (n ∷ []) []) ≡ length (filter test (range_with_len 0 n))
        + cond b 1 0
    last true = refl
    last false = refl

filtered_count-suc : (test : ℕ → Bool) (n : ℕ) → length (filter test (range_with_len 0 (suc n))) ≡ length (filter test (range_with_len 0 n))
    + cond (test n) 1 0
filtered_count-suc test n =
    let e : n + 1 ≡ suc n = omega arith in
    subst (λ k. length (filter test (range_with_len 0 k)) ≡ length (filter test (range_with_len 0 n)) + cond (test n) 1 0) e
    (filtered_count-more test n)

-- at most n of the first n numbers pass
pub filtered_count-bound : (test : ℕ → Bool) (n : ℕ) → length (filter test (range_with_len 0 n)) ≤ n
filtered_count-bound test zero = let e : length (filter test (range_with_len 0 0)) ≡ 0 = refl in omega (arith, e)
filtered_count-bound test (suc n) =
    bound (test n) (filtered_count-suc test n) (filtered_count-bound test n)
  where
    bound : (b : Bool) → length (filter test (range_with_len 0 (suc n))) ≡ length (filter test (range_with_len 0 n)) + cond b 1 0
        → length (filter test (range_with_len 0 n)) ≤ n → length (filter test (range_with_len 0 (suc n))) ≤ suc n
    bound true e before = omega (arith, e, before)
    bound false e before = omega (arith, e, before)

-- tests that agree below n count the same numbers
pub filtered_count-same : (test other : ℕ → Bool) (n : ℕ) → ((p : ℕ) → p < n → test p ≡ other p) → length (filter test (range_with_len 0 n))
    ≡ length (filter other (range_with_len 0 n))
filtered_count-same test other zero same = refl
filtered_count-same test other (suc n) same =
    let before = filtered_count-same test other n (λ p below. same p (omega arith)) in
    filtered_count-suc test n ∙ rw (before, same n (omega arith)) (sym (filtered_count-suc other n))

-- where no number below n passes, none is counted
pub filtered_count-none : (test : ℕ → Bool) (n : ℕ) → ((p : ℕ) → p < n → test p ≡ false) → length (filter test (range_with_len 0 n)) ≡ 0
filtered_count-none test zero none = refl
filtered_count-none test (suc n) none =
    let more = filtered_count-suc test n in
    let before = filtered_count-none test n (λ p below. none p (omega arith)) in
    let one : ℕ = 1 in
    let here : cond (test n) one 0 ≡ 0 = rw (none n (omega arith)) refl in
    omega (arith, more, before, here)

-- tests that agree but at x, where the first one fails
pub filtered_count-at : (test other : ℕ → Bool) (x n : ℕ) → x < n → test x ≡ false → ((p : ℕ) → p ≢ x → other p ≡ test p)
    → length (filter other (range_with_len 0 n)) ≡ length (filter test (range_with_len 0 n)) + cond (other x) 1 0
filtered_count-at test other x zero fits fails same = absurd (let no : ⊥ = omega (arith, fits) in no)
filtered_count-at test other x (suc n) fits fails same = elim (cases_eq x n) [
  | inl last ↦
      let before = filtered_count-same other test n (λ p below. same p (λ e. absurd (let no : ⊥ = omega (arith, below, last, e) in no))) in
      let here : cond (test n) 1 0 ≡ cond false 1 0 = ap (λ (b : Bool). cond b 1 0) (ap test (sym last) ∙ fails) in
      let there : cond (other n) 1 0 ≡ cond (other x) 1 0 = ap (λ (p : ℕ). cond (other p) 1 0) (sym last) in
      last_one (length (filter other (range_with_len 0 n))) (length (filter test (range_with_len 0 n))) _ _ (cond (other n) 1 0)
      (cond (test n) 1 0) (cond (other x) 1 0) (filtered_count-suc other n) (filtered_count-suc test n) before here there
  | inr earlier ↦
      let before = filtered_count-at test other x n (omega (arith, fits, earlier)) fails same in
      let here : cond (other n) 1 0 ≡ cond (test n) 1 0 = ap (λ (b : Bool). cond b 1 0) (same n (λ e. earlier (sym e))) in
      earlier_one (length (filter other (range_with_len 0 n))) (length (filter test (range_with_len 0 n))) _ _ (cond (other n) 1 0)
      (cond (test n) 1 0) (cond (other x) 1 0) (filtered_count-suc other n) (filtered_count-suc test n) before here
]
  where
    last_one : (a b a' b' here there extra : ℕ) → a' ≡ a + here → b' ≡ b + there → a ≡ b → there ≡ 0 → here ≡ extra → a' ≡ b' + extra
    last_one a b a' b' here there extra e f g h i = omega arith

    earlier_one : (a b a' b' here there extra : ℕ) → a' ≡ a + here → b' ≡ b + there → a ≡ b + extra → here ≡ there → a' ≡ b' + extra
    earlier_one a b a' b' here there extra e f g h = omega arith

-- where each number is judged by one of two tests, and fails the other, both together count what the test counts
pub filtered_count-split : (test first later : ℕ → Bool) (n : ℕ)
    → ((p : ℕ) → p < n → ((later p ≡ false) × (test p ≡ first p)) ⊎ ((first p ≡ false) × (test p ≡ later p)))
    → length (filter test (range_with_len 0 n)) ≡ length (filter first (range_with_len 0 n)) + length (filter later (range_with_len 0 n))
filtered_count-split test first later zero split = refl
filtered_count-split test first later (suc n) split =
    both (length (filter test (range_with_len 0 n))) (length (filter first (range_with_len 0 n)))
    (length (filter later (range_with_len 0 n))) _ _ _ (cond (test n) 1 0) (cond (first n) 1 0) (cond (later n) 1 0)
    (filtered_count-suc test n) (filtered_count-suc first n) (filtered_count-suc later n)
    (filtered_count-split test first later n (λ p below. split p (omega arith))) (here (split n (omega arith)))
  where
    both : (a b c a' b' c' x y z : ℕ) → a' ≡ a + x → b' ≡ b + y → c' ≡ c + z → a ≡ b + c → x ≡ y + z → a' ≡ b' + c'
    both a b c a' b' c' x y z e f g h i = omega arith

    alone : (b : Bool) → cond b 1 0 ≡ cond b 1 0 + cond false 1 0
    alone true = refl
    alone false = refl

    here : ((later n ≡ false) × (test n ≡ first n)) ⊎ ((first n ≡ false) × (test n ≡ later n)) → cond (test n) 1 0 ≡ cond (first n) 1 0
        + cond (later n) 1 0
    here (inl (fails, same)) = rw (fails, same) (alone (first n))
    here (inr (fails, same)) = rw (fails, same) (sym (zero-add (cond (later n) 1 0)))

-- the orders at a change name the take of the occupant alone
pub change_orders-same_number : (takes others : ℕ → ℕ) (held occupant : Option ℕ) → ((t : ℕ) → occupant ≡ Some t → takes t ≡ others t)
    → change_orders takes held occupant ≡ change_orders others held occupant
change_orders-same_number takes others held None same = refl
change_orders-same_number takes others held (Some t) same = rw (same t refl) refl
