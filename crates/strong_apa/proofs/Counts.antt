-- How many numbers below n pass a test, and how a map that sends no two numbers to one compares two such counts.
use Rattle.std.proofs.Common.{◌≡◌, ◌≢◌, ℕ, zero, suc, ◌<◌, ◌≤◌, Bool, true, false, not, ◌&&◌, [], ◌∷◌, length, length-append, nat_eq, refl}
use Rattle.std.proofs.Common.{sym, ap, ◌∙◌, inl, inr, ◌⊎◌, arith, eq-eqb, ne_eqb, List, ◌++◌, ◌+◌, cond, filter}
use Rattle.std.proofs.Math.Bool.{and-true}
use Rattle.std.proofs.lemmas.Bool.{cases_Bool, cases_eq, and_from}
use Rattle.affinity_mask.specs.ProcSet.{passing_below}
use Rattle.affinity_mask.proofs.Lists.{passing_more, passing_same}
use Rattle.std.specs.List.{range_with_len}
use Rattle.std.proofs.lemmas.List.{map-id}
use Rattle.std.proofs.lemmas.List.FromFn.{filter_of_map_range_with_len_more}

-- how many numbers below n pass the test
abbrev pub count_below : (ℕ → Bool) → ℕ → ℕ
count_below test n = length (passing_below test n)

pub count_below-zero : (test : ℕ → Bool) → count_below test 0 ≡ 0
unfolding passing_below
count_below-zero test = refl

pub count_below-more : (test : ℕ → Bool) (n : ℕ) → test n ≡ true → count_below test (suc n) ≡ suc (count_below test n)
count_below-more test n e = ap length (passing_more test n e) ∙ length-append (passing_below test n) (n ∷ []) ∙ omega arith

pub count_below-same : (test : ℕ → Bool) (n : ℕ) → test n ≡ false → count_below test (suc n) ≡ count_below test n
count_below-same test n e = ap length (passing_same test n e)

-- there are no more than n
pub count_below-bound : (test : ℕ → Bool) (n : ℕ) → count_below test n ≤ n
count_below-bound test zero = rw (count_below-zero test) (omega arith)
count_below-bound test (suc n) = let rest = count_below-bound test n in elim (cases_Bool (test n)) [
  | inl h ↦ rw (count_below-more test n h) (omega arith)
  | inr h ↦ rw (count_below-same test n h) (omega arith)
]

-- two tests that agree below n pass as many numbers there
pub count_below-agree : (test other : ℕ → Bool) (n : ℕ) → ((x : ℕ) → x < n → test x ≡ other x) → count_below test n ≡ count_below other n
count_below-agree test other zero agree = count_below-zero test ∙ sym (count_below-zero other)
count_below-agree test other (suc n) agree =
    let rest = count_below-agree test other n (λ x lt. agree x (omega arith)) in
    elim (cases_Bool (test n)) [
      | inl h ↦ count_below-more test n h ∙ ap (λ (k : ℕ). suc k) rest ∙ sym (count_below-more other n (sym (agree n (omega arith)) ∙ h))
      | inr h ↦ count_below-same test n h ∙ rest ∙ sym (count_below-same other n (sym (agree n (omega arith)) ∙ h))
    ]

-- a test that passes one number more
pub count_below-one_more : (test other : ℕ → Bool) (x n : ℕ) → x < n → test x ≡ true → other x ≡ false
    → ((y : ℕ) → y < n → y ≢ x → test y ≡ other y) → count_below test n ≡ suc (count_below other n)
count_below-one_more test other x zero lt h f agree = absurd (omega arith)
count_below-one_more test other x (suc n) lt h f agree = elim (cases_eq n x) [
  | inl e ↦ count_below-more test n (rw e h)
      ∙ ap (λ (k : ℕ). suc k) (count_below-agree test other n (λ y below. agree y (omega arith) (omega arith))
      ∙ sym (count_below-same other n (rw e f)))
  | inr ne ↦ let rest = count_below-one_more test other x n (omega arith) h f (λ y below. agree y (omega arith)) in
      elim (cases_Bool (test n)) [
        | inl k ↦ count_below-more test n k ∙ ap (λ (k : ℕ). suc k)
            (rest ∙ sym (count_below-more other n (sym (agree n (omega arith) ne) ∙ k)))
        | inr k ↦ count_below-same test n k ∙ rest
            ∙ ap (λ (k : ℕ). suc k) (sym (count_below-same other n (sym (agree n (omega arith) ne) ∙ k)))
      ]
]

-- the map sends each number below m that passes to one below n that passes the other test, and no two to one
pub record IsInjection (P : ℕ → Bool) (m : ℕ) (Q : ℕ → Bool) (n : ℕ) (map : ℕ → ℕ) : Type 0 where
  pub below : (x : ℕ) → x < m → P x ≡ true → map x < n
  pub passes : (x : ℕ) → x < m → P x ≡ true → Q (map x) ≡ true
  pub apart : (x y : ℕ) → x < m → y < m → P x ≡ true → P y ≡ true → map x ≡ map y → x ≡ y

-- so there are at least as many of the latter
pub count_below-injection : (P : ℕ → Bool) (m : ℕ) (Q : ℕ → Bool) (n : ℕ) (map : ℕ → ℕ) → IsInjection P m Q n map
    → count_below P m ≤ count_below Q n
count_below-injection P zero Q n map i = rw count_below-zero (omega arith)
count_below-injection P (suc m) Q n map i = elim (cases_Bool (P m)) [
  | inl h ↦ rw (count_below-more P m h)
      (let rest = count_below-injection P m (λ y. Q y && not (nat_eq y (map m))) n map record {
        below = λ x lt p. i.below x (omega arith) p;
        passes = λ x lt p. and_from _ _ (i.passes x (omega arith) p)
            (rw (ne_eqb (map x) (map m) (λ e. let same = i.apart x m (omega arith) (omega arith) p h e in absurd (omega arith))) refl);
        apart = λ x y lx ly px py e. i.apart x y (omega arith) (omega arith) px py e;
      } in
      let one_more = count_below-one_more Q (λ y. Q y && not (nat_eq y (map m))) (map m) n (i.below m (omega arith) h)
      (i.passes m (omega arith) h) (rw (i.passes m (omega arith) h, eq-eqb (map m) (map m) refl) refl)
      (λ y lt ne. rw (ne_eqb y (map m) ne) (sym (and-true (Q y)))) in
      omega arith)
  | inr h ↦ rw (count_below-same P m h) (count_below-injection P m Q n map record {
    below = λ x lt p. i.below x (omega arith) p;
    passes = λ x lt p. i.passes x (omega arith) p;
    apart = λ x y lx ly px py e. i.apart x y (omega arith) (omega arith) px py e;
  })
]

-- either some number below n has a property that can be decided, or none has
pub search_below : (P : ℕ → Type 0) (n : ℕ) → ((x : ℕ) → x < n → P x ⊎ (P x → ⊥)) → ((x : ℕ) × (x < n) × P x) ⊎ ((x : ℕ) → x < n → P x → ⊥)
search_below P zero decided = inr (λ x lt. absurd (omega arith))
search_below P (suc n) decided = elim (decided n (omega arith)) [
  | inl here ↦ inl (n, omega arith, here)
  | inr not_here ↦ elim (search_below P n (λ x lt. decided x (omega arith))) [
    | inl found ↦ inl (found.0, (let l = found.1 in omega arith), found.2)
    | inr nowhere ↦ inr (λ x lt p. elim (cases_eq x n) [
      | inl e ↦ not_here (rw e at p)
      | inr ne ↦ nowhere x (omega arith) p
    ])
  ]
]

-- the numbers below n that pass a test
pub filter_more : (test : ℕ → Bool) (n : ℕ) → filter test (range_with_len 0 (n + 1)) ≡ filter test (range_with_len 0 n)
    ++ cond (test n) (n ∷ []) []
filter_more test n =
    ap (filter test) (sym (map-id (range_with_len 0 (n + 1))))
    ∙ filter_of_map_range_with_len_more test (λ k. k) 0 n n (omega arith)
    ∙ ap (λ (xs : List ℕ). filter test xs ++ cond (test n) (n ∷ []) []) (map-id (range_with_len 0 n))
