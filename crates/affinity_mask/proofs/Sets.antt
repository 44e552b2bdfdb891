-- What `has` answers on sets and on the words that stand for them, and that two sets with the same members are equal.
use Rattle.std.proofs.Common.{◌≡◌, ℕ, Bool, true, false, not, ◌&&◌, ◌||◌, ◌-◌, ◌/◌, ◌^◌, ◌<◌, ◌≤◌, min, max, nat_eq, nat_lt, bit_and}
use Rattle.std.proofs.Common.{bit_or, IsTrue, refl, sym, ap, ◌+◌, ◌%◌, add-one, ◌∙◌, arith, ⊎_elim, eq-eqb, ne_eqb, w64, eqb-true, ◌⊎◌, inl}
use Rattle.std.proofs.Common.{inr}
use Rattle.std.proofs.lemmas.Bool.{cases_eq, cases_lt, true≢false, lt-ltb, or_cases, or_left, or_right}
use Rattle.std.proofs.Math.Pow.{pow-lt}
use Rattle.std.proofs.Math.Nat.{div-div-eq-div-mul, pow-succ', mul_comm}
use Rattle.std.specs.Int.{bit_at}
use Rattle.std.proofs.lemmas.Nat.Bits.{bit_at_and, bit_at_or, bit_at-lt, bit_at-pow_same, bit_at-pow_other, bit_at-zero, same_from_bits}
use Rattle.std.proofs.lemmas.Nat.Bits.{bit_at_not, bit_at_xor, bit_at_above, shr_and_one, bit_at_ones, bit_at_ones_above}
use Rattle.affinity_mask.specs.ProcSet.{has, empty, all_below, intersection, with_member, without_member, Within}

max_is_one : (x y : ℕ) → x < 2 → y < 2 → nat_eq (max x y) 1 ≡ (nat_eq x 1 || nat_eq y 1)
max_is_one x y p q = grind arith

min_is_one : (x y : ℕ) → x < 2 → y < 2 → nat_eq (min x y) 1 ≡ (nat_eq x 1 && nat_eq y 1)
min_is_one x y p q = grind arith

pub has-or : (X Y q : ℕ) → has (bit_or X Y) q ≡ (has X q || has Y q)
unfolding has
has-or X Y q = rw (bit_at_or X Y q) (max_is_one _ _ (bit_at-lt X q) (bit_at-lt Y q))

pub has-and : (X Y q : ℕ) → has (bit_and X Y) q ≡ (has X q && has Y q)
unfolding has
has-and X Y q = rw (bit_at_and X Y q) (min_is_one _ _ (bit_at-lt X q) (bit_at-lt Y q))

eqb-same : (p : ℕ) → nat_eq p p ≡ true
eqb-same p = eq-eqb p p refl

pub has-pow : (p q : ℕ) → has (2 ^ p) q ≡ nat_eq q p
unfolding has
has-pow p q =
    ⊎_elim (λ e. rw e (rw (bit_at-pow_same p, eqb-same p) refl)) (λ ne. rw (bit_at-pow_other p q ne, ne_eqb q p ne) refl)
    (cases_eq q p)

pub has-zero : (q : ℕ) → has 0 q ≡ false
unfolding has
has-zero q = rw (bit_at-zero q) refl

-- one bit follows from the test
bit_from_has : (x y : ℕ) → x < 2 → y < 2 → nat_eq x 1 ≡ nat_eq y 1 → x ≡ y
bit_from_has x y p q e = grind arith

-- two sets with the same members are equal
pub same_set : (X Y : ℕ) → ((q : ℕ) → has X q ≡ has Y q) → X ≡ Y
unfolding has
same_set X Y e = same_from_bits X Y (λ i. bit_from_has _ _ (bit_at-lt X i) (bit_at-lt Y i) (e i))

-- a set without members is the empty one
pub empty_from_none : (X : ℕ) → ((q : ℕ) → has X q ≡ false) → X ≡ empty
empty_from_none X none = same_set X empty (λ q. none q ∙ sym (has-zero q))

-- the test `(n >> i) & 1 == 1`
pub has-shift : (X q : ℕ) → nat_eq (bit_and (X / 2 ^ q) 1) 1 ≡ has X q
unfolding has
has-shift X q = rw (shr_and_one X q) refl

not_is_one : (x : ℕ) → x < 2 → nat_eq (1 - x) 1 ≡ not (nat_eq x 1)
not_is_one x p = grind arith

pub has-not : (Y q : ℕ) → Y < 2 ^ 64 → q < 64 → has (2 ^ 64 - 1 - Y) q ≡ not (has Y q)
unfolding has
has-not Y q p r = rw (bit_at_not w64 Y q p r) (not_is_one _ (bit_at-lt Y q))

pub has_above : (X q : ℕ) → X < 2 ^ 64 → 64 ≤ q → has X q ≡ false
unfolding has
has_above X q p r = rw (bit_at_above X 64 q p r) refl

pub has-minus : (X Y q : ℕ) → X < 2 ^ 64 → Y < 2 ^ 64 → has (bit_and X (2 ^ 64 - 1 - Y)) q ≡ (has X q && not (has Y q))
has-minus X Y q p r =
    rw has-and
    (⊎_elim (λ (lt : q < 64). rw (has-not Y q r lt) refl) (λ (ge : 64 ≤ q). rw (has_above X q p ge) refl) (cases_lt q 64))

pub has-without : (X p q : ℕ) → X < 2 ^ 64 → p < 64 → has (bit_and X (2 ^ 64 - 1 - 2 ^ p)) q ≡ (has X q && not (nat_eq q p))
has-without X p q fits below = rw (has-minus X (2 ^ p) q fits (pow-lt below), has-pow) refl

pub has-intersection : (X Y q : ℕ) → has (intersection X Y) q ≡ (has X q && has Y q)
unfolding intersection
has-intersection X Y q = has-and X Y q

not_below : (q m : ℕ) → m ≤ q → nat_lt q m ≡ false
not_below q m ge = grind arith

pub has-all_below : (m q : ℕ) → has (all_below m) q ≡ nat_lt q m
unfolding has all_below
has-all_below m q =
    ⊎_elim (λ (lt : q < m). rw (bit_at_ones m q lt) (sym (lt-ltb q m lt)))
    (λ (ge : m ≤ q). rw (bit_at_ones_above m q ge) (sym (not_below q m ge)))
    (cases_lt q m)

-- what has the members of X alone: the conjunction with a test that all of them pass
pub both_absorbs : (a b : Bool) → (a ≡ true → b ≡ true) → (a && b) ≡ a
both_absorbs a b f = grind arith

-- a set of numbers below m loses nothing to the set of all of them
pub intersection-all_below : (X m : ℕ) → Within X (all_below m) → intersection X (all_below m) ≡ X
intersection-all_below X m within = same_set _ _ (λ q. rw has-intersection (both_absorbs _ _ (within q)))

-- a number of k bits has its members below k
pub within-all_below : (X k : ℕ) → X < 2 ^ k → Within X (all_below k)
unfolding has
within-all_below X k fits p h =
    rw has-all_below
    (⊎_elim (λ (lt : p < k). lt-ltb p k lt)
    (λ (ge : k ≤ p). let e : bit_at X p ≡ 0 = bit_at_above X k p fits ge in absurd (true≢false (sym h ∙ rw e refl)))
    (cases_lt p k))

bool_impl : (a b : Bool) → (a && not b) ≡ false → a ≡ true → b ≡ true
bool_impl a b e h = grind arith

and_none : (a b : Bool) → (a ≡ true → b ≡ true) → (a && not b) ≡ false
and_none a b f = grind arith

pub within-and_not : (X Y : ℕ) → X < 2 ^ 64 → Y < 2 ^ 64 → IsTrue (nat_eq (bit_and X (2 ^ 64 - 1 - Y)) 0) → Within X Y
within-and_not X Y p q e n h =
    let zero_is : bit_and X (2 ^ 64 - 1 - Y) ≡ 0 = eqb-true _ 0 e in
    bool_impl _ _ (rw (← has-minus X Y n p q, zero_is) (has-zero n)) h

pub and_not-within : (X Y : ℕ) → X < 2 ^ 64 → Y < 2 ^ 64 → Within X Y → IsTrue (nat_eq (bit_and X (2 ^ 64 - 1 - Y)) 0)
and_not-within X Y p q w =
    eq-eqb _ 0 (same_set _ 0 (λ n. rw (has-minus X Y n p q, has-zero n) (and_none _ _ (w n))))

is_zero : (x : ℕ) → x < 2 → nat_eq x 0 ≡ not (nat_eq x 1)
is_zero x p = grind arith

-- the test `(n >> p >> 1) & 1 == 0`
pub has-next : (X p : ℕ) → nat_eq (bit_and (X / 2 ^ p / 2) 1) 0 ≡ not (has X (p + 1))
unfolding has
has-next X p =
    let next : X / 2 ^ p / 2 ≡ X / 2 ^ (p + 1) = div-div-eq-div-mul X (2 ^ p) 2
    ∙ ap (λ (n : ℕ). X / n) (mul_comm (2 ^ p) 2 ∙ sym (pow-succ' 2 p) ∙ ap (λ (n : ℕ). 2 ^ n) (sym (add-one p))) in
    rw (next, shr_and_one X (p + 1)) (is_zero _ (bit_at-lt X (p + 1)))

pub has-with_member : (X p q : ℕ) → has (with_member X p) q ≡ (has X q || nat_eq q p)
unfolding with_member
has-with_member X p q = rw (has-or X (2 ^ p) q, has-pow p q) refl

-- of two bits, where the second is one only with the first, their sum is one just where the first alone is
xor_taken : (x y : ℕ) → x < 2 → y < 2 → nat_eq ((x + min x y) % 2) 1 ≡ (nat_eq x 1 && not (nat_eq y 1))
xor_taken x y p q = grind arith

pub has-without_member : (X p q : ℕ) → has (without_member X p) q ≡ (has X q && not (nat_eq q p))
unfolding has without_member
has-without_member X p q =
    rw (bit_at_xor X (bit_and X (2 ^ p)) q, bit_at_and X (2 ^ p) q, xor_taken _ _ (bit_at-lt X q) (bit_at-lt (2 ^ p) q), has-pow p q) refl

-- a set and one member more
module _ (X Y p : ℕ) (added : (q : ℕ) → has Y q ≡ (has X q || nat_eq q p)) where
  pub added_here : IsTrue (has Y p)
  added_here = added p ∙ or_right (has X p) (nat_eq p p) (eq-eqb p p refl)

  pub added_keeps : (q : ℕ) → IsTrue (has X q) → IsTrue (has Y q)
  added_keeps q h = added q ∙ or_left (has X q) (nat_eq q p) h

  pub added_cases : (q : ℕ) → IsTrue (has Y q) → IsTrue (has X q) ⊎ (q ≡ p)
  added_cases q h = elim (or_cases (has X q) (nat_eq q p) (sym (added q) ∙ h)) [
    | inl before ↦ inl before
    | inr here ↦ inr (eqb-true q p here)
  ]
