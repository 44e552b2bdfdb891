-- Numbers as text: what tests of their digits say of their values.
use Rattle.std.proofs.Common.{rules, ◌≡◌, ◌≢◌, ℕ, zero, suc, ◌+◌, ◌*◌, ◌-◌, ◌<◌, ◌≤◌, Bool, true, false, cond, nat_eq, nat_lt, List, []}
use Rattle.std.proofs.Common.{◌∷◌, length, drop, get_or, refl, sym, ◌∙◌, ap, arith, ⊎_elim, eq-eqb, ne_eqb, IsTrue, ◌↔◌, Some, take}
use Rattle.std.specs.Char.{digit_value, is_ascii_digit}
use Rattle.std.specs.List.{list_all, AllWithin, HoldsAt}
use Rattle.std.specs.Str.Parse.{AllDigits, digits_value, digits_value_after}
use Rattle.std.specs.Int.{IsInRange}
use Rattle.std.specs.Ordering.{nat_cmp, is_gt, is_some_and}
use Rattle.std.specs.Cmp.Lexicographic.{slice_partial_cmp}
use Rattle.std.proofs.lemmas.Bool.{cases_eq, cases_lt, lt-ltb, ltb-true}
use Rattle.std.proofs.lemmas.Bool.Decides.{nat_tests}
use Rattle.std.proofs.lemmas.Cmp.{same_from_slice_cmp_tested}
use Rattle.std.proofs.lemmas.Int.Digits.{digits_value_more}
use Rattle.std.proofs.lemmas.List.{get_or-drop}
use Rattle.std.proofs.lemmas.Slice.{between_to_end}
use Rattle.std.proofs.lemmas.Str.{digit_value_digit}
use Rattle.std.proofs.lemmas.Str.Parse.{IsNumeralModel, numerals_by_value, digit_from_value, digit_at}
use Rattle.affinity_mask.specs.Number.{number_value}
use Rattle.affinity_mask.specs.ListSteps.{IsSignificant}

-- ---- tests

pub digits_model : IsNumeralModel (λ ds. list_all is_ascii_digit ds ≡ true) (digits_value 10)
digits_model = numerals_by_value _ (search rules)

-- a digit is its value above '0'
pub digit_is : (c : ℕ) → digit_value c < 10 → digit_value c + 48 ≡ c
digit_is c small = digit_value_digit c (digit_from_value c small)

digit_pos : (c : ℕ) → digit_value c < 10 → c ≢ 48 → 0 < digit_value c
digit_pos c small ne = omega (arith, digit_is c small)

-- ---- values of texts of one length

-- what goes on from a lesser number stays lesser
pub after_below : (xs ys : List ℕ) (m n : ℕ) → length xs ≡ length ys → AllDigits 10 xs → m < n
    → digits_value_after 10 m xs < digits_value_after 10 n ys
after_below [] [] m n e a lt = lt
after_below [] (y ∷ ys) m n e a lt = absurd (omega (arith, e))
after_below (x ∷ xs) [] m n e a lt = absurd (omega (arith, e))
after_below (x ∷ xs) (y ∷ ys) m n e a lt =
    let below : m * 10 + digit_value x < n * 10 + digit_value y = omega (arith, a.0, lt) in
    after_below xs ys (m * 10 + digit_value x) (n * 10 + digit_value y) (omega (arith, e)) a.1 below

-- what goes on from a number above zero is greater than what is not longer
after_longer : (xs ys : List ℕ) (n : ℕ) → length xs ≤ length ys → AllDigits 10 xs → 0 < n
    → digits_value_after 10 0 xs < digits_value_after 10 n ys
after_longer xs [] n le a pos = after_below xs [] 0 n (omega arith) a pos
after_longer xs (y ∷ ys) n le a pos =
    ⊎_elim
    (λ (e : length xs ≡ length (y ∷ ys)). after_below xs (y ∷ ys) 0 n e a pos)
    (λ (ne : length xs ≢ length (y ∷ ys)). after_longer xs ys (n * 10 + digit_value y) (omega arith) a (omega arith))
    (cases_eq (length xs) (length (y ∷ ys)))

-- of two numbers whose first digits are not zero the longer one is greater
pub longer_is_above : (xs ys : List ℕ) → length xs < length ys → AllDigits 10 xs → AllDigits 10 ys → (0 < length ys → get_or ys 0 0 ≢ 48)
    → digits_value 10 xs < digits_value 10 ys
longer_is_above xs [] lt a b first = absurd (omega arith)
longer_is_above xs (y ∷ ys) lt a b first =
    let pos : 0 < digit_value y = digit_pos y b.0 (first (omega arith)) in
    after_longer xs ys (0 * 10 + digit_value y) (omega arith) a (omega arith)

-- whether the first pair of different bytes is greater on the left, and else whether the left is longer
pub is_above_by_bytes : List ℕ → List ℕ → Bool
is_above_by_bytes [] ys = false
is_above_by_bytes (x ∷ xs) [] = true
is_above_by_bytes (x ∷ xs) (y ∷ ys) = cond (nat_eq x y) (is_above_by_bytes xs ys) (nat_lt y x)

-- of two digits the greater has the greater value
digit_above : (x y : ℕ) → digit_value x < 10 → digit_value y < 10 → x < y → digit_value x < digit_value y
digit_above x y p q lt = omega (arith, digit_is x p, digit_is y q)

not_below : (x y : ℕ) → y ≤ x → nat_lt x y ≡ false
not_below x y le = grind arith

-- two numbers of one length compare as their digits do
after_compared : (xs ys : List ℕ) (m : ℕ) → length xs ≡ length ys → AllDigits 10 xs → AllDigits 10 ys
    → is_above_by_bytes xs ys ≡ nat_lt (digits_value_after 10 m ys) (digits_value_after 10 m xs)
unfolding is_above_by_bytes
after_compared [] [] m e a b = sym (not_below m m (omega arith))
after_compared [] (y ∷ ys) m e a b = absurd (omega (arith, e))
after_compared (x ∷ xs) [] m e a b = absurd (omega (arith, e))
after_compared (x ∷ xs) (y ∷ ys) m e a b =
    let long : length xs ≡ length ys = omega (arith, e) in
    let u : ℕ = m * 10 + digit_value x in
    let v : ℕ = m * 10 + digit_value y in
    ⊎_elim
    (λ (same : x ≡ y). rw (eq-eqb x y same) (after_compared xs ys u long a.1 b.1
    ∙ ap (λ (d : ℕ). nat_lt (digits_value_after 10 (m * 10 + digit_value d) ys) (digits_value_after 10 u xs)) same))
    (λ (ne : x ≢ y). rw (ne_eqb x y ne)
    (⊎_elim
    (λ (lt : y < x).
    let less : v < u = omega (arith, digit_above y x b.0 a.0 lt) in
    lt-ltb y x lt ∙ sym (lt-ltb _ _ (after_below ys xs v u (sym long) b.1 less)))
    (λ (ge : x ≤ y).
    let less : u < v = omega (arith, digit_above x y a.0 b.0 (omega arith)) in
    let result : digits_value_after 10 u xs < digits_value_after 10 v ys = after_below xs ys u v long a.1 less in
    not_below y x ge ∙ sym (not_below _ _ (omega (arith, result))))
    (cases_lt y x)))
    (cases_eq x y)

pub compared : (xs ys : List ℕ) → length xs ≡ length ys → AllDigits 10 xs → AllDigits 10 ys
    → is_above_by_bytes xs ys ≡ nat_lt (digits_value 10 ys) (digits_value 10 xs)
compared xs ys e a b = after_compared xs ys 0 e a b

-- ---- leading zeros

-- zeros in front add nothing
pub zeros_dropped : (n : ℕ) (ds : List ℕ) → n ≤ length ds → ((k : ℕ) → k < n → get_or ds k 0 ≡ 48)
    → digits_value 10 (drop n ds) ≡ digits_value 10 ds
zeros_dropped zero ds le zeros = refl
zeros_dropped (suc n) [] le zeros = absurd (omega arith)
zeros_dropped (suc n) (d ∷ ds) le zeros =
    let first : d ≡ 48 = zeros 0 (omega arith) in
    let rest : digits_value 10 (drop n ds) ≡ digits_value 10 ds = zeros_dropped n ds (omega arith) (λ k lt. zeros (suc k) (omega arith)) in
    rest ∙ sym (ap (λ (c : ℕ). digits_value_after 10 (0 * 10 + digit_value c) ds) first)

-- the digits that are left behind some are digits
pub AllDigits-drop : (n : ℕ) (ds : List ℕ) → AllDigits 10 ds → AllDigits 10 (drop n ds)
AllDigits-drop zero ds a = a
AllDigits-drop (suc n) [] a = a
AllDigits-drop (suc n) (d ∷ ds) a = AllDigits-drop n ds a.1

all_zeros : (ds : List ℕ) → ((k : ℕ) → k < length ds → get_or ds k 0 ≡ 48) → digits_value 10 ds ≡ 0
all_zeros [] zeros = refl
all_zeros (d ∷ ds) zeros =
    ap (λ (c : ℕ). digits_value_after 10 (0 * 10 + digit_value c) ds) (zeros 0 (omega arith))
    ∙ all_zeros ds (λ k lt. zeros (suc k) (omega arith))

pub significant-at : (number : List ℕ) (at : ℕ) → AllDigits 10 number → at < length number → HoldsAt (λ d. d ≢ 48) number at
    → AllWithin (λ d. d ≡ 48) number 0 at → IsSignificant number (take (length number - at) (drop at number))
significant-at number at a inside here before =
    let rest : take (length number - at) (drop at number) ≡ drop at number = between_to_end number at (length number) (omega arith) in
    rw rest (record {
      same_value = zeros_dropped at number (omega arith) (λ k lt. before k 0 (omega arith) lt);
      all_digits = AllDigits-drop at number a;
      first = λ _ h. let same : at ≡ at + 0 = omega arith in
          here 0 (ap (λ (k : ℕ). get_or number k 0) same ∙ sym (get_or-drop at number 0 0) ∙ h);
    })

pub significant-none : (number : List ℕ) → AllWithin (λ d. d ≡ 48) number 0 (length number) → IsSignificant number []
significant-none number zeros = record {
  same_value = sym (all_zeros number (λ k lt. zeros k 0 (omega arith) lt));
  all_digits = tt;
  first = λ h. absurd (omega (arith, h));
}

-- ---- which of two numbers is above

pub above-longer : (number other ds es : List ℕ) → IsSignificant number ds → IsSignificant other es → length es < length ds
    → number_value other < number_value number
above-longer number other ds es p q lt =
    omega (arith, p.same_value, q.same_value, longer_is_above es ds lt q.all_digits p.all_digits p.first)

bytes_compared : (xs ys : List ℕ) (r : Bool) → r ≡ is_some_and is_gt (slice_partial_cmp (λ x y. Some (nat_cmp x y)) xs ys)
    → r ≡ is_above_by_bytes xs ys
unfolding is_above_by_bytes
bytes_compared =
    same_from_slice_cmp_tested nat_cmp is_gt is_above_by_bytes refl (λ _ _. refl) (λ _ _. refl) (λ x y xs ys o h. grind (arith, nat_tests))

pub above-compared : (number other ds es : List ℕ) (r : Bool) → IsSignificant number ds → IsSignificant other es → length ds ≡ length es
    → r ≡ is_some_and is_gt (slice_partial_cmp (λ x y. Some (nat_cmp x y)) ds es) → IsTrue r ↔ (number_value other < number_value number)
above-compared number other ds es r p q long e =
    let test : r ≡ nat_lt (number_value other) (number_value number) =
    rw (← p.same_value, ← q.same_value) (bytes_compared ds es r e ∙ compared ds es long p.all_digits q.all_digits) in
    (λ yes. ltb-true _ _ (sym test ∙ yes), λ lt. test ∙ lt-ltb _ _ lt)

-- ---- the value digit by digit

pub digit-range : (number : List ℕ) (i : ℕ) → AllDigits 10 number → i < length number → IsInRange 48 57 (get_or number i 0)
digit-range number i a lt = digit_at number i a lt

pub value-more : (number : List ℕ) (i v : ℕ) → AllDigits 10 number → i < length number → v ≡ number_value (take i number)
    → v * 10 + (get_or number i 0 - 48) ≡ number_value (take (i + 1) number)
value-more number i v a lt e =
    omega (arith, e, digits_value_more 10 number i lt, digit_value_digit (get_or number i 0) (digit_at number i a lt))
