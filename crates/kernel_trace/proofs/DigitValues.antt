-- Digits and their values.
use Rattle.std.proofs.Common.{◌≡◌, ℕ, zero, suc, ◌+◌, ◌-◌, ◌*◌, ◌<◌, ◌≤◌, true, List, [], ◌∷◌, ◌++◌, length, take, drop, get_or, refl, sym}
use Rattle.std.proofs.Common.{ap, ◌∙◌, subst, arith, length-append, length-drop, lit<, lit≤}
use Rattle.std.specs.Prelude.{replicate, min}
use Rattle.std.specs.Char.{digit_value, is_ascii_digit}
use Rattle.std.specs.List.{list_all}
use Rattle.std.specs.Str.Parse.{AllDigits, digits_value_after}
use Rattle.std.proofs.lemmas.List.{take_all}
use Rattle.std.proofs.lemmas.Str.Parse.{digits_value_short, digits_value-take-le}
use Rattle.affinity_mask.specs.Number.{number_value}
use Rattle.affinity_mask.proofs.Numbers.{digits_model, digit-range, value-more}
use Rattle.text_fields.proofs.Words.{and_left}
use Rattle.kernel_trace.specs.Stamp.{is_number, to_nine}
use Rattle.kernel_trace.specs.Reading.{in_places}

pub number_digits : (text : List ℕ) → is_number text ≡ true → AllDigits 10 text
number_digits text is = digits_model.to text (and_left (list_all is_ascii_digit text) _ is)

-- ---- zeros
zeros : ℕ → List ℕ
zeros k = replicate k 48

digits_append : (xs ys : List ℕ) → AllDigits 10 xs → AllDigits 10 ys → AllDigits 10 (xs ++ ys)
digits_append [] ys a b = b
digits_append (x ∷ xs) ys a b = (a.0, digits_append xs ys a.1 b)

digits_zeros : (k : ℕ) → AllDigits 10 (replicate k 48)
digits_zeros zero = tt
digits_zeros (suc k) = (lit< tt, digits_zeros k)

pub length_zeros : (k : ℕ) → length {A = ℕ} (replicate k 48) ≡ k
length_zeros zero = refl
length_zeros (suc k) = omega (arith, length_zeros k)

-- zeros before a number change nothing
value_after_zeros : (k : ℕ) (text : List ℕ) → digits_value_after 10 0 (replicate k 48 ++ text) ≡ digits_value_after 10 0 text
value_after_zeros zero text = refl
value_after_zeros (suc k) text = value_after_zeros k text

-- ---- the first digits of a number, and the others
value_cut : (n m : ℕ) (text : List ℕ) → digits_value_after 10 m text ≡ digits_value_after 10 (digits_value_after 10 m (take n text))
    (drop n text)
value_cut zero m text = refl
value_cut (suc n) m [] = refl
value_cut (suc n) m (x ∷ xs) = value_cut n (m * 10 + digit_value x) xs

after_below : (xs ys : List ℕ) (m n : ℕ) → length xs ≡ length ys → AllDigits 10 xs → m < n
    → digits_value_after 10 m xs < digits_value_after 10 n ys
after_below [] [] m n e a lt = lt
after_below [] (y ∷ ys) m n e a lt = absurd (omega (arith, e))
after_below (x ∷ xs) [] m n e a lt = absurd (omega (arith, e))
after_below (x ∷ xs) (y ∷ ys) m n e a lt =
    let below : m * 10 + digit_value x < n * 10 + digit_value y = omega (arith, a.0, lt) in
    after_below xs ys (m * 10 + digit_value x) (n * 10 + digit_value y) (omega (arith, e)) a.1 below

digits_drop : (n : ℕ) (text : List ℕ) → AllDigits 10 text → AllDigits 10 (drop n text)
digits_drop zero text a = a
digits_drop (suc n) [] a = a
digits_drop (suc n) (x ∷ xs) a = digits_drop n xs a.1

-- of two numbers with as many digits that one is less whose first digits are less
pub less_by_first : (text other : List ℕ) (n : ℕ) → length text ≡ length other → AllDigits 10 text
    → number_value (take n text) < number_value (take n other) → number_value text < number_value other
less_by_first text other n same digits less =
    let one = value_cut n 0 text in
    let two = value_cut n 0 other in
    let long : length (drop n text) ≡ length (drop n other) = length-drop n text ∙ ap (λ (k : ℕ). k - n) same ∙ sym (length-drop n other) in
    let lt = after_below (drop n text) (drop n other) (number_value (take n text)) (number_value (take n other)) long
    (digits_drop n text digits) less in
    omega (arith, one, two, lt)

-- ---- nine digits
pub nine_digits : (text : List ℕ) → is_number text ≡ true → AllDigits 10 (to_nine text)
nine_digits text is = digits_append text (replicate (9 - length text) 48) (number_digits text is) (digits_zeros (9 - length text))

pub nine_length : (text : List ℕ) → length text ≤ 9 → length (to_nine text) ≡ 9
nine_length text few = omega (arith, length-append text (replicate (9 - length text) 48), length_zeros (9 - length text))

pub nine_below : (text : List ℕ) (n : ℕ) → is_number text ≡ true → length text ≤ 9 → number_value (take n (to_nine text)) < 1000000000
nine_below text n is few =
    let most = digits_value-take-le 10 (to_nine text) n (lit≤ tt) in
    let long = nine_length text few in
    let below : number_value (to_nine text) < 1000000000 = digits_value_short digits_model (to_nine text) 9
    (digits_model.from (to_nine text) (nine_digits text is)) (omega (arith, long)) in
    omega (arith, most, below)

pub nine_step : (text : List ℕ) (place nanos digit : ℕ) → is_number text ≡ true → length text ≤ 9 → place < 9
    → nanos ≡ number_value (take place (to_nine text)) → digit ≡ get_or (to_nine text) place 0 - 48
    → nanos * 10 + digit ≡ number_value (take (place + 1) (to_nine text))
nine_step text place nanos digit is few within so_far next =
    let long = nine_length text few in
    let more = value-more (to_nine text) place nanos (nine_digits text is) (omega (arith, long, within)) so_far in
    omega (arith, more, next)

-- ---- numbers in as many places
pub places_digits : (places : ℕ) (text : List ℕ) → is_number text ≡ true → AllDigits 10 (in_places places text)
places_digits places text is =
    digits_append (replicate (places - length text) 48) text (digits_zeros (places - length text)) (number_digits text is)

pub places_length : (places : ℕ) (text : List ℕ) → length text ≤ places → length (in_places places text) ≡ places
places_length places text few = omega (arith, length-append (replicate (places - length text) 48) text, length_zeros (places - length text))

pub places_value : (places : ℕ) (text : List ℕ) → number_value (in_places places text) ≡ number_value text
places_value places text = value_after_zeros (places - length text) text

places_step : (places : ℕ) (text : List ℕ) (place digit : ℕ) → is_number text ≡ true → length text ≤ places → place < places
    → digit ≡ get_or (in_places places text) place 0 - 48
    → (number_value (take place (in_places places text)) * 10 + digit ≡ number_value (take (place + 1) (in_places places text)))
    × (digit < 10)
places_step places text place digit is few within next =
    let long = places_length places text few in
    let all = places_digits places text is in
    let more = value-more (in_places places text) place _ all (omega (arith, long, within)) refl in
    let range = digit-range (in_places places text) place all (omega (arith, long, within)) in
    (omega (arith, more, next), omega (arith, range.0, range.1, next))

abbrev pub first_of : ℕ → List ℕ → ℕ → ℕ
first_of places text place = number_value (take place (in_places places text))

gap_step : (a b ahead d e most : ℕ) → 1 ≤ most → b ≤ a → ahead ≡ min (a - b) most → d < 10 → e < 10 → e ≤ ahead * 10 + d
    → (b * 10 + e ≤ a * 10 + d) × (min (ahead * 10 + d - e) most ≡ min (a * 10 + d - (b * 10 + e)) most)
gap_step a b ahead d e most some le is small little enough = (omega arith, omega arith)

gap_stop : (a b ahead d e most : ℕ) → 1 ≤ most → b ≤ a → ahead ≡ min (a - b) most → e < 10 → ahead * 10 + d < e → a * 10 + d < b * 10 + e
gap_stop a b ahead d e most some le is small less = omega arith

module _ (earlier later : List ℕ) (places place ahead d e most : ℕ) (some : 1 ≤ most) (one : is_number earlier ≡ true)
    (two : is_number later ≡ true)
    (fits : length earlier ≤ places) (room : length later ≤ places) (within : place < places)
    (le : first_of places earlier place ≤ first_of places later place)
    (is : ahead ≡ min (first_of places later place - first_of places earlier place) most)
    (to : d ≡ get_or (in_places places later) place 0 - 48) (from : e ≡ get_or (in_places places earlier) place 0 - 48) where
  pub goes_on : e ≤ ahead * 10 + d
      → (first_of places earlier (place + 1) ≤ first_of places later (place + 1))
      × (min (ahead * 10 + d - e) most ≡ min (first_of places later (place + 1) - first_of places earlier (place + 1)) most)
  goes_on enough =
      let a = places_step places later place d two room within to in
      let b = places_step places earlier place e one fits within from in
      let step = gap_step (first_of places later place) (first_of places earlier place) ahead d e most some le is a.1 b.1 enough in
      let P : ℕ → ℕ → Type 0 = λ x y. (y ≤ x) × (min (ahead * 10 + d - e) most ≡ min (x - y) most) in
      subst (λ (x : ℕ). P x (first_of places earlier (place + 1))) a.0
      (subst (P (first_of places later place * 10 + d)) b.0 step)

  pub stops : ahead * 10 + d < e → number_value later < number_value earlier
  stops less =
      let a = places_step places later place d two room within to in
      let b = places_step places earlier place e one fits within from in
      let lt = gap_stop (first_of places later place) (first_of places earlier place) ahead d e most some le is b.1 less in
      let long = places_length places later room in
      let long' = places_length places earlier fits in
      let below : number_value (in_places places later) < number_value (in_places places earlier) =
      less_by_first (in_places places later) (in_places places earlier) (place + 1) (long ∙ sym long') (places_digits places later two)
      (omega (arith, a.0, b.0, lt)) in
      omega (arith, below, places_value places later, places_value places earlier)

-- all places were taken
pub all_places : (places : ℕ) (text : List ℕ) → length text ≤ places → first_of places text places ≡ number_value text
all_places places text few =
    let long = places_length places text few in
    ap number_value (take_all places (in_places places text) (omega (arith, long))) ∙ places_value places text

pub all_nine : (text : List ℕ) → length text ≤ 9 → number_value (take 9 (to_nine text)) ≡ number_value (to_nine text)
all_nine text few = let long = nine_length text few in ap number_value (take_all 9 (to_nine text) (omega (arith, long)))

-- one digit more, where great numbers are all one
pub capped_step : (v number e r w most : ℕ) → number ≡ min v most → v * 10 + e ≡ w → r ≡ min (number * 10 + e) most → r ≡ min w most
capped_step v number e r w most is more next = omega arith
