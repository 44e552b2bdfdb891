-- Lists of stints, sorted by their numbers.
use Rattle.std.proofs.Common.{◌≡◌, ◌≢◌, ℕ, ◌+◌, ◌<◌, ◌≤◌, ◌⊎◌, ◌&&◌, eqb, cond, Bool, true, false, List, [], ◌∷◌, sym, refl, ap, ◌∙◌, subst}
use Rattle.std.proofs.Common.{inl, inr, ⊎_elim, arith, eq-eqb, ne_eqb, lt-ltb, le-ltb}
use Rattle.std.specs.Prelude.{nat_lt}
use mathlib.Core.Logic.{dite}
use native.Mathlib.Decide.{ℕ_discrete, dec_le}
use Rattle.task_set.specs.Orders.{Stint}
use Rattle.task_set.specs.Context.{with_stint, stints_of_task}
use Rattle.context_slots.specs.HandOver.{of_task, IsNumbered}
use Rattle.task_set.specs.Sum.{total}
use Rattle.context_slots.specs.Homes.{StintsAreTheLog}

abbrev AtLeast : ℕ → List Stint → Type 0
AtLeast n [] = Unit {0}
AtLeast n (s ∷ ss) = (n ≤ s.number) × AtLeast n ss

abbrev Sorted : List Stint → Type 0
Sorted [] = Unit {0}
Sorted (s ∷ ss) = AtLeast s.number ss × Sorted ss

abbrev Has : Stint → List Stint → Type 0
Has e [] = ⊥
Has e (s ∷ ss) = (s ≡ e) ⊎ Has e ss

-- by cases on an order of two numbers
ordered : (a b : ℕ) (P : Bool → Type 0) → (a < b → P true) → (b ≤ a → P false) → P (nat_lt a b)
ordered a b P less rest = dite (dec_le b a) (λ h. subst P (sym (le-ltb a b h)) (rest h))
    (λ h. let lt : a < b = omega arith in subst P (sym (lt-ltb a b lt)) (less lt))

equal : (a b : ℕ) (P : Bool → Type 0) → (a ≡ b → P true) → (a ≢ b → P false) → P (eqb a b)
equal a b P hit miss = dite (ℕ_discrete a b) (λ e. subst P (sym (eq-eqb a b e)) (hit e)) (λ ne. subst P (sym (ne_eqb a b ne)) (miss ne))

total_with : (h : Stint → ℕ) (s : Stint) (l : List Stint) → total h (with_stint s l) ≡ h s + total h l
total_with h s [] = omega arith
total_with h s (x ∷ xs) = let ih = total_with h s xs in
    ordered s.number x.number (λ b. total h (cond b (s ∷ x ∷ xs) (x ∷ with_stint s xs)) ≡ h s + (h x + total h xs)) (λ _. refl)
    (λ _. omega (arith, ih))

total_of : (t : ℕ) (h : Stint → ℕ) (all : List Stint) → total h (stints_of_task t all) ≡ total (of_task t h) all
total_of t h [] = refl
total_of t h (x ∷ xs) = let ih = total_of t h xs in let w = total_with h x (stints_of_task t xs) in
    equal x.task t (λ b. total h (cond b (with_stint x (stints_of_task t xs)) (stints_of_task t xs)) ≡ cond b (h x) 0
    + total (of_task t h) xs) (λ _. omega (arith, ih, w)) (λ _. omega (arith, ih))

at_least_less : (m n : ℕ) (l : List Stint) → m ≤ n → AtLeast n l → AtLeast m l
at_least_less m n [] le h = tt
at_least_less m n (x ∷ xs) le h = (omega (arith, h.0), at_least_less m n xs le h.1)

at_least_with : (m : ℕ) (s : Stint) (l : List Stint) → m ≤ s.number → AtLeast m l → AtLeast m (with_stint s l)
at_least_with m s [] le h = (le, tt)
at_least_with m s (x ∷ xs) le h = let ih = at_least_with m s xs le h.1 in
    ordered s.number x.number (λ b. AtLeast m (cond b (s ∷ x ∷ xs) (x ∷ with_stint s xs))) (λ _. (le, (h.0, h.1))) (λ _. (h.0, ih))

sorted_with : (s : Stint) (l : List Stint) → Sorted l → Sorted (with_stint s l)
sorted_with s [] h = (tt, tt)
sorted_with s (x ∷ xs) h = let ih = sorted_with s xs h.1 in
    ordered s.number x.number (λ b. Sorted (cond b (s ∷ x ∷ xs) (x ∷ with_stint s xs)))
    (λ lt. let le : s.number ≤ x.number = omega arith in ((le, at_least_less s.number x.number xs le h.0), (h.0, h.1)))
    (λ le. (at_least_with x.number s xs le h.0, ih))

sorted_of : (t : ℕ) (all : List Stint) → Sorted (stints_of_task t all)
sorted_of t [] = tt
sorted_of t (x ∷ xs) = let ih = sorted_of t xs in
    equal x.task t (λ b. Sorted (cond b (with_stint x (stints_of_task t xs)) (stints_of_task t xs)))
    (λ _. sorted_with x (stints_of_task t xs) ih) (λ _. ih)

-- whether two stints are one
abbrev same_units : List ℕ → List ℕ → Bool
same_units [] [] = true
same_units [] (b ∷ bs) = false
same_units (a ∷ rest) [] = false
same_units (a ∷ rest) (b ∷ bs) = eqb a b && same_units rest bs

abbrev same : Stint → Stint → Bool
same a b = eqb a.task b.task && (eqb a.number b.number && (eqb a.processor b.processor && same_units a.units b.units))

both : (a b : Bool) → (a && b) ≡ true → (a ≡ true) × (b ≡ true)
both true b h = (refl, h)
both false b h = absurd (cc h)

both_true : (a b : Bool) → a ≡ true → b ≡ true → (a && b) ≡ true
both_true true b h g = g
both_true false b h g = absurd (cc h)

is_equal : (a b : ℕ) → eqb a b ≡ true → a ≡ b
is_equal a b = equal a b (λ c. c ≡ true → a ≡ b) (λ e _. e) (λ _ h. absurd (cc h))

units_equal : (a b : List ℕ) → same_units a b ≡ true → a ≡ b
units_equal [] [] h = refl
units_equal [] (b ∷ bs) h = absurd (cc h)
units_equal (a ∷ rest) [] h = absurd (cc h)
units_equal (a ∷ rest) (b ∷ bs) h = let t = both (eqb a b) (same_units rest bs) h in λ i. (is_equal a b t.0 i) ∷ (units_equal rest bs t.1 i)

units_same : (a : List ℕ) → same_units a a ≡ true
units_same [] = refl
units_same (a ∷ rest) = both_true (eqb a a) (same_units rest rest) (eq-eqb a a refl) (units_same rest)

same_equal : (a b : Stint) → same a b ≡ true → a ≡ b
same_equal a b h =
    let p = both (eqb a.task b.task) _ h in
    let q = both (eqb a.number b.number) _ p.1 in
    let r = both (eqb a.processor b.processor) _ q.1 in
    λ i. record {
      task = is_equal a.task b.task p.0 i;
      number = is_equal a.number b.number q.0 i;
      processor = is_equal a.processor b.processor r.0 i;
      units = units_equal a.units b.units r.1 i;
    }

same_itself : (a : Stint) → same a a ≡ true
same_itself a = both_true (eqb a.task a.task) _ (eq-eqb a.task a.task refl)
    (both_true (eqb a.number a.number) _ (eq-eqb a.number a.number refl)
    (both_true (eqb a.processor a.processor) _ (eq-eqb a.processor a.processor refl) (units_same a.units)))

abbrev is_one : Stint → Stint → ℕ
is_one e x = cond (same x e) 1 0

abbrev is_low : ℕ → Stint → ℕ
is_low n x = cond (nat_lt x.number n) 1 0

abbrev is_at : ℕ → Stint → ℕ
is_at n x = cond (eqb x.number n) 1 0

found : (e : Stint) (l : List Stint) → 1 ≤ total (is_one e) l → Has e l
found e [] h = absurd (omega (arith, h))
found e (x ∷ xs) h = by (same x e) refl (found e xs) h
  where
    by : (b : Bool) → same x e ≡ b → (1 ≤ total (is_one e) xs → Has e xs) → 1 ≤ is_one e x + total (is_one e) xs → Has e (x ∷ xs)
    by true is later h = inl (same_equal x e is)
    by false is later h = inr (later (let z : is_one e x ≡ 0 = ap (λ (b : Bool). cond b 1 0) is in omega (arith, z, h)))

low_at_least : (n : ℕ) (l : List Stint) → total (is_low n) l ≡ 0 → AtLeast n l
low_at_least n [] h = tt
low_at_least n (x ∷ xs) h = ordered x.number n (λ b. cond b 1 0 + total (is_low n) xs ≡ 0 → AtLeast n (x ∷ xs))
    (λ _ z. absurd (omega (arith, z))) (λ le z. (le, low_at_least n xs (omega (arith, z)))) h

numbered_low : (t m n : ℕ) (l : List Stint) → m ≤ n → IsNumbered t n l → total (is_low m) l ≡ 0
numbered_low t m n [] le h = refl
numbered_low t m n (x ∷ xs) le h = let ih = numbered_low t m (n + 1) xs (omega arith) h.2 in
    ordered x.number m (λ b. cond b 1 0 + total (is_low m) xs ≡ 0) (λ lt. absurd (omega (arith, h.1))) (λ _. omega (arith, ih))

numbered_at : (t m n : ℕ) (l : List Stint) → m < n → IsNumbered t n l → total (is_at m) l ≡ 0
numbered_at t m n [] lt h = refl
numbered_at t m n (x ∷ xs) lt h = let ih = numbered_at t m (n + 1) xs (omega arith) h.2 in
    equal x.number m (λ b. cond b 1 0 + total (is_at m) xs ≡ 0) (λ e. absurd (omega (arith, h.1))) (λ _. omega (arith, ih))

has_at : (e : Stint) (l : List Stint) → Has e l → 1 ≤ total (is_at e.number) l
has_at e [] h = absurd h
has_at e (x ∷ xs) h = ⊎_elim (λ (is : x ≡ e). let one : is_at e.number x
    ≡ 1 = ap (λ (b : Bool). cond b 1 0) (eq-eqb x.number e.number (ap (λ (s : Stint). s.number) is)) in omega (arith, one))
    (λ (d : Has e xs). omega (arith, has_at e xs d)) h

has_at_least : (e : Stint) (n : ℕ) (l : List Stint) → AtLeast n l → Has e l → n ≤ e.number
has_at_least e n [] a h = absurd h
has_at_least e n (x ∷ xs) a h =
    ⊎_elim (λ (is : x ≡ e). omega (arith, a.0, ap (λ (s : Stint). s.number) is)) (λ (d : Has e xs). has_at_least e n xs a.1 d) h

-- a sorted list that has the weights of a numbered one is that one
one_list : (t n : ℕ) (log l : List Stint) → IsNumbered t n log → Sorted l → ((h : Stint → ℕ) → total h l ≡ total h log) → l ≡ log
one_list t n [] [] num sorted eq = refl
one_list t n [] (x ∷ xs) num sorted eq = absurd (omega (arith, eq (λ _. 1)))
one_list t n (e ∷ es) [] num sorted eq =
    let one : is_one e e ≡ 1 = ap (λ (b : Bool). cond b 1 0) (same_itself e) in absurd (omega (arith, eq (is_one e), one))
one_list t n (e ∷ es) (x ∷ xs) num sorted eq =
    let one : is_one e e ≡ 1 = ap (λ (b : Bool). cond b 1 0) (same_itself e) in
    let there : Has e (x ∷ xs) = found e (x ∷ xs) (omega (arith, eq (is_one e), one)) in
    let low : AtLeast n (x ∷ xs) = low_at_least n (x ∷ xs) (eq (is_low n) ∙ numbered_low t n n (e ∷ es) (omega arith) num) in
    let first : x ≡ e = ⊎_elim (λ (is : x ≡ e). is) (λ (d : Has e xs).
    let near : x.number ≤ e.number = has_at_least e x.number xs sorted.0 d in
    let at : x.number ≡ e.number = omega (arith, near, low.0, num.1) in
    let here : is_at e.number x ≡ 1 = ap (λ (b : Bool). cond b 1 0) (eq-eqb x.number e.number at) in
    let there_too = has_at e xs d in
    let only : total (is_at e.number) es ≡ 0 = numbered_at t e.number (n + 1) es (omega (arith, num.1)) num.2 in
    let own : is_at e.number e ≡ 1 = ap (λ (b : Bool). cond b 1 0) (eq-eqb e.number e.number refl) in
    absurd (omega (arith, eq (is_at e.number), here, there_too, only, own))) there in
    let rest : (h : Stint → ℕ) → total h xs ≡ total h es = λ h. omega (arith, eq h, ap h first) in
    λ i. (first i) ∷ (one_list t (n + 1) es xs num.2 sorted.1 rest i)

pub stints_are_the_log : StintsAreTheLog
stints_are_the_log t all log num eq = one_list t 0 log (stints_of_task t all) num (sorted_of t all) (λ h. total_of t h all ∙ eq h)
