-- Tests that at most one number passes.
use Rattle.std.proofs.Common.{◌≡◌, ◌≢◌, ℕ, zero, suc, ◌<◌, Bool, true, false, cond, List, [], ◌∷◌, length, get_or, filter, refl, sym, ap}
use Rattle.std.proofs.Common.{◌∙◌, subst, inl, inr, arith}
use Rattle.std.specs.Prelude.{Contains}
use Rattle.std.specs.List.{range_with_len}
use Rattle.std.proofs.lemmas.Bool.{cases_eq, cases_Bool, true≢false, false_from_ne_true}
use Rattle.std.proofs.lemmas.List.{get_or_default}
use Rattle.std.proofs.lemmas.List.FromFn.{get_or-range_with_len, length-range_with_len}
use Rattle.strong_apa.specs.Chain.{IsSimple}
use Rattle.strong_apa.proofs.Simple.{IsSimple-head, IsSimple-tail}
use Rattle.strong_apa.proofs.Touched.{contains_later}

contains_none : (q : ℕ) → Contains {X = ℕ} [] q → ⊥
contains_none q c = let lt = c.1 in omega arith

contains_rest : (x : ℕ) (rest : List ℕ) (q : ℕ) → Contains (x ∷ rest) q → q ≢ x → Contains rest q
contains_rest x rest q c ne = go c.0 c.1 c.2
  where
    go : (k : ℕ) → k < length (x ∷ rest) → get_or (x ∷ rest) k q ≡ q → Contains rest q
    go zero lt here = absurd (ne (sym here))
    go (suc k) lt later = (k, omega arith, later)

pub contains_one : (x q : ℕ) → Contains (x ∷ []) q → q ≡ x
contains_one x q c = elim (cases_eq q x) [
  | inl same ↦ same
  | inr other ↦ absurd (contains_none q (contains_rest x [] q c other))
]

-- the first of a list that repeats none is not in the rest
first_alone : (x : ℕ) (rest : List ℕ) → IsSimple (x ∷ rest) → Contains rest x → ⊥
first_alone x rest simple c = IsSimple-head x rest simple c.0 c.1 (get_or_default rest c.0 0 x c.1 ∙ c.2)

filter_none : (test : ℕ → Bool) (xs : List ℕ) → ((q : ℕ) → test q ≡ false) → filter test xs ≡ []
filter_none test [] fails = refl
filter_none test (x ∷ xs) fails = rw (fails x) (filter_none test xs fails)

filter_absent : (test : ℕ → Bool) (xs : List ℕ) → ((q : ℕ) → Contains xs q → test q ≡ false) → filter test xs ≡ []
filter_absent test [] fails = refl
filter_absent test (x ∷ xs) fails = rw (fails x (0, omega arith, refl)) (filter_absent test xs (λ q c. fails q (contains_later x xs q c)))

filter_one : (test : ℕ → Bool) (xs : List ℕ) (x : ℕ) → IsSimple xs → Contains xs x → test x ≡ true → ((q : ℕ) → test q ≡ true → q ≡ x)
    → filter test xs ≡ x ∷ []
filter_one test [] x simple c here alone = absurd (contains_none x c)
filter_one test (y ∷ xs) x simple c here alone = elim (cases_eq y x) [
  | inl same ↦
      let passes : test y ≡ true = ap test same ∙ here in
      let rest : filter test xs ≡ [] = filter_absent test xs
      (λ q k. false_from_ne_true (test q) (λ h. first_alone y xs simple (subst (Contains xs) (alone q h ∙ sym same) k))) in
      rw (passes, rest, same) refl
  | inr other ↦
      let fails : test y ≡ false = false_from_ne_true (test y) (λ h. other (alone y h)) in
      rw fails (filter_one test xs x (IsSimple-tail y xs simple) (contains_rest y xs x c (λ same. other (sym same))) here alone)
]

simple_range : (n : ℕ) → IsSimple (range_with_len 0 n)
simple_range n = λ i j d lt fits e.
    let count = length-range_with_len 0 n in
    let one = get_or-range_with_len 0 n i d (omega arith) in
    let other = get_or-range_with_len 0 n j d (omega arith) in
    omega arith

contains_range : (n p : ℕ) → p < n → Contains (range_with_len 0 n) p
contains_range n p lt =
    (p, (let count = length-range_with_len 0 n in omega arith), (let at = get_or-range_with_len 0 n p p lt in omega arith))

-- of the numbers below n none passes
pub passes_nowhere : (test : ℕ → Bool) (n : ℕ) → ((q : ℕ) → test q ≡ false) → filter test (range_with_len 0 n) ≡ []
passes_nowhere test n fails = filter_none test (range_with_len 0 n) fails

-- of the numbers below n none but p passes
pub passes_alone : (test : ℕ → Bool) (n p : ℕ) → p < n → ((q : ℕ) → test q ≡ true → q ≡ p) → filter test (range_with_len 0 n)
    ≡ cond (test p) (p ∷ []) []
passes_alone test n p lt alone = elim (cases_Bool (test p)) [
  | inl here ↦ filter_one test (range_with_len 0 n) p (simple_range n) (contains_range n p lt) here alone
      ∙ sym (ap (λ b. cond b (p ∷ []) []) here)
  | inr out ↦ filter_none test (range_with_len 0 n) (λ q. false_from_ne_true (test q) (λ h. true≢false (sym h ∙ ap test (alone q h) ∙ out)))
      ∙ sym (ap (λ b. cond b (p ∷ []) []) out)
]
