-- How many processors a set lacks.
use Rattle.std.proofs.Common.{◌≡◌, ◌≢◌, ℕ, zero, suc, ◌+◌, ◌-◌, ◌<◌, ◌≤◌, Bool, true, false, not, ◌||◌, ◌&&◌, nat_eq, IsTrue, refl, sym, ap}
use Rattle.std.proofs.Common.{◌∙◌, inl, inr, ◌⊎◌, arith, eq-eqb, ne_eqb, cond}
use Rattle.std.proofs.Math.Bool.{or-false, and-false, and-true}
use Rattle.std.proofs.lemmas.Bool.{cases_eq, or_right}
use Rattle.affinity_mask.specs.ProcSet.{has}

-- how many of the n numbers from a on the set lacks
unfoldable pub lacking : ℕ → ℕ → ℕ → ℕ
lacking X a zero = 0
lacking X a (suc n) = cond (has X a) 0 1 + lacking X (a + 1) n

-- how many of the 64 processors the set lacks
unfoldable pub rest_of : ℕ → ℕ
rest_of X = lacking X 0 64

module _ (X Y p : ℕ) (added : (q : ℕ) → has Y q ≡ (has X q || nat_eq q p)) (fresh : has X p ≡ false) where
  elsewhere : (q : ℕ) → q ≢ p → has Y q ≡ has X q
  elsewhere q ne = added q ∙ ap (λ b. has X q || b) (ne_eqb q p ne) ∙ or-false (has X q)

  lacking-past : (a n : ℕ) → p < a → lacking Y a n ≡ lacking X a n
  unfolding lacking
  lacking-past a zero past = refl
  lacking-past a (suc n) past = rw (elsewhere a (omega arith), lacking-past (a + 1) n (omega arith)) refl

  lacking-less : (a n : ℕ) → a ≤ p → p < a + n → lacking Y a n < lacking X a n
  unfolding lacking
  lacking-less a zero low high = absurd (omega arith)
  lacking-less a (suc n) low high = go (cases_eq a p) (lacking-less (a + 1) n)
    where
      go : (a ≡ p) ⊎ (a ≡ p → ⊥) → (a + 1 ≤ p → p < a + 1 + n → lacking Y (a + 1) n < lacking X (a + 1) n)
          → lacking Y a (suc n) < lacking X a (suc n)
      go (inl e) later =
          let there : has Y a ≡ true = ap (has Y) e ∙ added p ∙ or_right (has X p) (nat_eq p p) (eq-eqb p p refl) in
          let out : has X a ≡ false = ap (has X) e ∙ fresh in
          rw (there, out, lacking-past (a + 1) n (omega arith)) (omega arith)
      go (inr ne) later = let less = later (omega arith) (omega arith) in rw (elsewhere a ne) (omega arith)

  -- a processor more is one less that is lacking
  pub rest_falls : p < 64 → rest_of Y < rest_of X
  unfolding rest_of
  rest_falls below = lacking-less 0 64 (omega arith) (omega arith)

lacking-most : (X a n : ℕ) → lacking X a n ≤ n
unfolding lacking
lacking-most X a zero = omega arith
lacking-most X a (suc n) = go (has X a) (lacking-most X (a + 1) n)
  where
    go : (b : Bool) → lacking X (a + 1) n ≤ n → cond b 0 1 + lacking X (a + 1) n ≤ suc n
    go true later = omega arith
    go false later = omega arith

-- a processor of a set is taken away: the set lacks one more
pub rest_grows : (X Y p : ℕ) → ((q : ℕ) → has Y q ≡ (has X q && not (nat_eq q p))) → IsTrue (has X p) → p < 64
    → 64 - rest_of Y < 64 - rest_of X
unfolding rest_of
rest_grows X Y p fewer here below =
    let less : rest_of X < rest_of Y = rest_falls Y X p added gone below in
    let most : rest_of Y ≤ 64 = lacking-most Y 0 64 in
    omega arith
  where
    again : (q : ℕ) → (q ≡ p) ⊎ (q ≡ p → ⊥) → has X q ≡ (has Y q || nat_eq q p)
    again q (inl e) = ap (has X) e ∙ here ∙ sym (ap (λ b. has Y q || b) (eq-eqb q p e) ∙ or_right (has Y q) true refl)
    again q (inr ne) = sym (ap (λ b. has Y q || b) (ne_eqb q p ne) ∙ or-false (has Y q) ∙ fewer q
        ∙ ap (λ b. has X q && not b) (ne_eqb q p ne) ∙ and-true (has X q))

    added : (q : ℕ) → has X q ≡ (has Y q || nat_eq q p)
    added q = again q (cases_eq q p)

    gone : has Y p ≡ false
    gone = fewer p ∙ ap (λ b. has X p && not b) (eq-eqb p p refl) ∙ and-false (has X p)
