-- What can be found among finitely many numbers: whether one has a property, and the first one that has it.
use Rattle.std.proofs.Common.{◌≡◌, ℕ, zero, suc, ◌<◌, ◌≤◌, sym, subst, inl, inr, ◌⊎◌, arith, Option, Some, None, refl}
use Rattle.std.proofs.lemmas.Bool.{cases_lt}
use Rattle.strong_apa.proofs.Least.{Decided}

-- of the numbers below n with a property, one that comes before all of them, or there is none
abbrev pub FirstBelow : (ℕ → Type 0) → (ℕ → ℕ → Type 0) → ℕ → Type 0
FirstBelow P Before n = ((x : ℕ) × (x < n) × P x × ((y : ℕ) → y < n → P y → Before x y)) ⊎ ((y : ℕ) → y < n → P y → ⊥)

module _ (P : ℕ → Type 0) (decided : (x : ℕ) → Decided (P x)) where
  module _ (Before : ℕ → ℕ → Type 0) (total : (x y : ℕ) → Before x y ⊎ Before y x) (transitive : (x y z : ℕ) → Before x y → Before y z
      → Before x z) where
    before_itself : (x : ℕ) → Before x x
    before_itself x = elim (total x x) [ inl h ↦ h | inr h ↦ h ]

    -- a number below n + 1 is below n, or is n
    upto : (n : ℕ) (Q : ℕ → Type 0) → ((y : ℕ) → y < n → P y → Q y) → (P n → Q n) → (y : ℕ) → y < suc n → P y → Q y
    upto n Q lower last y lt h = elim (cases_lt y n) [
      | inl below ↦ lower y below h
      | inr ge ↦ (let e : n ≡ y = omega arith in subst Q e (last (subst P (sym e) h)))
    ]

    pub first_below : (n : ℕ) → FirstBelow P Before n
    first_below zero = inr (λ y lt. absurd (omega arith))
    first_below (suc n) = go (first_below n) (decided n)
      where
        go : FirstBelow P Before n → Decided (P n) → FirstBelow P Before (suc n)
        go (inl found) (inl here) = elim (total found.0 n) [
          | inl stays ↦ inl (found.0, (let lt = found.1 in omega arith), found.2, upto n (Before found.0) found.3 (λ h. stays))
          | inr new ↦ inl (
            n,
            omega arith,
            here,
            upto n (Before n) (λ y lt h. transitive n found.0 y new (found.3 y lt h))
                (λ h. before_itself n),
          )
        ]
        go (inl found) (inr fails) =
            inl (found.0, (let lt = found.1 in omega arith), found.2, upto n (Before found.0) found.3 (λ h. absurd (fails h)))
        go (inr none) (inl here) = inl (n, omega arith, here, upto n (Before n) (λ y lt h. absurd (none y lt h)) (λ h. before_itself n))
        go (inr none) (inr fails) = inr (upto n (λ y. ⊥) none fails)

  -- whether some number below n has the property
  pub exists_below : (n : ℕ) → Decided ((x : ℕ) × (x < n) × P x)
  exists_below n = elim (first_below (λ x y. x ≤ y) either (λ x y z le more. omega arith) n) [
    | inl found ↦ inl (found.0, found.1, found.2)
    | inr none ↦ inr (λ h. none h.0 h.1 h.2)
  ]
    where
      either : (x y : ℕ) → (x ≤ y) ⊎ (y ≤ x)
      either x y = elim (cases_lt x y) [ inl lt ↦ inl (omega arith) | inr ge ↦ inr ge ]

-- two properties together
pub both_decided : (P Q : Type 0) → Decided P → Decided Q → Decided (P × Q)
both_decided P Q (inl p) (inl q) = inl (p, q)
both_decided P Q (inl p) (inr fails) = inr (λ h. fails h.1)
both_decided P Q (inr fails) q = inr (λ h. fails h.0)

pub nobody_decided : (o : Option ℕ) → Decided (o ≡ None)
nobody_decided None = inl refl
nobody_decided (Some u) = inr (λ e. cc)
