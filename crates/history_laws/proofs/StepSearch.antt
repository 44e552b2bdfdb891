-- The set of the numbers below a bound that have a property.
use Rattle.std.proofs.Common.{◌≡◌, ℕ, zero, suc, ◌<◌, ◌^◌, ◌||◌, bit_or, refl, sym, ap, ◌∙◌, subst, inl, inr, ◌↔◌, IsTrue, arith}
use Rattle.std.proofs.lemmas.Bool.{cases_lt}
use Rattle.affinity_mask.specs.ProcSet.{has, empty}
use Rattle.affinity_mask.proofs.Sets.{has-or, has-pow, added_here, added_keeps, added_cases}
use Rattle.affinity_mask.proofs.Meetings.{no_member}
use Rattle.strong_apa.proofs.Least.{Decided}

module _ (P : ℕ → Type 0) (decided : (x : ℕ) → Decided (P x)) where
  -- the set of the numbers below n with the property
  pub set_below : (n : ℕ) → (X : ℕ) × ((q : ℕ) → IsTrue (has X q) ↔ ((q < n) × P q))
  set_below zero = (empty, λ q. (λ h. absurd (no_member empty q refl h), λ h. absurd (let lt = h.0 in omega arith)))
  set_below (suc n) = go (set_below n) (decided n)
    where
      go : (X : ℕ) × ((q : ℕ) → IsTrue (has X q) ↔ ((q < n) × P q)) → Decided (P n)
          → (X : ℕ) × ((q : ℕ) → IsTrue (has X q) ↔ ((q < suc n) × P q))
      go (X, is) (inl here) =
          let Y = bit_or X (2 ^ n) in
          let added = λ (q : ℕ). has-or X (2 ^ n) q ∙ ap (λ b. has X q || b) (has-pow n q) in (
            Y,
            λ q. (
              λ h. elim (added_cases X Y n added q h) [
                | inl before ↦ (let old = (is q).0 before in ((let lt = old.0 in omega arith), old.1))
                | inr e ↦ (omega arith, subst P (sym e) here)
              ],
              λ h. elim (cases_lt q n) [
                | inl lt ↦ added_keeps X Y n added q ((is q).1 (lt, h.1))
                | inr ge ↦ (let e : n ≡ q = (let lt = h.0 in omega arith) in subst (λ (x : ℕ). IsTrue (has Y x)) e (added_here X Y n added))
              ],
            ),
          )
      go (X, is) (inr fails) = (
        X,
        λ q. (
          λ h. (let old = (is q).0 h in ((let lt = old.0 in omega arith), old.1)),
          λ h. elim (cases_lt q n) [
            | inl lt ↦ (is q).1 (lt, h.1)
            | inr ge ↦ absurd (fails (let e : q ≡ n = (let lt = h.0 in omega arith) in subst P e (h.1)))
          ],
        ),
      )
