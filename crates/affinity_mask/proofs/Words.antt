-- What a word's `trailing_zeros` and `count_ones` say of the set that it stands for.
use Rattle.std.proofs.Common.{◌≡◌, ℕ, zero, suc, ◌+◌, ◌%◌, ◌^◌, ◌<◌, ◌≤◌, nat_eq, refl, sym, ap, ap₂, ◌∙◌, add_comm, lit<, arith, ⊎_elim}
use Rattle.std.proofs.Common.{w64, [], ◌∷◌, length, length-append, if◌then◌else◌}
use Rattle.std.proofs.lemmas.Bool.{cases_lt, true≢false}
use Rattle.std.specs.Int.{bit_at, trailing_zeros}
use Rattle.std.proofs.lemmas.Nat.{ones_cat, pow_pos}
use Rattle.std.proofs.lemmas.Nat.Bits.{bit_at-lt, bit_at-trailing_zeros}
use Rattle.std.proofs.Math.Nat.{mod-lt, mod-eq_of_lt, mod-one, pow-succ'}
use lib.Arith.{mod-mul}
use lib.Count.{ones}
use Rattle.affinity_mask.specs.ProcSet.{has, passing_below, members, IsLeastMember}

pub trailing_below : (X : ℕ) → 0 < X → X < 2 ^ 64 → trailing_zeros w64 X < 64
trailing_below X pos fits = (bit_at-trailing_zeros w64 X pos fits).0

pub trailing-least : (X : ℕ) → 0 < X → X < 2 ^ 64 → IsLeastMember X (trailing_zeros w64 X)
unfolding has
trailing-least X pos fits =
    let place = bit_at-trailing_zeros w64 X pos fits in (
      rw (place.1) refl,
      λ q h. ⊎_elim
          (λ (lt : q < trailing_zeros w64 X). let e : bit_at X q ≡ 0 = place.2 q lt in absurd (true≢false (sym h ∙ rw e refl)))
          (λ (ge : trailing_zeros w64 X ≤ q). ge)
          (cases_lt q (trailing_zeros w64 X)),
    )

-- one bit counts as the list of its place, where it is set
ones-bit : (b k : ℕ) → b < 2 → ones b ≡ length (if nat_eq b 1 then k ∷ [] else [])
unfolding ones
ones-bit zero k lt = refl
ones-bit (suc zero) k lt = refl
ones-bit (suc (suc b)) k lt = absurd (omega arith)

-- the ones of the lowest k bits are the members below k
ones-below : (X k : ℕ) → ones (X % 2 ^ k) ≡ length (passing_below (has X) k)
unfolding ones has passing_below
ones-below X zero = ap ones (mod-one X)
ones-below X (suc k) =
    ap (λ (w : ℕ). ones (X % w)) (pow-succ' 2 k)
    ∙ ap ones (mod-mul X {m = 2} {c = 2 ^ k} (lit< tt) (pow_pos k))
    ∙ ones_cat k (bit_at X k) (X % 2 ^ k) (mod-lt X (pow_pos k))
    ∙ ap₂ (λ (a b : ℕ). a + b) (ones-bit (bit_at X k) k (bit_at-lt X k)) (ones-below X k)
    ∙ add_comm _ _
    ∙ sym (length-append (passing_below (has X) k) (if has X k then k ∷ [] else []))

pub ones-members : (X : ℕ) → X < 2 ^ 64 → ones X ≡ length (members X)
ones-members X fits = ap ones (sym (mod-eq_of_lt fits)) ∙ ones-below X 64
