-- Lines that are read one after another.
use Rattle.std.proofs.Common.{◌≡◌, ◌≢◌, ℕ, ◌<◌, List, [], ◌∷◌, ◌++◌, length, false, refl, ap, inl, inr, arith, rules, length-append}
use Rattle.std.proofs.Common.{Contains}
use Rattle.std.proofs.lemmas.List.Elements.{Contains-append_right}
use Rattle.std.proofs.lemmas.Bool.{cases_Bool}
use Rattle.text_fields.specs.Lines.{is_line_feed, lines_of}
use Rattle.text_fields.specs.Cut.{IsFirstLine}

no_feed : (b : ℕ) → (b ≡ 10 → ⊥) → is_line_feed b ≡ false
no_feed b ne = elim (cases_Bool (is_line_feed b)) [
  | inl feed ↦ absurd (ne (search rules))
  | inr other ↦ other
]

-- a line that a line feed ends
line_ended : (line rest : List ℕ) → (Contains line 10 → ⊥) → lines_of (line ++ 10 ∷ rest) ≡ line ∷ lines_of rest
line_ended [] rest none = refl
line_ended (b ∷ line) rest none =
    let other = no_feed b (λ e. none (0, omega arith, e)) in
    let after = line_ended line rest (λ h. none (Contains-append_right (b ∷ []) line 10 h)) in
    rw (other, after) refl

-- a last line that none ends
line_last : (b : ℕ) (line : List ℕ) → (Contains (b ∷ line) 10 → ⊥) → lines_of (b ∷ line) ≡ (b ∷ line) ∷ []
line_last b [] none = let other = no_feed b (λ e. none (0, omega arith, e)) in rw other refl
line_last b (c ∷ line) none =
    let other = no_feed b (λ e. none (0, omega arith, e)) in
    let after = line_last c line (λ h. none (Contains-append_right (b ∷ []) (c ∷ line) 10 h)) in
    rw (other, after) refl

-- the first line is the first of the lines
pub first_of_lines : (bytes line rest : List ℕ) → bytes ≢ [] → IsFirstLine bytes line rest → lines_of bytes ≡ line ∷ lines_of rest
first_of_lines bytes line rest some (inl ended) = rw ended.0 (line_ended line rest ended.1)
first_of_lines [] line rest some (inr last) = absurd (some refl)
first_of_lines (b ∷ bytes) line rest some (inr last) = rw (last.0, last.1) (line_last b bytes last.2)

pub rest_is_shorter : (bytes line rest : List ℕ) → bytes ≢ [] → IsFirstLine bytes line rest → length rest < length bytes
rest_is_shorter bytes line rest some (inl ended) = omega (arith, ap length ended.0, length-append line (10 ∷ rest))
rest_is_shorter [] line rest some (inr last) = absurd (some refl)
rest_is_shorter (b ∷ bytes) line rest some (inr last) = omega (arith, ap length last.1)
