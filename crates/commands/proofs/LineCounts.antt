-- How many lines there are with one byte more before them.
use Rattle.std.proofs.Common.{◌≡◌, ◌≢◌, ℕ, ◌+◌, ◌<◌, ◌==◌, Bool, true, false, List, [], ◌∷◌, length, refl, sym, ap, ◌∙◌, arith, eq-eqb}
use Rattle.std.proofs.Common.{ne_eqb}
use Rattle.std.specs.Prelude.{if◌then◌else◌}
use Rattle.std.specs.List.{onto_first}
use Rattle.text_fields.specs.Lines.{lines_of}

-- a line is begun where there is none
begun : (b : Bool) (byte : ℕ) (lines : List (List ℕ)) → length lines ≡ 0 → length (if b then [] ∷ lines else onto_first byte lines) ≡ 1
begun true byte [] none = refl
begun false byte [] none = refl
begun b byte (line ∷ lines) none = absurd (omega (arith, none))

-- the first line has a byte more
longer : (byte : ℕ) (lines : List (List ℕ)) → 0 < length lines → length (onto_first byte lines) ≡ length lines
longer byte [] some = absurd (omega (arith, some))
longer byte (line ∷ lines) some = refl

pub first_line_begins : (byte : ℕ) (rest : List ℕ) (count : ℕ) → count ≡ length (lines_of rest) → count ≡ 0
    → count + 1 ≡ length (lines_of (byte ∷ rest))
first_line_begins byte rest count is none =
    let one = begun (byte == 10) byte (lines_of rest) (sym is ∙ none) in
    omega (arith, none, one)

pub line_ends : (byte : ℕ) (rest : List ℕ) (count : ℕ) → count ≡ length (lines_of rest) → byte ≡ 10
    → count + 1 ≡ length (lines_of (byte ∷ rest))
line_ends byte rest count is feed =
    let more : length ([] ∷ lines_of rest) ≡ length (lines_of (byte ∷ rest)) =
    ap (λ (b : Bool). length (if b then [] ∷ lines_of rest else onto_first byte (lines_of rest))) (sym (eq-eqb byte 10 feed)) in
    omega (arith, is, more)

pub line_goes_on : (byte : ℕ) (rest : List ℕ) (count : ℕ) → count ≡ length (lines_of rest) → count ≢ 0 → byte ≢ 10
    → count ≡ length (lines_of (byte ∷ rest))
line_goes_on byte rest count is some no_feed =
    let same : length (onto_first byte (lines_of rest)) ≡ length (lines_of (byte ∷ rest)) =
    ap (λ (b : Bool). length (if b then [] ∷ lines_of rest else onto_first byte (lines_of rest))) (sym (ne_eqb byte 10 no_feed)) in
    let as_many = longer byte (lines_of rest) (omega (arith, is, some)) in
    omega (arith, is, same, as_many)
