-- Bytes are cut into lines, and are these lines put together.
use Rattle.std.proofs.Common.{◌≡◌, ◌≢◌, ℕ, zero, suc, List, [], ◌∷◌, ◌++◌, Contains, refl, ap, ◌∙◌, inl, inr, arith, ne_eqb}
use Rattle.std.specs.List.{flat_map}
use Rattle.std.proofs.lemmas.Bool.{cases_eq}
use Rattle.std.proofs.lemmas.List.Elements.{Contains-append_right}
use Rattle.schedule_text.specs.LineOutcome.{Piece, Line, Unended, piece_bytes, onto_piece, pieces_of}

-- each piece but the last is a line, and none has a line feed in it
abbrev pub IsCut : List Piece → Type 0
IsCut [] = Unit {0}
IsCut (Line text ∷ rest) = (Contains text 10 → ⊥) × IsCut rest
IsCut (Unended text ∷ rest) = (Contains text 10 → ⊥) × (text ≢ []) × (rest ≡ [])

not_first : (byte : ℕ) (text : List ℕ) → byte ≢ 10 → (Contains text 10 → ⊥) → Contains (byte ∷ text) 10 → ⊥
not_first byte text other none (zero, within, same) = other same
not_first byte text other none (suc k, within, same) = none (k, omega (arith, within), same)

onto_cut : (byte : ℕ) (pieces : List Piece) → byte ≢ 10 → IsCut pieces → IsCut (onto_piece byte pieces)
onto_cut byte [] other cut =
    (not_first byte [] other (λ here. absurd (omega (arith, here.1))), λ e. cc, refl)
onto_cut byte (Line text ∷ rest) other cut = (not_first byte text other cut.0, cut.1)
onto_cut byte (Unended text ∷ rest) other cut = (not_first byte text other cut.0, λ e. cc, cut.2)

pub pieces_cut : (bytes : List ℕ) → IsCut (pieces_of bytes)
pieces_cut [] = tt
pieces_cut (byte ∷ rest) = elim (cases_eq byte 10) [
  | inl feed ↦ rw feed (λ here. absurd (omega (arith, here.1)), pieces_cut rest)
  | inr other ↦ rw (ne_eqb byte 10 other) (onto_cut byte (pieces_of rest) other (pieces_cut rest))
]

onto_bytes : (byte : ℕ) (pieces : List Piece) → flat_map piece_bytes (onto_piece byte pieces) ≡ byte ∷ flat_map piece_bytes pieces
onto_bytes byte [] = refl
onto_bytes byte (Line text ∷ rest) = refl
onto_bytes byte (Unended text ∷ rest) = refl

pub pieces_back : (bytes : List ℕ) → flat_map piece_bytes (pieces_of bytes) ≡ bytes
pieces_back [] = refl
pieces_back (byte ∷ rest) = elim (cases_eq byte 10) [
  | inl feed ↦ rw feed (ap (λ (back : List ℕ). 10 ∷ back) (pieces_back rest))
  | inr other ↦ rw (ne_eqb byte 10 other)
      (onto_bytes byte (pieces_of rest) ∙ ap (λ (back : List ℕ). byte ∷ back) (pieces_back rest))
]

-- ---- the first piece

-- a line that a line feed ends
pub line_piece : (text rest : List ℕ) → (Contains text 10 → ⊥) → pieces_of (text ++ 10 ∷ rest) ≡ Line text ∷ pieces_of rest
line_piece [] rest none = refl
line_piece (byte ∷ text) rest none =
    let other = ne_eqb byte 10 (λ e. none (0, omega arith, e)) in
    let after = line_piece text rest (λ here. none (Contains-append_right (byte ∷ []) text 10 here)) in
    rw (other, after) refl

-- bytes that none ends
pub unended_piece : (byte : ℕ) (text : List ℕ) → (Contains (byte ∷ text) 10 → ⊥) → pieces_of (byte ∷ text) ≡ Unended (byte ∷ text) ∷ []
unended_piece byte [] none = let other = ne_eqb byte 10 (λ e. none (0, omega arith, e)) in rw other refl
unended_piece byte (next ∷ text) none =
    let other = ne_eqb byte 10 (λ e. none (0, omega arith, e)) in
    let after = unended_piece next text (λ here. none (Contains-append_right (byte ∷ []) (next ∷ text) 10 here)) in
    rw (other, after) refl

-- some bytes have a first piece
pub first_piece : (bytes : List ℕ) → bytes ≢ [] → (piece : Piece) × (more : List Piece) × (pieces_of bytes ≡ piece ∷ more)
first_piece [] some = absurd (some refl)
first_piece (byte ∷ rest) some = elim (cases_eq byte 10) [
  | inl feed ↦ (Line [], pieces_of rest, rw feed refl)
  | inr other ↦ rw (ne_eqb byte 10 other) (onto_some byte (pieces_of rest))
]
  where
    onto_some : (byte : ℕ) (pieces : List Piece) → (piece : Piece) × (more : List Piece) × (onto_piece byte pieces ≡ piece ∷ more)
    onto_some byte [] = (_, _, refl)
    onto_some byte (Line text ∷ rest) = (_, _, refl)
    onto_some byte (Unended text ∷ rest) = (_, _, refl)
