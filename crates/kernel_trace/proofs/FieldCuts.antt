-- The first field of some bytes, cut off.
use Rattle.std.proofs.Common.{◌≡◌, ℕ, ◌-◌, ◌<◌, ◌⊎◌, true, false, not, List, [], ◌∷◌, length, take, drop, filter, refl, sym, ap, ◌∙◌, subst}
use Rattle.std.proofs.Common.{inl, inr, arith, length-drop}
use Rattle.std.specs.List.{slice_split, onto_first, position_or_len}
use Rattle.std.proofs.lemmas.Bool.{cases_Bool}
use Rattle.std.proofs.lemmas.List.Splits.{slice_split-cons_yes, slice_split-cons_no}
use Rattle.text_fields.specs.Lines.{fields_of, is_blank, is_nothing}
use Rattle.kernel_trace.specs.Reading.{is_visible, IsFirstField}
use Rattle.kernel_trace.proofs.Positions.{position_here, position_later}

-- the pieces of a line that have bytes
abbrev kept : List (List ℕ) → List (List ℕ)
kept pieces = filter (λ piece. not (is_nothing piece)) pieces

after_blank : (b : ℕ) (bs : List ℕ) → is_blank b ≡ true → fields_of (b ∷ bs) ≡ fields_of bs
after_blank b bs blank = ap kept (slice_split-cons_yes is_blank b bs blank)

-- what stands after the blanks has the same fields, and begins with none
pub fields_after_blanks : (bytes : List ℕ) → fields_of bytes ≡ fields_of (drop (position_or_len is_visible bytes) bytes)
fields_after_blanks [] = refl
fields_after_blanks (b ∷ bs) = elim (cases_Bool (is_blank b)) [
  | inl blank ↦ (
      let hidden : is_visible b ≡ false = ap not blank in
      let later : drop (position_or_len is_visible (b ∷ bs)) (b ∷ bs)
      ≡ drop (position_or_len is_visible bs) bs = ap (λ (n : ℕ). drop n (b ∷ bs)) (position_later is_visible b bs hidden) in
      after_blank b bs blank ∙ fields_after_blanks bs ∙ sym (ap fields_of later))
  | inr visible ↦ (
      let seen : is_visible b ≡ true = ap not visible in
      sym (ap (λ (n : ℕ). fields_of (drop n (b ∷ bs))) (position_here is_visible b bs seen)))
]

begins_visible : (bytes : List ℕ) → (drop (position_or_len is_visible bytes) bytes ≡ [])
    ⊎ ((x : ℕ) × (xs : List ℕ) × (drop (position_or_len is_visible bytes) bytes ≡ x ∷ xs) × (is_blank x ≡ false))
begins_visible [] = inl refl
begins_visible (b ∷ bs) = elim (cases_Bool (is_blank b)) [
  | inl blank ↦ (
      let hidden : is_visible b ≡ false = ap not blank in
      let later : drop (position_or_len is_visible (b ∷ bs)) (b ∷ bs)
      ≡ drop (position_or_len is_visible bs) bs = ap (λ (n : ℕ). drop n (b ∷ bs)) (position_later is_visible b bs hidden) in
      elim (begins_visible bs) [
        | inl none ↦ inl (later ∙ none)
        | inr some ↦ inr (some.0, some.1, later ∙ some.2, some.3)
      ])
  | inr visible ↦ (
      let seen : is_visible b ≡ true = ap not visible in
      inr (b, bs, ap (λ (n : ℕ). drop n (b ∷ bs)) (position_here is_visible b bs seen), visible))
]

-- the bytes before the first blank are the first piece, and the others are those of the rest
abbrev IsCut : List ℕ → List (List ℕ) → Type 0
IsCut bytes more =
    (slice_split is_blank bytes ≡ take (position_or_len is_blank bytes) bytes ∷ more)
    × (kept more ≡ fields_of (drop (position_or_len is_blank bytes) bytes))

cut : (bytes : List ℕ) → (more : List (List ℕ)) × IsCut bytes more
cut [] = ([], (refl, refl))
cut (b ∷ bs) = elim (cases_Bool (is_blank b)) [
  | inl blank ↦ (
      let none = position_here is_blank b bs blank in (
        slice_split is_blank bs,
        (
          slice_split-cons_yes is_blank b bs blank ∙ ap (λ (n : ℕ). take n (b ∷ bs) ∷ slice_split is_blank bs)
              (sym none),
          sym (after_blank b bs blank) ∙ ap (λ (n : ℕ). fields_of (drop n (b ∷ bs))) (sym none),
        ),
      ))
  | inr visible ↦ (
      let more = position_later is_blank b bs visible in
      let rest = cut bs in (
        rest.0,
        (
          slice_split-cons_no is_blank b bs visible ∙ ap (onto_first b) rest.1.0
              ∙ ap (λ (n : ℕ). take n (b ∷ bs) ∷ rest.0) (sym more),
          rest.1.1 ∙ ap (λ (n : ℕ). fields_of (drop n (b ∷ bs))) (sym more),
        ),
      ))
]

-- a field that begins with a visible byte
first_visible : (x : ℕ) (xs : List ℕ) → is_blank x ≡ false
    → (fields_of (x ∷ xs) ≡ take (position_or_len is_blank (x ∷ xs)) (x ∷ xs)
    ∷ fields_of (drop (position_or_len is_blank (x ∷ xs)) (x ∷ xs)))
    × (0 < position_or_len is_blank (x ∷ xs))
first_visible x xs visible =
    let more = position_later is_blank x xs visible in
    let parts = cut (x ∷ xs) in
    let n : ℕ = position_or_len is_blank (x ∷ xs) in
    let some : kept (take n (x ∷ xs) ∷ parts.0) ≡ take n (x ∷ xs) ∷ kept parts.0 =
    subst (λ (k : ℕ). kept (take k (x ∷ xs) ∷ parts.0) ≡ take k (x ∷ xs) ∷ kept parts.0) (sym more) refl in
    (ap kept parts.1.0 ∙ some ∙ ap (λ (others : List (List ℕ)). take n (x ∷ xs) ∷ others) parts.1.1, omega (arith, more))

pub no_field : (bytes from : List ℕ) (start : ℕ) → start ≡ position_or_len is_visible bytes → from ≡ drop start bytes → length from ≡ 0
    → fields_of bytes ≡ []
no_field bytes [] start at cut none = fields_after_blanks bytes ∙ ap (λ (n : ℕ). fields_of (drop n bytes)) (sym at) ∙ sym (ap fields_of cut)
no_field bytes (x ∷ xs) start at cut none = absurd (omega arith)

pub first_field_is : (bytes from field rest : List ℕ) (start end : ℕ) → start ≡ position_or_len is_visible bytes → from ≡ drop start bytes
    → end ≡ position_or_len is_blank from → field ≡ take end from → rest ≡ drop end from → 0 < length from → IsFirstField bytes field rest
first_field_is bytes from field rest start end at cut_from to field_is rest_is some =
    let whole : from ≡ drop (position_or_len is_visible bytes) bytes = cut_from ∙ ap (λ (n : ℕ). drop n bytes) at in
    elim (begins_visible bytes) [
      | inl none ↦ (let nothing : length from ≡ 0 = ap length (whole ∙ none) in absurd (omega arith))
      | inr found ↦ (
          let x = found.0 in let xs = found.1 in
          let same : from ≡ x ∷ xs = whole ∙ found.2 in
          let parts = first_visible x xs found.3 in
          let ends : end ≡ position_or_len is_blank (x ∷ xs) = to ∙ ap (position_or_len is_blank) same in
          let field_same : take (position_or_len is_blank (x ∷ xs)) (x ∷ xs)
          ≡ field = sym (field_is ∙ ap (take end) same ∙ ap (λ (n : ℕ). take n (x ∷ xs)) ends) in
          let rest_same : drop (position_or_len is_blank (x ∷ xs)) (x ∷ xs)
          ≡ rest = sym (rest_is ∙ ap (drop end) same ∙ ap (λ (n : ℕ). drop n (x ∷ xs)) ends) in
          record {
            first =
                fields_after_blanks bytes ∙ sym (ap fields_of whole) ∙ ap fields_of same ∙ parts.0
                ∙ ap (λ (one : List ℕ). one ∷ fields_of (drop (position_or_len is_blank (x ∷ xs)) (x ∷ xs))) field_same
                ∙ ap (λ (one : List ℕ). field ∷ fields_of one) rest_same;
            shorter = (
                let cut_length : length rest ≡ length from - end = ap length rest_is ∙ length-drop end from in
                let from_length : length from ≡ length bytes - start = ap length cut_from ∙ length-drop start bytes in
                let least = parts.1 in
                omega (arith, cut_length, from_length, least, ends, some));
          })
    ]
