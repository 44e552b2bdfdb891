-- The first line feed of some bytes cuts them.
use Rattle.std.proofs.Common.{◌≡◌, ℕ, zero, suc, ◌<◌, Option, Some, None, MatchOption, List, [], ◌∷◌, ◌++◌, length, take, drop, get_or}
use Rattle.std.proofs.Common.{Contains, refl, sym, ap, ◌∙◌, arith, eq-eqb, eqb-true, add-one}
use Rattle.std.proofs.lemmas.List.{get_or-take, length-take-le}
use Rattle.memchr.specs.Find.{IsFirstByte, is_byte}
use Rattle.text_fields.specs.LineEnd.{IsLineEnd}

cut_at : (bytes : List ℕ) (end x : ℕ) → end < length bytes → get_or bytes end 0 ≡ x
    → bytes ≡ take end bytes ++ x ∷ drop (suc end) bytes
cut_at [] end x within e = absurd (omega arith)
cut_at (b ∷ bs) zero x within e = ap (λ (y : ℕ). y ∷ bs) e
cut_at (b ∷ bs) (suc end) x within e =
    ap (λ (rest : List ℕ). b ∷ rest) (cut_at bs end x (omega arith) e)

-- within a list it does not matter what stands for what is past its end
same_at : (bytes : List ℕ) (k d other : ℕ) → k < length bytes → get_or bytes k d ≡ get_or bytes k other
same_at [] k d other within = absurd (omega arith)
same_at (b ∷ bs) zero d other within = refl
same_at (b ∷ bs) (suc k) d other within = same_at bs k d other (omega arith)

pub line_end_is : (bytes : List ℕ) (result : Option ℕ) → IsFirstByte (is_byte 10) bytes result
    → MatchOption result (Contains bytes 10 → ⊥) (IsLineEnd bytes)
line_end_is bytes None nowhere = λ (k, within, e).
    nowhere k (omega arith) within (eq-eqb (get_or bytes k 0) 10 (same_at bytes k 0 10 within ∙ e))
line_end_is bytes (Some end) (place, here) = record {
  within = place.high;
  cut =
      cut_at bytes end 10 place.high (eqb-true (get_or bytes end 0) 10 here)
      ∙ ap (λ (k : ℕ). take end bytes ++ 10 ∷ drop k bytes) (sym (add-one end));
  first = none;
}
  where
    none : Contains (take end bytes) 10 → ⊥
    none (k, within, e) =
        let long : length (take end bytes) ≡ end = (let high = place.high in length-take-le end bytes (omega arith)) in
        let before : k < end = omega arith in
        let inside : k < length bytes = (let high = place.high in omega arith) in
        place.before k (omega arith) before
        (eq-eqb (get_or bytes k 0) 10
        (same_at bytes k 0 10 inside ∙ sym (get_or-take end bytes k 10 before) ∙ e))
