use Rattle.std.proofs.Common.{◌≡◌, ◌∷◌, [], ℕ, List, length, get_or, ◌≤◌, ◌<◌, ◌+◌, ◌-◌, refl, sym, ap, ◌∙◌, arith}
use Rattle.std.proofs.lemmas.Fmt.{decimal_digit}
use Rattle.schedule_text.proofs.field.one_digit.Goals as goal

-- the one byte of a field
one_byte : (field : List ℕ) → 1 ≤ length field → length field < 2 → field ≡ get_or field 0 0 ∷ []
one_byte [] some few = absurd (omega arith)
one_byte (x ∷ []) some few = refl
one_byte (x ∷ y ∷ field) some few = absurd (omega arith)

pub returns-then-value-most : goal.returns-then-value-most
returns-then-value-most c =
    let field = c.args.field.now in
    let digit = get_or field 0 0 in
    let is = rw c.if-not-is_ascii_digit.false at c.is_ascii_digit.ensures.cases in
    let above : digit ≡ 48 + (digit - 48) = omega (arith, is) in
    record {
      range = (omega arith, omega arith);
      is_text = one_byte field c.in-len1.len_at_least c.in-len1.len_below
          ∙ ap (λ (byte : ℕ). byte ∷ []) above ∙ sym (decimal_digit (digit - 48) (omega (arith, is)));
    }
