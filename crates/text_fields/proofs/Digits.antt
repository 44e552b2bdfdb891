-- Numbers that are read digit by digit: why a text is no number within two bounds.
use Rattle.std.proofs.Common.{◌≡◌, ℕ, ◌+◌, ◌*◌, ◌-◌, ◌<◌, List, length, get_or, take, arith}
use Rattle.std.specs.Int.{IsInRange, IsOutOfRange}
use Rattle.std.proofs.lemmas.Int.Digits.{digits_value_more}
use Rattle.std.proofs.lemmas.Str.{digit_value_digit}
use Rattle.std.proofs.lemmas.Str.Parse.{digits_value-take-le}
use Rattle.affinity_mask.specs.Number.{number_value}
use Rattle.affinity_mask.proofs.Numbers.{digit-range, value-more}
use Rattle.text_fields.specs.Number.{IsNumberWithin}

-- a byte of it is no digit
pub other_byte : (field : List ℕ) (i least most : ℕ) → i < length field → IsOutOfRange 48 57 (get_or field i 0)
    → (n : ℕ) → IsNumberWithin least most field n → ⊥
other_byte field i least most within other n number =
    let digit = digit-range field i number.0.0.1 within in grind (arith, digit.0, digit.1, other)

-- its first digits have a value above the greater bound
pub too_large : (field : List ℕ) (i v least most : ℕ) → i < length field → v ≡ number_value (take i field)
    → most < v * 10 + (get_or field i 0 - 48) → (n : ℕ) → IsNumberWithin least most field n → ⊥
too_large field i v least most within value above n number =
    omega (
      arith,
      above,
      number.0.1,
      number.2,
      value-more field i v number.0.0.1 within value,
      digits_value-take-le 10 field (i + 1) (omega arith),
    )

-- ---- one digit more

pub value_with : (field : List ℕ) (i v : ℕ) → i < length field → v ≡ number_value (take i field)
    → IsInRange 48 57 (get_or field i 0) → v * 10 + (get_or field i 0 - 48) ≡ number_value (take (i + 1) field)
value_with field i v within value digit =
    omega (arith, value, digits_value_more 10 field i within, digit_value_digit (get_or field i 0) digit)
