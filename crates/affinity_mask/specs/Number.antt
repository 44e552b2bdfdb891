-- Numbers as text. A number is written by one or more digits, and leading zeros are no
-- fault; its canonical text has none.
use Rattle.std.specs.Prelude.{ℕ, List, decimal}
use Rattle.std.specs.Str.Parse.{IsNumeral, digits_value}

-- one or more digits
abbrev pub IsNumber : List ℕ → Type 0
IsNumber text = IsNumeral 10 text

-- the decimal value of the digits, however many there are
abbrev pub number_value : List ℕ → ℕ
number_value text = digits_value 10 text

-- the digits of a number, without a leading zero but for zero itself
abbrev pub canonical_number : ℕ → List ℕ
canonical_number n = decimal n
