-- Numbers of the formats: digits of any count, with leading zeros.
use Rattle.std.specs.Prelude.{◌≡◌, ℕ, ◌≤◌, List}
use Rattle.affinity_mask.specs.Number.{IsNumber, number_value}

-- the text is a number of this value
abbrev pub IsNumberOf : List ℕ → ℕ → Type 0
IsNumberOf text n = IsNumber text × (number_value text ≡ n)

-- the text is a number of this value, which stands between these bounds
abbrev pub IsNumberWithin : ℕ → ℕ → List ℕ → ℕ → Type 0
IsNumberWithin least most text n = IsNumberOf text n × (least ≤ n) × (n ≤ most)
