-- Times of a trace's own clock as they are written: whole seconds as a canonical number, a point,
-- and six digits; `-` where there is no time.
use Rattle.std.specs.Prelude.{ℕ, ◌+◌, ◌/◌, ◌%◌, List, [], ◌∷◌, ◌++◌, codes, Option, Some, None}
use Rattle.affinity_mask.specs.Number.{canonical_number}

-- the last digit of a number
abbrev pub last_digit : ℕ → ℕ
last_digit n = 48 + n % 10

-- its last six digits
unfoldable pub six_digits : ℕ → List ℕ
six_digits n =
    last_digit (n / 100000) ∷ last_digit (n / 10000) ∷ last_digit (n / 1000) ∷ last_digit (n / 100)
    ∷ last_digit (n / 10) ∷ last_digit n ∷ []

-- whole seconds and the microseconds that are left
unfoldable pub time_text : ℕ → ℕ → List ℕ
time_text seconds left = canonical_number seconds ++ codes "." ++ six_digits left

-- the microseconds of a clock, where there are some
abbrev pub stamp_text : Option ℕ → List ℕ
stamp_text None = codes "-"
stamp_text (Some micros) = time_text (micros / 1000000) (micros % 1000000)

-- a clock so many microseconds later
abbrev pub clock_after : Option ℕ → ℕ → Option ℕ
clock_after None moment = None
clock_after (Some micros) moment = Some (micros + moment)
