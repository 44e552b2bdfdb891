-- Names of tasks. A name has 1 to 32 bytes; the first is a letter or `_`, and each other
-- one is a letter, a digit, `_`, `.` or `-`.
use Rattle.std.specs.Prelude.{ℕ, ◌≤◌, Bool, ◌||◌, ◌==◌, IsTrue, List, [], ◌∷◌, length, All}
use Rattle.std.specs.Char.{is_ascii_alphabetic, is_ascii_alphanumeric}

-- a name begins with a letter or `_`
abbrev pub begins_name : ℕ → Bool
begins_name byte = is_ascii_alphabetic byte || (byte == 95)

-- a name goes on with letters, digits, `_`, `.` and `-`
abbrev pub continues_name : ℕ → Bool
continues_name byte = is_ascii_alphanumeric byte || (byte == 95) || (byte == 46) || (byte == 45)

-- a name is a first byte and others, at most 32 in all
abbrev pub IsName : List ℕ → Type 0
IsName [] = ⊥
IsName (first ∷ others) = (length (first ∷ others) ≤ 32) × IsTrue (begins_name first)
    × All (λ byte. IsTrue (continues_name byte)) others
