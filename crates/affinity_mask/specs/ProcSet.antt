-- Sets of processors. A set of processors is a number, and p is in the set where the number has a
-- one at place p. So each number is just one finite set, and two sets with the same members are
-- equal.
use Rattle.std.specs.Prelude.{ℕ, zero, suc, ◌-◌, ◌^◌, ◌≤◌, Bool, IsTrue, ◌==◌, bit_and, bit_or}
use Rattle.std.specs.Prelude.{bit_xor, List, [], ◌∷◌, ◌++◌, if◌then◌else◌}
use Rattle.std.specs.Int.{bit_at}

-- whether p is in the set
unfoldable pub has : ℕ → ℕ → Bool
has X p = bit_at X p == 1

-- the set without members
abbrev pub empty : ℕ
empty = 0

-- the numbers below m
unfoldable pub all_below : ℕ → ℕ
all_below m = 2 ^ m - 1

-- the members of both sets
unfoldable pub intersection : ℕ → ℕ → ℕ
intersection X Y = bit_and X Y

-- the set and p, which may be in it already
unfoldable pub with_member : ℕ → ℕ → ℕ
with_member X p = bit_or X (2 ^ p)

-- the set but for p, which need not be in it
unfoldable pub without_member : ℕ → ℕ → ℕ
without_member X p = bit_xor X (bit_and X (2 ^ p))

-- each member of X is one of Y
abbrev pub Within : ℕ → ℕ → Type 0
Within X Y = (p : ℕ) → IsTrue (has X p) → IsTrue (has Y p)

-- some processor is in both sets
abbrev pub Meets : ℕ → ℕ → Type 0
Meets X Y = (p : ℕ) × IsTrue (has X p) × IsTrue (has Y p)

-- p is in X, and no member of X is less
abbrev pub IsLeastMember : ℕ → ℕ → Type 0
IsLeastMember X p = IsTrue (has X p) × ((q : ℕ) → IsTrue (has X q) → p ≤ q)

-- the numbers below n that pass a test, in ascending order
unfoldable pub passing_below : (ℕ → Bool) → ℕ → List ℕ
passing_below test zero = []
passing_below test (suc n) = passing_below test n ++ (if test n then n ∷ [] else [])

-- the processors of a set, in ascending order
abbrev pub members : ℕ → List ℕ
members X = passing_below (has X) 64
