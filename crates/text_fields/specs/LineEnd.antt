-- Where a line ends.
use Rattle.std.specs.Prelude.{◌≡◌, ℕ, ◌+◌, ◌<◌, List, ◌∷◌, ◌++◌, length, take, drop, Contains}

-- the first line feed of the bytes stands at this place
pub record IsLineEnd (bytes : List ℕ) (end : ℕ) : Type 0 where
  pub within : end < length bytes
  pub cut : bytes ≡ take end bytes ++ 10 ∷ drop (end + 1) bytes
  pub first : Contains (take end bytes) 10 → ⊥
