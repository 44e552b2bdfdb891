-- Private: which bytes of a line are spaces, as bits of a number.
use Rattle.std.specs.Prelude.{◌≡◌, ℕ, ◌+◌, ◌<◌, List, slice_index}
use Rattle.std.specs.Int.{bit_at}

-- of the places from i up to j, bit k is set just where a space stands at i + k
pub record AreSpaces (text : List ℕ) (i j bits : ℕ) : Type 0 where
  pub each : (k : ℕ) → bit_at bits k ≡ 1 → (i + k < j) × (slice_index text (i + k) ≡ 32)
  pub all : (k : ℕ) → i + k < j → slice_index text (i + k) ≡ 32 → bit_at bits k ≡ 1
