-- The states of the generator follow one another, and what is drawn is below its bound.
use Rattle.std.proofs.Common.{◌≡◌, ℕ, ◌+◌, ◌*◌, ◌-◌, ◌<◌, min, refl, add-one, arith}
use Rattle.std.proofs.Math.Nat.{mod-lt}
use Rattle.trace_reader.specs.Generator.{generator_step, generator_after, drawn}
use Rattle.trace_reader.specs.Generated.{first_processor, last_processor}

pub state_after_more : (number k : ℕ) → generator_after number (k + 1) ≡ generator_step (generator_after number k)
unfolding generator_after
state_after_more number k = rw add-one refl

pub state_at_start : (number : ℕ) → generator_after number 0 ≡ number
unfolding generator_after
state_at_start number = refl

pub drawn_below : (number k bound : ℕ) → 0 < bound → drawn number k bound < bound
drawn_below number k bound some = mod-lt _ some

-- the first processor of a mask is one of m
pub first_below : (number m i : ℕ) → 0 < m → first_processor number m i < m
first_below number m i some = drawn_below number (3 * i + 1) m some

-- and so is the last
pub last_below : (number m i : ℕ) → 0 < m → last_processor number m i < m
last_below number m i some =
    let first : first_processor number m i < m = first_below number m i some in
    let room : 0 < min 4 (m - first_processor number m i) = omega arith in
    let more = drawn_below number (3 * i + 2) (min 4 (m - first_processor number m i)) room in
    omega (arith, more, first)
