-- The generator of numbers: a linear congruential one, with the factor and the increment of Knuth's
-- MMIX. Of each state only the upper 31 bits are used.
use Rattle.std.specs.Prelude.{ℕ, zero, suc, ◌+◌, ◌*◌, ◌/◌, ◌%◌, ◌^◌}

-- the state after one step
abbrev pub generator_step : ℕ → ℕ
generator_step state = (state * 6364136223846793005 + 1442695040888963407) % 2 ^ 64

-- the state after so many steps from a number
unfoldable pub generator_after : ℕ → ℕ → ℕ
generator_after number zero = number
generator_after number (suc steps) = generator_step (generator_after number steps)

-- the number below a bound that is drawn at a state
abbrev pub drawn_at : ℕ → ℕ → ℕ
drawn_at state bound = (state / 2 ^ 33) % bound

-- the number below a bound that draw k gives, counted from 0: it makes step k + 1
abbrev pub drawn : ℕ → ℕ → ℕ → ℕ
drawn number k bound = drawn_at (generator_after number (k + 1)) bound
