-- Which columns of a picture by entries have a label.
use Rattle.std.specs.Prelude.{ℕ, ◌+◌, ◌-◌, ◌/◌, nat_le, if◌then◌else◌}

-- of so many columns each n-th has one: each of up to 60; of more, so that at most 30 have one
abbrev pub label_step : ℕ → ℕ
label_step columns = if nat_le columns 60 then 1 else (columns - 1) / 30 + 1
