-- Stamps of trace lines: whole seconds, a point, and one to nine digits of a fraction of a second.
-- The digits of the seconds have any count, and leading zeros.
use Rattle.std.specs.Prelude.{ℕ, ◌+◌, ◌-◌, ◌*◌, ◌/◌, Bool, not, ◌&&◌, ◌==◌, nat_lt, nat_le, List}
use Rattle.std.specs.Prelude.{◌++◌, length, replicate, Option, None, Some, if◌then◌else◌}
use Rattle.std.specs.Char.{is_ascii_digit}
use Rattle.std.specs.List.{list_all, before_first, after_first}
use Rattle.affinity_mask.specs.Number.{number_value}

-- whether a text has digits alone, and one at least
abbrev pub is_number : List ℕ → Bool
is_number text = list_all is_ascii_digit text && not (length text == 0)

-- the byte is a point
abbrev pub is_point : ℕ → Bool
is_point byte = byte == 46

-- what stands before the first point of a text
abbrev pub seconds_text : List ℕ → List ℕ
seconds_text text = before_first is_point text

-- what stands after it
abbrev pub fraction_text : List ℕ → List ℕ
fraction_text text = after_first is_point text

-- whether a text has one to nine digits
abbrev pub is_fraction : List ℕ → Bool
is_fraction text = nat_le (length text) 9 && is_number text

-- digits with zeros after them, nine in all
abbrev pub to_nine : List ℕ → List ℕ
to_nine text = text ++ replicate (9 - length text) 48

-- the nanoseconds of the digits after a point
unfoldable pub fraction_value : List ℕ → ℕ
fraction_value text = number_value (to_nine text)

-- whether a text is a stamp
unfoldable pub is_stamp : List ℕ → Bool
is_stamp text = is_number (seconds_text text) && is_fraction (fraction_text text)

-- the nanoseconds of a stamp
unfoldable pub nanoseconds : List ℕ → ℕ
nanoseconds text =
    number_value (seconds_text text) * 1000000000 + fraction_value (fraction_text text)

-- the whole microseconds of some nanoseconds
abbrev pub microsecond : ℕ → ℕ
microsecond nanos = nanos / 1000

-- those of a time, where they are less than 2^63
abbrev pub clock_at : ℕ → Option ℕ
clock_at time =
    if nat_lt (microsecond time) 9223372036854775808 then Some (microsecond time) else None
