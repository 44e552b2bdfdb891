-- The processor of a line of the scheduler. It stands in brackets before the stamp, as `[003]`; of
-- several such fields the last one counts, since the name of a thread may have brackets in it.
use Rattle.std.specs.Prelude.{ℕ, ◌-◌, Bool, ◌&&◌, ◌==◌, nat_lt, List, [], ◌∷◌, codes, length}
use Rattle.std.specs.Prelude.{get_or, Option, None, Some, if◌then◌else◌}
use Rattle.affinity_mask.specs.Number.{number_value}
use Rattle.kernel_trace.specs.TraceLine.{after_key, is_keyed, word_of, before_last, TraceEvent}
use Rattle.kernel_trace.specs.TraceLine.{event_at}

-- the field is digits in brackets
unfoldable pub is_processor : List ℕ → Bool
is_processor field =
    (get_or field (length field - 1) 0 == 93) && is_keyed (codes "[") (before_last field)

-- the number, where it is below 2^32
abbrev pub small_number : ℕ → Option ℕ
small_number n = if nat_lt n 4294967296 then Some n else None

-- the number between the brackets; a greater one than 32 bits hold is no processor's
unfoldable pub processor_named : List ℕ → Option ℕ
processor_named field = small_number (number_value (after_key (codes "[") (before_last field)))

-- what is named after one field more
abbrev pub processor_after : Option ℕ → List ℕ → Option ℕ
processor_after named field = if is_processor field then processor_named field else named

-- where the event is, what was named before it counts
abbrev pub named_at : Option TraceEvent → Option ℕ → Option ℕ → Option ℕ
named_at (Some event) named later = named
named_at None named later = later

-- what is named before the first place of an event
abbrev pub named_before : Bool → Option ℕ → List ℕ → List (List ℕ) → Option ℕ
named_before waking named field [] = None
named_before waking named field (next ∷ rest) =
    named_at (event_at field (word_of waking next) rest) named
    (named_before waking (processor_after named field) next rest)

-- the processor that the fields of a line name, where it is of the scheduler
abbrev pub processor_of : Bool → List (List ℕ) → Option ℕ
processor_of waking [] = None
processor_of waking (first ∷ rest) = named_before waking None first rest
