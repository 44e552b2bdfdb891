-- The lines of an input text. Each is clean, which is that its bytes are plain and at most 4,096,
-- and a line whose first field begins with '#' is a comment.
use Rattle.std.specs.Prelude.{ℕ, Bool, true, not, List, map, filter}
use Rattle.text_fields.specs.Lines.{fields_of, is_skipped_line, IsCleanLine}

-- whether the fields are those of a skipped line: there is none, or the first begins with '#'
abbrev pub is_skipped : List (List ℕ) → Bool
is_skipped fields = is_skipped_line true fields

-- what some lines say: the fields of each line that is not skipped
abbrev pub said_by : List (List ℕ) → List (List (List ℕ))
said_by lines = filter (λ fields. not (is_skipped fields)) (map fields_of lines)

-- a line of at most 4,096 plain bytes
abbrev pub IsClean : List ℕ → Type 0
IsClean line = IsCleanLine 4096 line
