-- Lines and fields. A text is cut into lines at its line feeds, and what follows the last line feed
-- is a line only where it has bytes; a line is cut into fields by blanks, which are spaces and
-- tabs; a line is skipped where it has no field, or is a comment.
use Rattle.std.specs.Prelude.{ℕ, ◌≤◌, ◌⊎◌, ◌≡◌, Bool, true, false, not, ◌==◌, ◌||◌, ◌&&◌, List, []}
use Rattle.std.specs.Prelude.{◌∷◌, length, filter, All, if◌then◌else◌}
use Rattle.std.specs.List.{slice_split, onto_first}

-- the byte is a line feed
abbrev pub is_line_feed : ℕ → Bool
is_line_feed byte = byte == 10

-- the lines of a text: a line feed ends a line, and what no line feed ends is a line where it has
-- bytes
abbrev pub lines_of : List ℕ → List (List ℕ)
lines_of [] = []
lines_of (byte ∷ rest) =
    if is_line_feed byte then [] ∷ lines_of rest else onto_first byte (lines_of rest)

-- the byte is a space or a tab
abbrev pub is_blank : ℕ → Bool
is_blank byte = (byte == 32) || (byte == 9)

-- whether a list has no bytes
abbrev pub is_nothing : List ℕ → Bool
is_nothing [] = true
is_nothing (byte ∷ rest) = false

-- the fields of a line: its longest runs of bytes that are no blanks
abbrev pub fields_of : List ℕ → List (List ℕ)
fields_of line = filter (λ piece. not (is_nothing piece)) (slice_split is_blank line)

-- whether the fields are those of a skipped line: there is none, or '#' begins a comment and the
-- first begins with it
abbrev pub is_skipped_line : Bool → List (List ℕ) → Bool
is_skipped_line has_comments [] = true
is_skipped_line has_comments ([] ∷ more) = false
is_skipped_line has_comments ((byte ∷ rest) ∷ more) = has_comments && (byte == 35)

-- a byte that may stand in a line: a tab, or an ASCII character that is printed
abbrev pub IsPlain : ℕ → Type 0
IsPlain byte = (byte ≡ 9) ⊎ ((32 ≤ byte) × (byte ≤ 126))

-- a byte that may stand in a text of which each line is plain: a line feed, or a plain byte
abbrev pub MayStand : ℕ → Type 0
MayStand byte = (byte ≡ 10) ⊎ IsPlain byte

-- a line of plain bytes, of at most as many as the longest line has
abbrev pub IsCleanLine : ℕ → List ℕ → Type 0
IsCleanLine longest line = All IsPlain line × (length line ≤ longest)
