-- The rule of each line of a text in which further blanks, and comments where they are known, may
-- stand. First come a byte that is not plain and too many bytes; a skipped line changes nothing;
-- and of any other the fields decide.
use Rattle.std.specs.Prelude.{◌≡◌, ℕ, ◌<◌, ◌⊎◌, Bool, true, false, List, length, All}
use Rattle.text_fields.specs.Lines.{fields_of, is_skipped_line, IsPlain, IsCleanLine}
use Rattle.text_fields.specs.Machine.{Outcome, Leads, Fails}
use Rattle.text_fields.specs.declared.kind.LineKind.{LineKind}
use Rattle.text_fields.specs.declared.kind.LineKind.TheVariants.{BadByte, LongLine}

-- what a line comes to, by the most bytes of a line, whether '#' begins a comment, and what the
-- fields of a line come to
abbrev pub IsLineOutcome : {P K : Type 0} → ℕ → Bool → (LineKind → K)
    → (P → List (List ℕ) → Outcome P K → Type 0)
    → P → List ℕ → Outcome P K → Type 0
IsLineOutcome longest has_comments kind_of Says expected line outcome =
    ((All IsPlain line → ⊥) × (outcome ≡ Fails (kind_of BadByte)))
    ⊎ ((All IsPlain line × (longest < length line) × (outcome ≡ Fails (kind_of LongLine)))
    ⊎ ((IsCleanLine longest line × (is_skipped_line has_comments (fields_of line) ≡ true)
    × (outcome ≡ Leads expected))
    ⊎ (IsCleanLine longest line × (is_skipped_line has_comments (fields_of line) ≡ false)
    × Says expected (fields_of line) outcome)))
