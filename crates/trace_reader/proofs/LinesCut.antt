-- What a line adds to what the lines say.
use Rattle.std.proofs.Common.{◌≡◌, ℕ, true, false, List, ◌∷◌, refl}
use Rattle.text_fields.specs.Lines.{fields_of}
use Rattle.trace_reader.specs.Lines.{is_skipped, said_by}

-- a line that is not skipped says its fields, and a skipped one says nothing
pub said_by-kept : (line : List ℕ) (after : List (List ℕ)) → is_skipped (fields_of line) ≡ false
    → said_by (line ∷ after) ≡ fields_of line ∷ said_by after
said_by-kept line after kept = rw kept refl

pub said_by-skipped : (line : List ℕ) (after : List (List ℕ)) → is_skipped (fields_of line) ≡ true
    → said_by (line ∷ after) ≡ said_by after
said_by-skipped line after skipped = rw skipped refl
