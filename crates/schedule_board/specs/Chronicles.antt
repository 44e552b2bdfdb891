-- The rule of the chronicle, and what its one step says. A chronicle is a book of two words with a
-- log of entries.
use Rattle.std.specs.Prelude.{ℕ, ◌≡◌, ◌==◌, true, List, [], ◌∷◌, ◌++◌, length, MatchBool}
use Rattle.logbook.specs.Pages.{Cell, Step, View, Book, Named}
use Rattle.strong_apa.specs.declared.reply.Entry.{Entry}

-- the first word is the number of entries; the second word stays at 0
pub record IsKept (cells : List Cell) (log : List Entry) : Type 0 where
  pub words : cells ≡ (length log, true) ∷ (0, true) ∷ []

-- the first word
abbrev pub head_of : Book → Named
head_of b = record { tracked = true; key = 0; book = b }

-- these entries were added after all that had been seen, unless there were more
abbrev pub AddsEntries : List Entry → Step Entry → View Entry ℕ → ℕ → View Entry ℕ → Type 0
AddsEntries more s v found w = MatchBool (found == s.old) (w.0 ≡ v.0 ++ more) (Unit {0})
