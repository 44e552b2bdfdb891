-- Where a caller's entries stand in a history. Places are numbered from 0 on.
use Rattle.std.specs.Prelude.{ℕ, ◌+◌, ◌<◌, ◌==◌, cond, List, [], ◌∷◌}
use Rattle.strong_apa.specs.declared.reply.Entry.{Entry}

-- the places of the caller's entries, from the n-th on
abbrev pub places : ℕ → ℕ → List Entry → List ℕ
places caller n [] = []
places caller n (entry ∷ rest) =
    cond (entry.caller == caller) (n ∷ places caller (n + 1) rest) (places caller (n + 1) rest)

-- the places of the caller's entries in the history
abbrev pub own_places : ℕ → List Entry → List ℕ
own_places caller history = places caller 0 history

-- each entry is of one of so many callers
abbrev pub CallersBelow : ℕ → List Entry → Type 0
CallersBelow n [] = Unit {0}
CallersBelow n (entry ∷ rest) = (entry.caller < n) × CallersBelow n rest
