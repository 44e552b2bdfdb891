-- What holds of every comparison of an input, whatever program writes it. The law is proved as the
-- contract of a function of `laws`.
use Rattle.std.specs.Prelude.{◌≡◌, ℕ, List}
use Rattle.commands.specs.Weak.{IsWeakOf}

-- what is written follows from the bytes read
abbrev pub WeakTextIsUnique : Type 0
WeakTextIsUnique = (read put other : List ℕ) → IsWeakOf read put → IsWeakOf read other → put ≡ other
