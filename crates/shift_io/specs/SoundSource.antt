-- What contracts see of a source in memory that never fails.
use Rattle.std.specs.Prelude.{ℕ, List}

-- the bytes left, and how many takes there were
pub record SoundSourceView : Type 0 where
  pub left : List ℕ
  pub calls : ℕ
