-- What contracts see of a source in memory that fails at chosen calls, and what one take makes of
-- it.
use Rattle.std.specs.Prelude.{◌≡◌, ℕ, ◌+◌, List, Result, Ok, Err, length, min, drop}
use Rattle.shift_io.specs.Causes.{count_after}

-- the bytes left, the most that one call gives, the calls that are to fail, the next call's number,
-- how many failed, and how many there were
pub record MemSourceView : Type 0 where
  pub left : List ℕ
  pub most : ℕ
  pub fails : List ℕ
  pub call : ℕ
  pub faults : ℕ
  pub calls : ℕ

-- a take gives as many bytes as are left, but at most `most` and at most what there is room for
abbrev pub count_given : MemSourceView → ℕ → ℕ
count_given source room = min (length source.left) (min source.most room)

-- the source after a take of n bytes: they are gone from the start, the next number is up, and
-- there was one call more
abbrev pub source_after_take : MemSourceView → ℕ → MemSourceView
source_after_take source n = record source {
  left = drop n source.left;
  call = count_after source.call;
  calls = source.calls + 1;
}

-- the source after a take that failed: there is one fault more, the next number is up, and there
-- was one call more
abbrev pub source_after_fault : MemSourceView → MemSourceView
source_after_fault source = record source {
  call = count_after source.call;
  faults = count_after source.faults;
  calls = source.calls + 1;
}

-- one take into this room: it gave the bytes that it is to give, or counted a fault
abbrev pub TakesFrom : {E : Type 0} → MemSourceView → MemSourceView → Result ℕ E → ℕ → Type 0
TakesFrom before after (Ok n) room =
    (n ≡ count_given before room) × (after ≡ source_after_take before n)
TakesFrom before after (Err _) room = after ≡ source_after_fault before
