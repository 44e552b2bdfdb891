-- What a program reads of its source: all that was left of it, and no more than the limit.
use Rattle.std.specs.Prelude.{◌≡◌, ℕ, ◌≤◌, List, length, Option, Some}
use Rattle.shift_io.specs.Stream.{TakesAll}

-- the most bytes of a text that are read
abbrev pub text_limit : ℕ
text_limit = 16777216

-- the most bytes of a recorded trace, with its head, that are read
abbrev pub trace_limit : ℕ
trace_limit = 268435456

-- all that was left of a source was read, and it is no more than the limit
pub record ReadsAll (limit : ℕ) (old new : Option (List ℕ)) (read : List ℕ) : Type 0 where
  pub all : TakesAll old new read
  pub within : length read ≤ limit

-- the source reports what it has left, which is no more than the limit
pub record IsReported (limit : ℕ) (left : Option (List ℕ)) (read : List ℕ) : Type 0 where
  pub reported : left ≡ Some read
  pub within : length read ≤ limit
