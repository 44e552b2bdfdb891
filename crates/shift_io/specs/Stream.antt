-- What one take, one put, a whole read and a whole put did to the bytes of a stream. A stream that
-- does not report its bytes has `None`, and nothing is said of them.
use Rattle.std.specs.Prelude.{◌≡◌, ℕ, ◌<◌, ◌≤◌, List, [], length, take, Option, Result, Ok, IfOk}
use Rattle.std.specs.Prelude.{IfSome, ◌↔◌}
use Rattle.std.specs.Io.{ReadsAtMost}
use Rattle.std.specs.Io.KnownBytes.{Consumes, Appends, IsAtEnd, ReadConsumes, WriteAppends}

-- zero is the end of input: where there is room, no byte is taken exactly where none is left
abbrev pub ZeroIsEnd : {E : Type 0} → Option (List ℕ) → Result ℕ E → List ℕ → Type 0
ZeroIsEnd before result into =
    IfOk result (λ n. 0 < length into → IfSome before (λ left. (n ≡ 0) ↔ (left ≡ [])))

-- one take: the first bytes left, as many as it answers, went to the start of the room; at a
-- failure none did
pub record Takes {E : Type 0} (before after : Option (List ℕ)) (result : Result ℕ E)
    (into : List ℕ) : Type 0 where
  pub bound : ReadsAtMost result into
  pub bytes : ReadConsumes before after result into
  pub end : ZeroIsEnd before result into

-- one put: a prefix of the piece was appended, with at least a byte where the piece has one; at a
-- failure nothing was
pub record Puts {E : Type 0} (before after : Option (List ℕ)) (result : Result ℕ E)
    (from : List ℕ) : Type 0 where
  pub bound : IfOk result (λ n. n ≤ length from)
  pub some : 0 < length from → IfOk result (λ n. 0 < n)
  pub empty : length from ≡ 0 → result ≡ Ok 0
  pub bytes : WriteAppends before after result from

-- a whole read: these are all the bytes that were left, and none is left now
pub record TakesAll (before after : Option (List ℕ)) (bytes : List ℕ) : Type 0 where
  pub bytes_left : Consumes before after bytes
  pub at_end : IsAtEnd after

-- at most this many bytes were taken
abbrev pub TakesAtMost : Option (List ℕ) → Option (List ℕ) → ℕ → Type 0
TakesAtMost before after n = (taken : List ℕ) × Consumes before after taken × (length taken ≤ n)

-- exactly this many bytes were taken
abbrev pub TakesExactly : Option (List ℕ) → Option (List ℕ) → ℕ → Type 0
TakesExactly before after n = (taken : List ℕ) × Consumes before after taken × (length taken ≡ n)

-- a prefix of the bytes was appended
abbrev pub AppendsPrefix : Option (List ℕ) → Option (List ℕ) → List ℕ → Type 0
AppendsPrefix before after bytes =
    (n : ℕ) × (n ≤ length bytes) × Appends before after (take n bytes)
