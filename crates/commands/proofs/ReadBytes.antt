-- What was read of a source that reports its bytes.
use Rattle.std.proofs.Common.{◌≡◌, ℕ, ◌+◌, ◌≤◌, List, ◌++◌, length, Option, Some, None, sym, ap, ◌∙◌, arith}
use Rattle.std.specs.Io.KnownBytes.{Consumes, IsAtEnd}
use Rattle.std.proofs.lemmas.List.{append-nil, length-append}
use Rattle.std.proofs.lemmas.Option.{same_Some}
use Rattle.shift_io.specs.Stream.{TakesAll, TakesExactly}
use Rattle.commands.specs.Reading.{IsReported, ReadsAll}

taken_is_reported : (reported after : Option (List ℕ)) (read taken : List ℕ) → reported ≡ Some read → Consumes reported after taken
    → IsAtEnd after → taken ≡ read
taken_is_reported None after read taken same takes end = cc
taken_is_reported (Some xs) None read taken same takes end = absurd takes
taken_is_reported (Some xs) (Some ys) read taken same takes end =
    sym (append-nil taken) ∙ ap (λ (rest : List ℕ). taken ++ rest) (sym end) ∙ sym takes ∙ same_Some xs read same

-- what was read is what the source reported
pub all_is_reported : (limit : ℕ) (left after : Option (List ℕ)) (read taken : List ℕ) → IsReported limit left read
    → TakesAll left after taken → taken ≡ read
all_is_reported limit left after read taken to_read takes =
    taken_is_reported left after read taken to_read.reported takes.bytes_left takes.at_end

pub read_is_reported : (limit : ℕ) (left after : Option (List ℕ)) (read taken : List ℕ) → IsReported limit left read
    → ReadsAll limit left after taken → taken ≡ read
read_is_reported limit left after read taken to_read reads = all_is_reported limit left after read taken to_read reads.all

-- what a source reported bounds what was taken of it
taken_within : (left after : Option (List ℕ)) (read taken : List ℕ) → left ≡ Some read → Consumes left after taken
    → length taken ≤ length read
taken_within None after read taken reported takes = cc
taken_within (Some xs) None read taken reported takes = absurd takes
taken_within (Some xs) (Some ys) read taken reported takes =
    let all : length xs ≡ length read = ap length (same_Some xs read reported) in
    let parts : length xs ≡ length (taken ++ ys) = ap length takes in
    omega (arith, all, parts, length-append taken ys)

-- no byte more than the limit is taken of a source that reports no more
pub not_longer : (limit : ℕ) (left after : Option (List ℕ)) (read : List ℕ) → IsReported limit left read
    → TakesExactly left after (limit + 1) → ⊥
not_longer limit left after read reported longer =
    let within = taken_within left after read longer.0 reported.reported longer.1 in
    omega (arith, within, reported.within, longer.2)
