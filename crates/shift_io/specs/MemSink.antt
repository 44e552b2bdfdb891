-- What contracts see of a sink in memory that fails at chosen calls, and what one put makes of it.
use Rattle.std.specs.Prelude.{◌≡◌, ℕ, ◌+◌, ◌-◌, List, ◌++◌, Result, Ok, Err, length, min, take}
use Rattle.shift_io.specs.Causes.{count_after}

-- the bytes that it has, the room left, the most that one call takes, the calls that are to fail,
-- the next call's number, how many failed, and how many there were, with those of an empty piece
pub record MemSinkView : Type 0 where
  pub bytes : List ℕ
  pub room : ℕ
  pub most : ℕ
  pub fails : List ℕ
  pub call : ℕ
  pub faults : ℕ
  pub calls : ℕ

-- a put takes as many bytes as the piece has, but at most `most` and at most the room left
abbrev pub count_accepted : MemSinkView → ℕ → ℕ
count_accepted sink piece = min piece (min sink.most sink.room)

-- the sink after a put of an empty piece: there was one call more, which has no number
abbrev pub sink_after_call : MemSinkView → MemSinkView
sink_after_call sink = record sink { calls = sink.calls + 1 }

-- the sink after these bytes were put: they stand after the others, the next number is up, and
-- there was one call more
abbrev pub sink_after_put : MemSinkView → List ℕ → MemSinkView
sink_after_put sink put = record sink {
  bytes = sink.bytes ++ put;
  room = sink.room - length put;
  call = count_after sink.call;
  calls = sink.calls + 1;
}

-- the sink after a put that failed: there is one fault more, the next number is up, and there was
-- one call more
abbrev pub sink_after_fault : MemSinkView → MemSinkView
sink_after_fault sink = record sink {
  call = count_after sink.call;
  faults = count_after sink.faults;
  calls = sink.calls + 1;
}

-- one put of a piece that is not empty: it took the bytes that it is to take, or counted a fault
abbrev pub PutsInto : {E : Type 0} → MemSinkView → MemSinkView → Result ℕ E → List ℕ → Type 0
PutsInto before after (Ok n) piece =
    (n ≡ count_accepted before (length piece)) × (after ≡ sink_after_put before (take n piece))
PutsInto before after (Err _) piece = after ≡ sink_after_fault before
