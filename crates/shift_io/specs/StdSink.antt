-- A sink over a writer counts its faults and its calls, and says nothing of its bytes as a sink.
use Rattle.std.specs.Prelude.{ℕ, List, Option}
use Rattle.shift_io.specs.declared.std_sink.StdSink.{StdSink}

-- the bytes that the writer holds, where it reports them
abbrev pub writer_contents : {W : Type 0} → (W → Option (List ℕ)) → StdSink W → Option (List ℕ)
writer_contents contents sink = contents sink.writer

-- how many puts failed, by the write or by the flush after it
abbrev pub fault_count : {W : Type 0} → StdSink W → ℕ
fault_count sink = sink.faults

-- how many puts there were
abbrev pub call_count : {W : Type 0} → StdSink W → ℕ
call_count sink = sink.calls.count
