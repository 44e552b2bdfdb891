-- A source over a reader reports the bytes that the reader reports, and counts its faults and its
-- calls.
use Rattle.std.specs.Prelude.{ℕ, List, Option}
use Rattle.shift_io.specs.declared.std_source.StdSource.{StdSource}

-- the bytes that the reader will give from here on, where it reports them
abbrev pub bytes_left : {R : Type 0} → (R → Option (List ℕ)) → StdSource R → Option (List ℕ)
bytes_left remaining source = remaining source.reader

-- how many reads gave an `Err`
abbrev pub fault_count : {R : Type 0} → StdSource R → ℕ
fault_count source = source.faults

-- how many takes there were
abbrev pub call_count : {R : Type 0} → StdSource R → ℕ
call_count source = source.calls.count
