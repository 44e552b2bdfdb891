-- The words in which a fault is reported to a person.
use Rattle.std.specs.Prelude.{ℕ, List, codes}
use Rattle.shift_io.specs.declared.whole.ReadAllFault.{ReadAllFault}
use Rattle.shift_io.specs.declared.whole.ReadAllFault.TheVariants.{ReadFault, TooLong, OutOfMemory}

-- why a whole read gave no bytes, in words
abbrev pub fault_text : ReadAllFault → List ℕ
fault_text ReadFault = codes "the source failed"
fault_text TooLong = codes "more bytes than the limit"
fault_text OutOfMemory = codes "out of memory"
