-- Out of memory: one answer, which says nothing more.
use Rattle.affinity_mask.specs.declared.out_of_memory.OutOfMemory.{OutOfMemory}

-- the one value of the type
abbrev pub out_of_memory : OutOfMemory
out_of_memory = record {}
