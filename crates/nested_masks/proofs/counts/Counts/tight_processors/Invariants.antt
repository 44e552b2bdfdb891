use Rattle.nested_masks.specs.Scans.{IsTightUnion}
use Rattle.nested_masks.proofs.counts.Counts.tight_processors.Given as goal

abbrev pub invariant-loop-u : goal.invariant-loop-u
invariant-loop-u l = IsTightUnion l.self l.u l.union
