use Rattle.std.specs.Prelude.{nat_eq}
use Rattle.indexmap.specs.IndexMap.{get}
use Rattle.trace_losses.specs.Jumps.{IsJump, AreLast}
use Rattle.trace_losses.specs.Moments.{IsCount}
use Rattle.trace_losses.proofs.jumps.jumps_of.Given as goal

abbrev pub invariant-loop-i : goal.invariant-loop-i
invariant-loop-i l = record {
  last : AreLast l.passages l.i (get nat_eq l.last);
  jumps : IsCount (IsJump l.passages) 0 l.i l.jumps;
}
