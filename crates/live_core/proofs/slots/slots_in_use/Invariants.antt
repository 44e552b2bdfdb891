use Rattle.std.proofs.Common.{◌≡◌, replicate, true}
use Rattle.live_core.proofs.slots.slots_in_use.Given as goal

abbrev pub invariant-loop-t : goal.invariant-loop-t
invariant-loop-t l = l.in_use.items ≡ replicate l._t true
