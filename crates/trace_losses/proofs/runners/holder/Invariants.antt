use Rattle.std.proofs.Common.{◌≡◌, ℕ, ◌<◌, false, None, get_or}
use Rattle.trace_losses.specs.Runs.{is_some_of}
use Rattle.trace_losses.proofs.runners.holder.Given as goal

abbrev pub invariant-loop-t : goal.invariant-loop-t
invariant-loop-t l = (k : ℕ) → k < l.t → is_some_of (get_or l.processors k None) l.processor ≡ false
