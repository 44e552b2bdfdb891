use Rattle.std.proofs.Common.{◌≡◌, ℕ, List, Some, length, vec_len}
use Rattle.std.specs.Prelude.{slice_get}
use Rattle.trace_losses.specs.Book.{IsBook}
use Rattle.trace_losses.specs.Losses.{IsLoss}
use Rattle.trace_losses.specs.Watch.{AreWatches}
use Rattle.trace_losses.specs.declared.loss.Loss.{Loss}
use Rattle.trace_losses.specs.declared.seen.Seen.{Seen}
use Rattle.trace_losses.proofs.loss.losses_by.Given as goal

abbrev pub invariant-loop-t : goal.invariant-loop-t
invariant-loop-t l = record {
  tasks : vec_len l.list ≡ l.t;
  each : (moments : List (List Seen)) → IsBook moments l.tallies → AreWatches (length l.priorities) moments l.watches
      → (t : ℕ) (loss : Loss) → slice_get l.list.items t ≡ Some loss → IsLoss l.priorities moments t loss;
}
