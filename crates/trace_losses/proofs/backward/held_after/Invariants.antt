use Rattle.std.proofs.Common.{◌≡◌, take, vec_len}
use Rattle.std.specs.Prelude.{reverse}
use Rattle.trace_losses.specs.Passages.{turns_of}
use Rattle.trace_losses.specs.Runs.{RunApart, IsWhereabouts}
use Rattle.trace_losses.proofs.backward.held_after.Given as goal

abbrev pub invariant-loop-i : goal.invariant-loop-i
invariant-loop-i l = record {
  held : IsWhereabouts (turns_of (reverse (take l.i l.passages))) l.runners.processors.items;
  apart : RunApart l.runners.processors.items;
  threads : vec_len l.runners.processors ≡ l.threads;
}
