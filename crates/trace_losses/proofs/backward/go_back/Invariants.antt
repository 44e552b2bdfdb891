use Rattle.std.proofs.Common.{◌≡◌, ◌-◌, length, drop, vec_len}
use Rattle.trace_losses.specs.Passages.{turns_of}
use Rattle.trace_losses.specs.Runs.{RunApart, IsArmed}
use Rattle.trace_losses.specs.Walk.{AreFormers, held_at_end}
use Rattle.trace_losses.proofs.backward.go_back.Given as goal

abbrev pub invariant-loop-i : goal.invariant-loop-i
invariant-loop-i l = record {
  armed : IsArmed (held_at_end l.passages) (turns_of (drop (length l.passages - l.i) l.passages)) l.runners.processors.items;
  apart : RunApart l.runners.processors.items;
  threads : vec_len l.runners.processors ≡ vec_len l.fn.runners.processors;
  each : vec_len l.formers ≡ l.i;
  formers : AreFormers l.passages (vec_len l.fn.runners.processors) l.formers.items;
}
