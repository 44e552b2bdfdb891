use Rattle.std.proofs.Common.{◌≡◌, ◌-◌, length, drop, vec_len}
use Rattle.std.specs.Prelude.{reverse}
use Rattle.trace_losses.specs.Ahead.{AreAhead}
use Rattle.trace_losses.specs.Jobs.{changes_of, AreJobsOf}
use Rattle.trace_passages.specs.Passages.{moment_at}
use Rattle.trace_losses.specs.Passages.{turns_of}
use Rattle.trace_losses.specs.Walk.{held_at_end}
use Rattle.trace_losses.specs.Runs.{IsArmed}
use Rattle.trace_losses.proofs.job.jobs_back.Given as goal

abbrev pub invariant-loop-i : goal.invariant-loop-i
invariant-loop-i l = record {
  armed : IsArmed (held_at_end l.passages) (turns_of (drop (length l.passages - l.i) l.passages)) l.runners.processors.items;
  ran : vec_len l.runners.processors ≡ l.threads;
  tasks : vec_len l.ahead.units ≡ l.threads;
  ahead :
      AreAhead l.passages (changes_of (drop (length l.passages - l.i) l.passages)) (moment_at l.passages (length l.passages - l.i - 1))
      l.ahead.units.items;
  jobs : AreJobsOf l.passages (changes_of (drop (length l.passages - l.i) l.passages)) (reverse l.ahead.jobs.items);
}
