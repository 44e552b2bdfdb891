use Rattle.std.proofs.Common.{◌≡◌, length, take}
use Rattle.commands.proofs.jobs_schedule.contexts_in.Given as goal

abbrev pub invariant-loop-t : goal.invariant-loop-t
invariant-loop-t l = record {
  end : l.t-end ≡ length l.checker.contexts;
  listed : l.contexts.items ≡ take l.t l.checker.contexts;
}
