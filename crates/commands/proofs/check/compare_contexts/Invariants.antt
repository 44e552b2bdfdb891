use Rattle.std.proofs.Common.{◌≡◌, ◌+◌, length, take}
use Rattle.commands.proofs.check.compare_contexts.Given as goal

abbrev pub invariant-loop-context : goal.invariant-loop-context
invariant-loop-context l = record {
  same : take l.context-index l.schedule.contexts ≡ take l.context-index l.checker.contexts;
  line : l.line ≡ length l.schedule.set.tasks + 5 + length l.schedule.entries + l.context-index;
}
