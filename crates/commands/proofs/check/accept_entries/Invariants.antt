use Rattle.std.proofs.Common.{◌≡◌, ◌+◌, length}
use Rattle.commands.specs.Checking.{HasFollowed}
use Rattle.commands.proofs.check.accept_entries.Given as goal

abbrev pub invariant-loop-entry : goal.invariant-loop-entry
invariant-loop-entry g l = record {
  followed : HasFollowed l.schedule l.entry-index l.checker;
  seen : g.W.Witness.has_seen l.schedule.set l.schedule.entries l.entry-index l.witness;
  line : l.line ≡ length l.schedule.set.tasks + 4 + l.entry-index;
}
