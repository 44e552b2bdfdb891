use Rattle.commands.specs.Checking.{HasFollowed}
use Rattle.commands.specs.Valid.{schedule_of}
use Rattle.commands.proofs.jobs_schedule.checker_after.Given as goal

abbrev pub invariant-loop-entry : goal.invariant-loop-entry
invariant-loop-entry l = HasFollowed (schedule_of 1 l.set l.history) l.entry-index l.checker
