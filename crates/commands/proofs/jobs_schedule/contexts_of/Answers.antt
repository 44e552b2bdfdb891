use Rattle.std.proofs.Common.{◌∙◌}
use Rattle.commands.proofs.RunSchedules.{contexts_after}
use Rattle.commands.proofs.jobs_schedule.contexts_of.Goals as goal

pub returns : goal.returns
returns c = c.in_ok-contexts.ensures ∙ contexts_after c.args.set.now c.args.history.now c.in_ok-checker.checker c.in_ok-checker.ensures
