use Rattle.std.proofs.Common.{ap, ◌∙◌}
use Rattle.schedule_text.specs.ScheduleText.{schedule_text}
use Rattle.commands.specs.Valid.{schedule_of}
use Rattle.commands.proofs.LegalSchedules.{legal_is_valid}
use Rattle.commands.proofs.RunSchedules.{contexts_known, entries_known, entries_of_version}
use Rattle.commands.proofs.jobs_schedule.text_of_history.Goals as goal

pub write_schedule-requires-clause-entries : goal.write_schedule-requires-clause-entries
write_schedule-requires-clause-entries c =
    entries_known (schedule_of 1 c.args.set.now c.args.history.now) (legal_is_valid 1 c.args.set.now c.args.history.now c.requires).0

pub write_schedule-requires-clause-of_version : goal.write_schedule-requires-clause-of_version
write_schedule-requires-clause-of_version c =
    entries_of_version (schedule_of 1 c.args.set.now c.args.history.now) (legal_is_valid 1 c.args.set.now c.args.history.now c.requires).0

pub write_schedule-requires-clause-contexts : goal.write_schedule-requires-clause-contexts
write_schedule-requires-clause-contexts c =
    rw (c.deref.ensures.value, c.in_ok-contexts.ensures)
    (contexts_known (schedule_of 1 c.args.set.now c.args.history.now) (legal_is_valid 1 c.args.set.now c.args.history.now c.requires).0)

pub returns : goal.returns
returns c = record {
  is_schedule = (legal_is_valid 1 c.args.set.now c.args.history.now c.requires).0;
  text = rw (c.deref.ensures.value, c.in_ok-contexts.ensures) at c.in_ok-text.ensures;
}
