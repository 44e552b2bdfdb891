use Rattle.std.proofs.Common.{subst}
use Rattle.std.proofs.lemmas.Result.{err_from_is_err_and}
use Rattle.schedule_text.specs.Schedule.{IsSchedule}
use Rattle.commands.proofs.CheckedText.{answers_checked, answers_text_fault}
use Rattle.commands.proofs.check.checked_text.Goals as goal

pub returns-in_err-schedule : goal.returns-in_err-schedule
returns-in_err-schedule c =
    let p = err_from_is_err_and c.from_residual.result c.from_residual.ensures.1 in
    rw (p.1, p.2) (answers_text_fault c.args.bytes.now c.in_err-schedule.field-0.0 c.in_err-schedule.ensures.accepts
    c.in_err-schedule.ensures.refused c.in_err-schedule.ensures.refuses)

pub returns : goal.returns
returns c =
    let ok = subst IsSchedule c.schedule.view_is c.schedule.invariant in
    answers_checked c.args.bytes.now c.in_ok-schedule.schedule ok c.in_ok-schedule.ensures.schedule c.in_ok-schedule.ensures.accepts
    c.judged_text.result c.in_ok-schedule.ensures.refuses
    c.judged_text.ensures.reported c.judged_text.ensures.refused
