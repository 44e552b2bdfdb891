use Rattle.std.proofs.Common.{inl, inr, refl, ap}
use Rattle.std.proofs.lemmas.Result.{err_from_is_err_and}
use Rattle.text_fields.specs.Fields.{texts}
use Rattle.text_fields.specs.Machine.{Leads}
use Rattle.schedule_text.specs.LineOutcome.{IsTaskOutcome}
use Rattle.schedule_text.specs.Prefix.{TasksExpected}
use Rattle.schedule_text.proofs.Stages.{at_fields, task_refused_line}
use Rattle.schedule_text.proofs.stage.read_task.Goals as goal

pub returns-in-Some-clause-read : goal.returns-in-Some-clause-read
returns-in-Some-clause-read c version =
    at_fields (IsTaskOutcome version c.args.set.now) _ _ _ c.in_ok-fields.ensures
    (inl (c.in-Some.count, c.in-Some.ensures, refl))

pub returns-in_err-add_task-in-None-clause-refused :
    goal.returns-in_err-add_task-in-None-clause-refused
returns-in_err-add_task-in-None-clause-refused c =
    let p = err_from_is_err_and c.from_residual-in_err-add_task-in-None.result
    c.from_residual-in_err-add_task-in-None.ensures.1 in
    rw (p.1, p.2) (λ version. task_refused_line version c.args.set.now (texts c.in_ok-fields.fields.now) c.args.text.now
    c.in_err-add_task-in-None.field-0.0 c.in_ok-fields.ensures
    c.in-None.ensures c.in_err-add_task-in-None.ensures.refused)

pub returns-in_ok-add_task-in-None-clause-read : goal.returns-in_ok-add_task-in-None-clause-read
returns-in_ok-add_task-in-None-clause-read c version =
    let added = c.in_ok-add_task-in-None.ensures.read in
    at_fields (IsTaskOutcome version c.args.set.now) _ _ _ c.in_ok-fields.ensures (inr (
      c.in-None.ensures,
      inl (added.task, added.form, inl (added.allowed, ap (λ set. Leads (TasksExpected version set)) added.last)),
    ))
