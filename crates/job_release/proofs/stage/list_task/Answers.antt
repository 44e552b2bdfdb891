use Rattle.std.proofs.Common.{refl, ap, inl, inr, arith, length}
use Rattle.std.proofs.lemmas.Result.{err_from_is_err_and}
use Rattle.text_fields.proofs.Names.{name_is_text}
use Rattle.task_set.specs.declared.fault.TaskFault.TheVariants.{BadName}
use Rattle.job_release.specs.Reading.{line_of}
use Rattle.job_release.proofs.Inputs.{jobs_of_times_valid}
use Rattle.job_release.proofs.Listing.{task_listed, task_refused, too_many}
use Rattle.job_release.proofs.stage.list_task.Goals as goal

pub returns-in_default-clause-refused : goal.returns-in_default-clause-refused
returns-in_default-clause-refused c =
    inr (inl (
      c.in_ok-mask.mask,
      c.in_ok-mask.ensures.read,
      inr (BadName, (λ named. c.in_default.ensures.cases.0 (name_is_text _ named)), refl),
    ))

pub add_task-requires-clause-jobs : goal.add_task-requires-clause-jobs
add_task-requires-clause-jobs c =
    rw (rw c.in-Some.is at c.in_ok-jobs.ensures.found).0
    (jobs_of_times_valid c.args.input.now.horizon c.args.form.now.times c.few_jobs.ensures.valid.horizon.1 c.requires)

pub add_task-requires-in-None-clause-few : goal.add_task-requires-in-None-clause-few
add_task-requires-in-None-clause-few c = let none = ap length c.new.ensures.items in omega (arith, none, c.few_jobs.ensures.valid.few)

pub returns-in_err-add_task-in-None-clause-refused : goal.returns-in_err-add_task-in-None-clause-refused
returns-in_err-add_task-in-None-clause-refused c =
    let p = err_from_is_err_and c.from_residual-in_err-add_task-in-None.result c.from_residual-in_err-add_task-in-None.ensures.1 in
    rw (p.1, p.2) (task_refused c.args.input.now (line_of c.args.form.now)
    c.in-Ok.name.now c.in_ok-mask.mask c.in_err-add_task-in-None.field-0.0 c.in-Ok.ensures.cases.0
    c.in_ok-mask.ensures.read c.in_err-add_task-in-None.ensures.refused)

pub returns-in_err-add_task-in-Some-clause-refused : goal.returns-in_err-add_task-in-Some-clause-refused
returns-in_err-add_task-in-Some-clause-refused c =
    let p = err_from_is_err_and c.from_residual-in_err-add_task-in-Some.result c.from_residual-in_err-add_task-in-Some.ensures.1 in
    rw (p.1, p.2) (task_refused c.args.input.now (line_of c.args.form.now)
    c.in-Ok.name.now c.in_ok-mask.mask c.in_err-add_task-in-Some.field-0.0 c.in-Ok.ensures.cases.0
    c.in_ok-mask.ensures.read c.in_err-add_task-in-Some.ensures.refused)

pub returns-in_ok-add_task-in-None-clause-refused : goal.returns-in_ok-add_task-in-None-clause-refused
returns-in_ok-add_task-in-None-clause-refused c =
    inr (too_many c.args.input.now (line_of c.args.form.now) c.in-Ok.name.now c.in_ok-mask.mask c.in-Ok.ensures.cases.0
    c.in_ok-mask.ensures.read c.in_ok-add_task-in-None.ensures.allowed (rw c.in-None.is at c.in_ok-jobs.ensures.found))

pub returns-in_ok-add_task-in-Some-clause-read : goal.returns-in_ok-add_task-in-Some-clause-read
returns-in_ok-add_task-in-Some-clause-read c =
    let found = rw c.in-Some.is at c.in_ok-jobs.ensures.found in
    task_listed c.args.input.now (line_of c.args.form.now) c.in-Ok.name.now c.in_ok-mask.mask c.in-Ok.ensures.cases.0
    c.in_ok-mask.ensures.read
    c.in_ok-add_task-in-Some.ensures.allowed c.in-Some.jobs.items c.add_task.new.self found.0 found.1 c.in_ok-add_task-in-Some.ensures.added
