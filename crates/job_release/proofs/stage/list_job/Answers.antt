use Rattle.std.proofs.Common.{refl, inr}
use Rattle.text_fields.proofs.NamedTasks.{named_task, name_not_new}
use Rattle.job_release.proofs.stage.list_job.Goals as goal

pub returns-in_default-clause-refused : goal.returns-in_default-clause-refused
returns-in_default-clause-refused c =
    let new = rw c.set.ensures.value at c.in_default.ensures in
    inr (inr ((λ t named. name_not_new c.args.input.now.set t c.args.form.now.name.now c.args.form.now.name.now refl named new), refl))

pub jobs-requires : goal.jobs-requires
jobs-requires c = (named_task c.args.input.now.set _ c.args.form.now.name.now (rw c.set.ensures.value at c.in-Some.ensures)).0

pub add_job-requires-clause-task : goal.add_job-requires-clause-task
add_job-requires-clause-task c =
    (named_task c.args.input.now.set _ c.args.form.now.name.now (rw c.set.ensures.value at c.in-Some.ensures)).0
