use Rattle.std.proofs.Common.{length}
use Rattle.commands.proofs.ListedJobs.{narrow, of_tasks}
use Rattle.commands.proofs.import_jobs.text_of.Goals as goal

pub listed_of-requires : goal.listed_of-requires
listed_of-requires c =
    let found = c.args.found.now in
    rw c.deref.ensures.value (narrow (length c.args.trace.now.set.tasks) found.span found.jobs.items c.requires.horizon.1 c.requires.within)

pub write_job_list-requires : goal.write_job_list-requires
write_job_list-requires c =
    let found = c.args.found.now in
    rw (c.deref-2.ensures.value, c.in_ok-jobs.ensures, c.deref.ensures.value, c.set.ensures)
    (of_tasks (length c.args.trace.now.set.tasks) found.span found.jobs.items c.requires.within)
