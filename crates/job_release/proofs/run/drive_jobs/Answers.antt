use Rattle.task_set.specs.Event.{HasUnits}
use Rattle.sched_core.specs.CoreData.{IsCore}
use Rattle.job_release.specs.Strong.{IsOpen}
use Rattle.job_release.proofs.StrongRuns.{of_entries, run_of_driven}
use Rattle.job_release.proofs.run.drive_jobs.Goals as goal

pub returns-clause-writable : goal.returns-clause-writable
returns-clause-writable c =
    let driven = c.in_ok-driven.driven in
    let opened : IsOpen driven.scheduler = rw c.scheduler.ensures at c.core-valid.ensures.opened in
    record { callers = opened.callers; units = of_entries HasUnits driven.scheduler.history c.in_ok-driven.ensures.units }

pub returns-clause-run : goal.returns-clause-run
returns-clause-run c =
    let driven = c.in_ok-driven.driven in
    let core : IsCore driven.scheduler = rw c.scheduler.ensures at c.core-valid.ensures.valid in
    let opened : IsOpen driven.scheduler = rw c.scheduler.ensures at c.core-valid.ensures.opened in
    run_of_driven c.args.input.now driven c.set.ensures.valid.valid core opened c.in_ok-driven.ensures.driven
