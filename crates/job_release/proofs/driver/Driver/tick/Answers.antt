use Rattle.std.proofs.Common.{List, length, sym, subst, rules}
use Rattle.job_release.specs.Driving.{IsDriving, grown, supplied, driver_of}
use Rattle.job_release.specs.declared.row.JobRow.{JobRow}
use Rattle.job_release.proofs.DriveSteps.{has_room}
use Rattle.job_release.proofs.Fresh.{written_over}
use Rattle.job_release.proofs.DriveTicks.{run_fits, ticked}
use Rattle.job_release.proofs.driver.Driver.tick.Goals as goal

pub pass-requires : goal.pass-requires
pass-requires g c =
    let d = driver_of g.S.JobScheduler.seen c.args.self.now in
    record { room = has_room d d (length d.rows) (supplied d.moment) (supplied d.moment) c.requires.driving }

pub run_rows-requires-clause-fits : goal.run_rows-requires-clause-fits
run_rows-requires-clause-fits g c =
    let d = driver_of g.S.JobScheduler.seen c.args.self.now in
    rw c.deref_mut.ensures.value (run_fits d d c.requires.driving _ (search rules))

pub returns-clause-grown : goal.returns-clause-grown
returns-clause-grown g c =
    let d = driver_of g.S.JobScheduler.seen c.args.self.now in
    let after = g.S.JobScheduler.seen c.pass.new.self in
    let rows = c.args.self.now.rows in
    let ran = rw (c.links.ensures.value, c.deref_mut.ensures.value) at c.run_rows.ensures in
    let P : List JobRow → Type 0 = λ rows. IsDriving d
    (record { scheduler = after; rows = rows; horizon = d.horizon; moment = c.args.next }) (length rows) (grown c.args.next)
    (grown c.args.next) in
    subst P (sym (written_over c.run_rows.new.rows rows.items rows.len ran.count rows.ok.0))
    (ticked d d c.requires.driving c.args.next c.requires.next after c.in_ok-pass.ensures c.run_rows.new.rows ran)
