use Rattle.std.proofs.Common.{rules}
use Rattle.job_release.specs.Driving.{settled, supplied, driver_of}
use Rattle.job_release.proofs.DriveSteps.{has_room, read_row, is_absent_then, stays, one_arrives}
use Rattle.job_release.proofs.driver.Driver.release_row.Goals as goal

pub arrive-requires-clause-room : goal.arrive-requires-clause-room
arrive-requires-clause-room g c =
    let d = driver_of g.S.JobScheduler.seen c.args.self.now in
    has_room d d c.args.t (supplied d.moment) (settled d.moment) c.requires.driving

pub arrive-requires-clause-absent : goal.arrive-requires-clause-absent
arrive-requires-clause-absent g c =
    let d = driver_of g.S.JobScheduler.seen c.args.self.now in
    let row = c.index_mut-row.result.now in
    is_absent_then d d c.args.t c.requires.within row (read_row d.rows c.args.t row c.requires.within c.index_mut-row.ensures.value)
    c.requires.driving (search rules)

pub returns-in_ok-arrive-clause-supplied : goal.returns-in_ok-arrive-clause-supplied
returns-in_ok-arrive-clause-supplied g c =
    let d = driver_of g.S.JobScheduler.seen c.args.self.now in
    let row = c.index_mut-row.result.now in
    one_arrives d d c.args.t c.requires.within row (read_row d.rows c.args.t row c.requires.within c.index_mut-row.ensures.value)
    c.requires.driving
    c.release.new.self c.release.ensures (search rules) (search rules) (g.S.JobScheduler.seen c.arrive.new.self) c.in_ok-arrive.ensures

pub returns-else-was_absent-clause-supplied : goal.returns-else-was_absent-clause-supplied
returns-else-was_absent-clause-supplied g c =
    let d = driver_of g.S.JobScheduler.seen c.args.self.now in
    let row = c.index_mut-row.result.now in
    stays d d c.args.t c.requires.within row (read_row d.rows c.args.t row c.requires.within c.index_mut-row.ensures.value)
    c.requires.driving
    c.release.new.self c.release.ensures (search rules)
