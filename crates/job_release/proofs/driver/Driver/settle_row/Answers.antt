use Rattle.std.proofs.Common.{rules}
use Rattle.job_release.specs.Driving.{settled, grown, driver_of}
use Rattle.job_release.proofs.DriveSteps.{has_room, read_row, is_ready_then, none_settled, one_settled, last_settled}
use Rattle.job_release.proofs.driver.Driver.settle_row.Goals as goal

pub depart-requires-clause-room : goal.depart-requires-clause-room
depart-requires-clause-room g c =
    let d = driver_of g.S.JobScheduler.seen c.args.self.now in
    has_room d d c.args.t (settled d.moment) (grown d.moment) c.requires.driving

pub depart-requires-clause-ready : goal.depart-requires-clause-ready
depart-requires-clause-ready g c =
    let d = driver_of g.S.JobScheduler.seen c.args.self.now in
    let row = c.index_mut-row.result.now in
    is_ready_then d d c.args.t c.requires.within row (read_row d.rows c.args.t row c.requires.within c.index_mut-row.ensures.value)
    c.requires.driving (search rules)

pub returns-then-not-has_cost-clause-settled : goal.returns-then-not-has_cost-clause-settled
returns-then-not-has_cost-clause-settled g c =
    let d = driver_of g.S.JobScheduler.seen c.args.self.now in
    let row = c.index_mut-row.result.now in
    none_settled d d c.args.t c.requires.within row (read_row d.rows c.args.t row c.requires.within c.index_mut-row.ensures.value)
    c.requires.driving (search rules)

pub returns-else-not-has_work-clause-settled : goal.returns-else-not-has_work-clause-settled
returns-else-not-has_work-clause-settled g c =
    let d = driver_of g.S.JobScheduler.seen c.args.self.now in
    let row = c.index_mut-row.result.now in
    one_settled d d c.args.t c.requires.within row (read_row d.rows c.args.t row c.requires.within c.index_mut-row.ensures.value)
    c.requires.driving (search rules)
    c.finish.new.self c.in_ok-finish.ensures (search rules)

pub returns-in_ok-depart-clause-settled : goal.returns-in_ok-depart-clause-settled
returns-in_ok-depart-clause-settled g c =
    let d = driver_of g.S.JobScheduler.seen c.args.self.now in
    let row = c.index_mut-row.result.now in
    last_settled d d c.args.t c.requires.within row (read_row d.rows c.args.t row c.requires.within c.index_mut-row.ensures.value)
    c.requires.driving (search rules)
    c.finish.new.self c.in_ok-finish.ensures (search rules) (g.S.JobScheduler.seen c.depart.new.self) c.in_ok-depart.ensures
