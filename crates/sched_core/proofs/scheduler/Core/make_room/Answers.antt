use Rattle.std.proofs.Common.{◌∙◌, refl, ap, subst, arith}
use Rattle.sched_core.specs.CoreData.{CoreData, OnlyMadeRoom}
use Rattle.sched_core.specs.CoreView.{core_view}
use Rattle.sched_core.proofs.RoomMade.{kept_grown, room_stays}
use Rattle.sched_core.proofs.scheduler.Core.make_room.Goals as goal

pub invariant_of-self : goal.invariant_of-self
invariant_of-self c =
    let kept = c.self.invariant in
    let grew = c.reserve_rows.ensures.grew in
    kept_grown c.self.inside c.reserve_rows.new.rows c.self.inside.history c.self.inside.spare kept grew refl
    (room_stays c.self.inside c.reserve_rows.new.rows.items kept grew) kept.room

pub invariant_of-self-in_err-reserve : goal.invariant_of-self-in_err-reserve
invariant_of-self-in_err-reserve c =
    let kept = c.self.invariant in
    let grew = c.reserve_rows.ensures.grew in
    let history = c.in_err-reserve.ensures in
    kept_grown c.self.inside c.reserve_rows.new.rows c.reserve.new.self c.self.inside.spare kept grew history.items
    (room_stays c.self.inside c.reserve_rows.new.rows.items kept grew)
    (omega (arith, kept.room, history.len, history.capacity))

pub invariant_of-self-2 : goal.invariant_of-self-2
invariant_of-self-2 c =
    let kept = c.self.invariant in
    let grew = c.reserve_rows.ensures.grew in
    let history = c.in_ok-reserve.ensures in
    kept_grown c.self.inside c.reserve_rows.new.rows c.reserve.new.self c.args.entries kept grew history.items
    (λ still p low. c.in_ok-reserve_rows.ensures.ok p (omega (arith, grew.count, low)))
    history.ok

pub returns-clause-kept : goal.returns-clause-kept
returns-clause-kept c =
    let spare = ap (λ (core : CoreData). core.spare) c.self.view_is ∙ c.requires.none in
    subst (λ (core : CoreData). OnlyMadeRoom core
    (core_view (record c.self.inside { rows = c.reserve_rows.new.rows; history = c.reserve.new.self; spare = c.args.entries })))
    c.self.view_is
    record { start = refl; history = c.in_ok-reserve.ensures.items; links = refl; closed = refl; spare = omega (arith, spare) }
