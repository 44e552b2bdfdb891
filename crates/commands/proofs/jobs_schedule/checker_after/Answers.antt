use Rattle.std.proofs.Common.{◌≡◌, ℕ, length, refl, subst, le_antisymm}
use Rattle.std.proofs.lemmas.Bool.{false≢true}
use Rattle.commands.specs.Checking.{HasFollowed}
use Rattle.commands.specs.Valid.{schedule_of}
use Rattle.commands.proofs.Following.{entry_known, entry_read, followed_more, followed_start}
use Rattle.commands.proofs.LegalSchedules.{legal_is_valid}
use Rattle.commands.proofs.RunSchedules.{next_passes}
use Rattle.commands.proofs.jobs_schedule.checker_after.Goals as goal

pub loop-entry-init : goal.loop-entry-init
loop-entry-init c =
    followed_start (schedule_of 1 c.args.set.now c.args.history.now) c.in_ok-checker.checker c.in_ok-checker.ensures.links
    c.in_ok-checker.ensures.contexts c.in_ok-checker.ensures.valid

pub accept-requires : goal.accept-requires
accept-requires c =
    let schedule = schedule_of 1 c.args.set.now c.args.history.now in
    let n = c.loop-entry.entry-index in
    entry_known schedule n c.entry-item.result c.loop-entry.checker (legal_is_valid 1 c.args.set.now c.args.history.now c.requires).0
    (entry_read schedule c.args.history.now n c.entry-item.result refl c.loop-entry-test.true c.entry-item.is) c.loop-entry.invariant

pub unreachable-requires : goal.unreachable-requires
unreachable-requires c =
    let schedule = schedule_of 1 c.args.set.now c.args.history.now in
    let n = c.loop-entry.entry-index in
    false≢true (c.in-Err.ensures.passing
    (next_passes c.args.set.now c.args.history.now n c.entry-item.result c.loop-entry.checker c.requires
    (entry_read schedule c.args.history.now n c.entry-item.result refl c.loop-entry-test.true c.entry-item.is) c.loop-entry.invariant))

pub loop-entry-preserved : goal.loop-entry-preserved
loop-entry-preserved c =
    let schedule = schedule_of 1 c.args.set.now c.args.history.now in
    let n = c.loop-entry.entry-index in
    followed_more schedule n c.entry-item.result c.loop-entry.checker c.accept.new.self
    (entry_read schedule c.args.history.now n c.entry-item.result refl c.loop-entry-test.true c.entry-item.is)
    c.loop-entry.invariant c.in-Ok.ensures.accepted c.in-Ok.ensures.links c.in-Ok.ensures.contexts c.accept.ensures.valid

pub returns : goal.returns
returns c =
    let all : c.loop-entry.entry-index ≡ length c.args.history.now =
    le_antisymm c.loop-entry.auto.entry-index-end c.loop-entry-test.false in
    subst (λ (n : ℕ). HasFollowed (schedule_of 1 c.args.set.now c.args.history.now) n c.loop-entry.checker) all c.loop-entry.invariant
