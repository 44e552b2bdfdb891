use Rattle.std.proofs.Common.{◌≡◌, ℕ, ◌+◌, ◌<◌, length, refl, subst, arith, le_antisymm}
use Rattle.schedule_picture.specs.History.{AreLinksAfter}
use Rattle.commands.specs.Checking.{HasFollowed}
use Rattle.commands.proofs.Following.{followed_more, links_after, bad_entry, entry_known, entry_read}
use Rattle.commands.proofs.check.accept_entries.Given.{Over}
use Rattle.commands.proofs.check.accept_entries.Goals as goal

pub loop-entry-init : goal.loop-entry-init
loop-entry-init g c = record {
  followed = c.requires.followed;
  seen = c.requires.seen;
  line = let count : c.len.result ≡ length c.args.schedule.now.set.tasks = rw c.set.ensures.value at c.len.ensures.value in
      let same = c.from-line.ensures in omega arith;
}

pub accept-requires : goal.accept-requires
accept-requires g c =
    entry_known c.args.schedule.now c.loop-entry.entry-index c.entry-item.result c.loop-entry.checker c.entries-entry-items.ensures.valid
    (entry_read c.args.schedule.now c.entries-entry-items.result.now c.loop-entry.entry-index c.entry-item.result
    c.entries-entry-items.ensures.value c.loop-entry-test.true c.entry-item.is) c.loop-entry.invariant.followed

pub returns-in-Err-clause-refused : goal.returns-in-Err-clause-refused
returns-in-Err-clause-refused g c = (
  _,
  _,
  refl,
  bad_entry c.args.schedule.now c.loop-entry.entry-index c.loop-entry.line c.number.result c.in-Err.defect c.entry-item.result
      c.loop-entry.checker
      (entry_read c.args.schedule.now c.entries-entry-items.result.now c.loop-entry.entry-index c.entry-item.result
      c.entries-entry-items.ensures.value c.loop-entry-test.true c.entry-item.is)
      c.loop-entry.invariant.followed c.in-Err.ensures.defect c.loop-entry.invariant.line c.number.ensures,
)

pub overflow_add-line-in-Ok : goal.overflow_add-line-in-Ok
overflow_add-line-in-Ok g c =
    let few = c.entries-entry-items.ensures.valid.few in
    let tasks = c.len.ensures.bound in
    let count : c.len.result ≡ length c.args.schedule.now.set.tasks = rw c.set.ensures.value at c.len.ensures.value in
    let line = c.loop-entry.invariant.line in
    let fits : c.loop-entry.entry-index < length c.args.schedule.now.entries = rw c.entries-entry-items.ensures.value at
    c.loop-entry-test.true in
    omega arith

-- the checker has followed this entry too, and these are the links after it
more : (g : Over) (c : goal.After-links g) → HasFollowed c.args.schedule.now (c.loop-entry.entry-index + 1) c.accept.new.self
more g c =
    followed_more c.args.schedule.now c.loop-entry.entry-index c.entry-item.result c.loop-entry.checker c.accept.new.self
    (entry_read c.args.schedule.now c.entries-entry-items.result.now c.loop-entry.entry-index c.entry-item.result
    c.entries-entry-items.ensures.value c.loop-entry-test.true c.entry-item.is)
    c.loop-entry.invariant.followed c.in-Ok.ensures.accepted c.in-Ok.ensures.links c.in-Ok.ensures.contexts c.accept.ensures.valid

shown : (g : Over) (c : goal.After-links g) → AreLinksAfter c.args.schedule.now.set c.args.schedule.now.entries c.loop-entry.entry-index
    c.entry-item.result c.links.result.now
shown g c =
    links_after c.args.schedule.now c.loop-entry.entry-index c.entry-item.result c.loop-entry.checker c.accept.new.self c.links.result.now
    c.entries-entry-items.ensures.valid
    (entry_read c.args.schedule.now c.entries-entry-items.result.now c.loop-entry.entry-index c.entry-item.result
    c.entries-entry-items.ensures.value c.loop-entry-test.true c.entry-item.is)
    c.loop-entry.invariant.followed (more g c) c.links.ensures.value

pub see-requires : goal.see-requires
see-requires g c = (
  c.args.schedule.now.set,
  c.args.schedule.now.entries,
  c.loop-entry.entry-index,
  c.loop-entry.invariant.seen,
  shown g c,
)

pub loop-entry-preserved : goal.loop-entry-preserved
loop-entry-preserved g c = record {
  followed = more g c.before;
  seen = c.see.ensures c.args.schedule.now.set c.args.schedule.now.entries c.loop-entry.entry-index c.loop-entry.invariant.seen
      (shown g c.before);
  line = let line = c.loop-entry.invariant.line in omega arith;
}

pub returns-clause-followed : goal.returns-clause-followed
returns-clause-followed g c =
    let all : c.loop-entry.entry-index ≡ length c.args.schedule.now.entries = le_antisymm
    (rw c.entries-entry-items.ensures.value at c.loop-entry.auto.entry-index-end)
    (rw c.entries-entry-items.ensures.value at c.loop-entry-test.false) in
    subst (λ (n : ℕ). HasFollowed c.args.schedule.now n c.loop-entry.checker) all c.loop-entry.invariant.followed

pub returns-clause-seen : goal.returns-clause-seen
returns-clause-seen g c =
    let all : c.loop-entry.entry-index ≡ length c.args.schedule.now.entries = le_antisymm
    (rw c.entries-entry-items.ensures.value at c.loop-entry.auto.entry-index-end)
    (rw c.entries-entry-items.ensures.value at c.loop-entry-test.false) in
    subst (λ (n : ℕ). g.W.Witness.has_seen c.args.schedule.now.set c.args.schedule.now.entries n c.loop-entry.witness) all
    c.loop-entry.invariant.seen
