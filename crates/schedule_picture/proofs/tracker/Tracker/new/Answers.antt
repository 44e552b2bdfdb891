use Rattle.std.proofs.Common.{refl}
use Rattle.schedule_picture.proofs.Histories.{fresh_follow}
use Rattle.schedule_picture.proofs.tracker.Tracker.new.Goals as goal

pub returns : goal.returns
returns c entries = record {
  counted = refl;
  tracks = fresh_follow c.args.set.now entries c.new.result (rw (c.processors.ensures.value, c.len.ensures.value) at c.new.ensures);
}
