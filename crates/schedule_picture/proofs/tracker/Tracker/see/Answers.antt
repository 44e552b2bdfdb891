use Rattle.std.proofs.Common.{arith}
use Rattle.schedule_picture.proofs.Histories.{followed_more, see_known, shown_before, tracks_there}
use Rattle.schedule_picture.proofs.tracker.Tracker.see.Goals as goal

pub see-requires-clause-counts : goal.see-requires-clause-counts
see-requires-clause-counts c =
    let known = c.requires in
    see_known known.0 known.1 known.2 c.args.links.now c.in-Ok.tracks known.4.after
    (tracks_there known.0 known.1 known.2 c.args.self.now.tracks c.in-Ok.tracks c.in-Ok.is known.3.tracks)

pub see-requires-clause-before : goal.see-requires-clause-before
see-requires-clause-before c =
    let known = c.requires in
    shown_before known.0 known.1 known.2 c.args.entry.now c.args.links.now c.in-Ok.tracks c.mover_of.result known.4
    (tracks_there known.0 known.1 known.2 c.args.self.now.tracks c.in-Ok.tracks c.in-Ok.is known.3.tracks) c.mover_of.ensures

pub returns-in_default-see : goal.returns-in_default-see
returns-in_default-see c set entries n has known = record {
  counted = let counted = has.counted in omega arith;
  tracks = followed_more set entries n c.args.self.now.next c.args.links.now c.in-Ok.tracks c.see.new.self known.after has.counted
      (tracks_there set entries n c.args.self.now.tracks c.in-Ok.tracks c.in-Ok.is has.tracks) c.in_default-see.ensures;
}
