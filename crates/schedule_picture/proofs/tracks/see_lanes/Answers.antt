use Rattle.std.proofs.Common.{arith}
use Rattle.schedule_picture.specs.Spans.{lane_of}
use Rattle.schedule_picture.proofs.Looking.{seen_more, seen_all}
use Rattle.schedule_picture.proofs.tracks.see_lanes.Goals as goal

pub loop-p-preserved : goal.loop-p-preserved
loop-p-preserved c =
    seen_more c.args.n (lane_of c.args.links.now) c.loop-p.p c.lane_in.result _ _ _ c.lane_in.ensures c.loop-p.invariant
    c.in_ok-see_one.ensures

pub returns : goal.returns
returns c =
    seen_all c.args.n (lane_of c.args.links.now) c.loop-p.p _ _ (let v = c.processors-p-end.ensures.value in omega arith) c.loop-p.invariant
