use Rattle.std.proofs.Common.{arith}
use Rattle.schedule_picture.proofs.Looking.{ended_more, ended_all}
use Rattle.schedule_picture.proofs.tracks.end_all.Goals as goal

pub loop-x-preserved : goal.loop-x-preserved
loop-x-preserved c = ended_more c.args.until c.loop-x.x _ _ _ c.loop-x.invariant c.in_ok-end_one.ensures

pub returns : goal.returns
returns c = ended_all c.args.until c.loop-x.x _ _ (omega arith) c.loop-x.invariant
