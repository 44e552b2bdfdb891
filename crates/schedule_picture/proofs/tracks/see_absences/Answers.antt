use Rattle.std.proofs.Common.{arith}
use Rattle.schedule_picture.specs.Spans.{absence_of}
use Rattle.schedule_picture.proofs.Looking.{seen_more, seen_all}
use Rattle.schedule_picture.proofs.tracks.see_absences.Goals as goal

pub loop-p-preserved : goal.loop-p-preserved
loop-p-preserved c =
    seen_more c.args.n (absence_of c.args.links.now) c.loop-p.p c.absence_in.result _ _ _ c.absence_in.ensures c.loop-p.invariant
    c.in_ok-see_one.ensures

pub returns : goal.returns
returns c = seen_all c.args.n (absence_of c.args.links.now) c.loop-p.p _ _ (let v = c.processors-p-end.ensures.value in omega arith)
    c.loop-p.invariant
