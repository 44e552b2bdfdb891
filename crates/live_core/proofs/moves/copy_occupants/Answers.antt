use Rattle.std.proofs.Common.{arith}
use Rattle.live_core.proofs.Copying.{copied_first, copied_more, copied_whole}
use Rattle.live_core.proofs.moves.copy_occupants.Goals as goal

pub loop-p-init : goal.loop-p-init
loop-p-init c = copied_first c.args.links.now c.args.occupants.now c.requires

pub loop-p-preserved : goal.loop-p-preserved
loop-p-preserved c = copied_more c.args.links.now c.loop-p.p c.loop-p.occupants c.on.result
    (let n = c.processors-p-end.ensures.value in let m = c.loop-p-test.true in omega arith) c.on.ensures.value c.loop-p.invariant

pub returns : goal.returns
returns c = copied_whole c.args.links.now c.processors-p-end.ensures.valid c.loop-p.p c.loop-p.occupants
    (let n = c.processors-p-end.ensures.value in let m = c.loop-p-test.false in omega arith) c.loop-p.invariant
