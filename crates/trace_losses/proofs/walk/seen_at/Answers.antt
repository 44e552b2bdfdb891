use Rattle.std.proofs.Common.{arith}
use Rattle.trace_losses.proofs.SeenMoments.{none_seen}
use Rattle.trace_losses.proofs.walk.seen_at.Goals as goal

pub returns-else-t-len : goal.returns-else-t-len
returns-else-t-len c =
    none_seen c.args.links.now c.processors-valid.ensures.valid c.args.t
    (let count = c.len.ensures in let from = c.if-t-len.false in omega (arith, count, from)) c.args.runs
