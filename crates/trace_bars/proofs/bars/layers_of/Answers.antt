use Rattle.trace_losses.proofs.Walks.{walk_first}
use Rattle.trace_bars.proofs.bars.layers_of.Goals as goal

pub fill-requires-clause-walk : goal.fill-requires-clause-walk
fill-requires-clause-walk c =
    walk_first c.args.set.now c.args.passages.now _ c.args.trail.now.first.processors.items c.in_ok-walk.walk.runners.processors.items
    c.args.trail.now.formers.items c.in_ok-walk.walk.core c.len-valid.ensures.valid c.requires.trail c.in_ok-walk.ensures.links
    c.in_ok-walk.ensures.used c.in_ok-walk.ensures.first
