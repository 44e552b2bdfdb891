use Rattle.trace_losses.proofs.Walks.{walk_first}
use Rattle.trace_losses.proofs.count.watches_of.Goals as goal

pub watch_all-requires-clause-walk : goal.watch_all-requires-clause-walk
watch_all-requires-clause-walk c =
    walk_first c.args.set.now c.args.passages.now c.args.threads c.args.trail.now.first.processors.items
    c.in_ok-walk.walk.runners.processors.items
    c.args.trail.now.formers.items c.in_ok-walk.walk.core c.len-valid.ensures.valid c.requires.trail c.in_ok-walk.ensures.links
    c.in_ok-walk.ensures.used
    c.in_ok-walk.ensures.first
