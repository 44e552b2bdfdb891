use Rattle.std.proofs.Common.{◌+◌, ◌<◌, length, arith}
use Rattle.trace_losses.proofs.ChainsAt.{chain_there}
use Rattle.trace_losses.proofs.Walks.{walk_first}
use Rattle.trace_losses.proofs.chains.chain_at.Goals as goal

pub walk_to-requires-clause-walk : goal.walk_to-requires-clause-walk
walk_to-requires-clause-walk c =
    walk_first c.args.set.now c.args.passages.now c.args.threads c.in_ok-trail.trail.first.processors.items
    c.in_ok-walk.walk.runners.processors.items c.in_ok-trail.trail.formers.items c.in_ok-walk.walk.core c.len-valid.ensures.valid
    c.in_ok-trail.ensures c.in_ok-walk.ensures.links c.in_ok-walk.ensures.used c.in_ok-walk.ensures.first

pub returns : goal.returns
returns c =
    let there = c.walk_to.ensures in
    let told = c.in_ok-steps.ensures in
    let all = c.requires.passages.all in
    chain_there c.args.set.now c.args.passages.now c.args.threads there.0 c.args.moment c.args.task c.walk_to.new.walk.core told.0
    c.walk_to.new.walk.runners.processors.items c.in_ok-steps.steps.items (omega (arith, all)) there.1 there.2 told.1 told.2
