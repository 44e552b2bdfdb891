use Rattle.std.proofs.Common.{◌++◌, ◌∷◌, [], true, false, take, List}
use Rattle.trace_reader.specs.declared.posted.Posted.{Posted}
use Rattle.replay.proofs.Passing.{not_whole, own_passes}
use Rattle.replay.proofs.posting.post_all.Goals as goal

pub post_and_publish-requires-clause-passes : goal.post_and_publish-requires-clause-passes
post_and_publish-requires-clause-passes g c =
    own_passes c.args.shared.now.board.now (take c.loop-posted.posted-index c.args.shared.now.events.now)
    true 0 c.loop-posted.passes.items c.loop-posted.invariant.streamed

pub returns-in-None-clause-streamed : goal.returns-in-None-clause-streamed
returns-in-None-clause-streamed g c =
    let done : List Posted = take c.loop-posted.posted-index c.args.shared.now.events.now in
    not_whole c.args.shared.now.board.now (done ++ c.posted-item.result ∷ [])
    c.args.shared.now.events.now false 0 c.post_and_publish.new.passes.items
    (c.in-None.ensures.posted done c.loop-posted.invariant.streamed)
