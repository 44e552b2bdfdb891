use Rattle.std.proofs.Common.{◌∙◌, ◌++◌, ◌∷◌, [], true, List}
use Rattle.event_history.specs.Boards.{PassData}
use Rattle.schedule_board.specs.Boards.{published}
use Rattle.replay.proofs.Passing.{count_grown, not_whole, streamed_grown}
use Rattle.replay.proofs.posting.post_and_publish.Goals as goal

pub returns-in_err-owing-clause-published : goal.returns-in_err-owing-clause-published
returns-in_err-owing-clause-published g c = c.post_event.ensures.seen (published c.args.publisher.now) c.requires.published

pub publish_new-requires-clause-passes : goal.publish_new-requires-clause-passes
publish_new-requires-clause-passes g c = c.post_event.ensures.passes

pub publish_new-requires-clause-published : goal.publish_new-requires-clause-published
publish_new-requires-clause-published g c = c.post_event.ensures.seen (published c.args.publisher.now) c.requires.published

pub returns-in-Ok-clause-callers : goal.returns-in-Ok-clause-callers
returns-in-Ok-clause-callers g c =
    count_grown c.args.shared.now.board.now.queues c.post_event.new.passes.items c.publish_new.new.passes.items c.publish_new.ensures.grown
    ∙ c.post_event.ensures.callers

pub returns-in-Err-clause-callers : goal.returns-in-Err-clause-callers
returns-in-Err-clause-callers g c =
    count_grown c.args.shared.now.board.now.queues c.post_event.new.passes.items c.publish_new.new.passes.items c.publish_new.ensures.grown
    ∙ c.post_event.ensures.callers

pub returns-in-Ok-clause-posted : goal.returns-in-Ok-clause-posted
returns-in-Ok-clause-posted g c = λ done streamed.
    let board = c.args.shared.now.board.now in
    let mid : List PassData = c.post_event.new.passes.items in
    streamed_grown board (done ++ c.args.posted ∷ []) true 0 mid c.publish_new.new.passes.items c.publish_new.ensures.grown
    (c.in_ok-owing.ensures.posted done streamed)

pub returns-in-Err-clause-posted : goal.returns-in-Err-clause-posted
returns-in-Err-clause-posted g c = λ done streamed.
    let board = c.args.shared.now.board.now in
    let mid : List PassData = c.post_event.new.passes.items in
    let new : List PassData = c.publish_new.new.passes.items in
    not_whole board (done ++ c.args.posted ∷ []) (done ++ c.args.posted ∷ []) true 0 new
    (streamed_grown board (done ++ c.args.posted ∷ []) true 0 mid new c.publish_new.ensures.grown
    (c.in_ok-owing.ensures.posted done streamed))
