use Rattle.std.proofs.Common.{◌+◌, List, length, sym, subst}
use Rattle.event_history.specs.Boards.{PassData}
use Rattle.replay.specs.Places.{AllFrom}
use Rattle.replay.specs.Streams.{IsStreamedAt, SomeSawClose}
use Rattle.replay.proofs.Places.{AllFrom-last, AllFrom-push}
use Rattle.replay.proofs.Posts.{streamed_stays, saw_last}
use Rattle.replay.proofs.on_threads.close_by_last.Goals as goal

pub close_core-requires-clause-board : goal.close_core-requires-clause-board
close_core-requires-clause-board g c =
    let P = IsStreamedAt c.args.shared.now.board.now c.args.shared.now.events.now c.args.whole in
    (AllFrom-last P 0 c.pop.new.self.items c.in-Some.last (subst (AllFrom P 0) c.in-Some.ensures.items c.requires.streamed)).1.own.of_board

pub close_core-requires-clause-eyes : goal.close_core-requires-clause-eyes
close_core-requires-clause-eyes g c =
    let P = IsStreamedAt c.args.shared.now.board.now c.args.shared.now.events.now c.args.whole in
    (AllFrom-last P 0 c.pop.new.self.items c.in-Some.last (subst (AllFrom P 0) c.in-Some.ensures.items c.requires.streamed)).1.own.eyes

pub returns-clause-streamed : goal.returns-clause-streamed
returns-clause-streamed g c =
    let P = IsStreamedAt c.args.shared.now.board.now c.args.shared.now.events.now c.args.whole in
    let left : List PassData = c.pop.new.self.items in
    let new : PassData = c.close_core.new.pass in
    let last = AllFrom-last P 0 left c.in-Some.last (subst (AllFrom P 0) c.in-Some.ensures.items c.requires.streamed) in
    subst (AllFrom P 0) (sym c.in_default-push.ensures.items) (AllFrom-push P 0 left new last.0
    (streamed_stays c.args.shared.now.board.now c.args.shared.now.events.now c.args.whole (0 + length left)
    c.in-Some.last new last.1 c.close_core.ensures.grown c.close_core.ensures.mine c.close_core.ensures.eyes))

pub returns-clause-closed : goal.returns-clause-closed
returns-clause-closed g c = subst SomeSawClose (sym c.in_default-push.ensures.items)
    (saw_last c.pop.new.self.items c.close_core.new.pass c.close_core.ensures.closed)
