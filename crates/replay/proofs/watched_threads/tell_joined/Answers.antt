use Rattle.std.proofs.Common.{◌∙◌, List}
use Rattle.event_history.specs.Boards.{PassData}
use Rattle.replay.proofs.Passing.{close_grown, count_grown, not_whole, own_passes, some_saw, streamed_grown}
use Rattle.replay.proofs.watched_threads.tell_joined.Goals as goal

pub tell_whole-requires-clause-passes : goal.tell_whole-requires-clause-passes
tell_whole-requires-clause-passes g c =
    let threaded = c.args.joined.threaded in
    own_passes c.args.shared.now.board.now c.args.shared.now.events.now threaded.whole 0 threaded.passes.items
    c.requires.joined.threads.streamed

pub returns-in-Ok : goal.returns-in-Ok
returns-in-Ok g c =
    let board = c.args.shared.now.board.now in
    let joined = c.requires.joined in
    let left = c.args.joined.threaded in
    let old : List PassData = left.passes.items in
    let new : List PassData = c.tell_whole.new.passes.items in
    let grown = c.tell_whole.ensures.grown in
    let told = c.in-Ok.ensures.each in
    record {
      threads = record {
        callers = count_grown board.queues old new grown ∙ joined.threads.callers;
        streamed = streamed_grown board c.args.shared.now.events.now left.whole 0 old new grown joined.threads.streamed;
        closed = some_saw new (close_grown board.queues old new grown joined.first_closed);
        one_each = joined.threads.one_each;
        stopped = joined.threads.stopped;
      };
      first_closed = close_grown board.queues old new grown joined.first_closed;
      told = λ _. record { each_observer = c.in-Ok.ensures.count; entries = told.0; all_seen = told.1; told = told.2 };
    }

pub returns-in-Err : goal.returns-in-Err
returns-in-Err g c =
    let board = c.args.shared.now.board.now in
    let events = c.args.shared.now.events.now in
    let joined = c.requires.joined in
    let left = c.args.joined.threaded in
    let old : List PassData = left.passes.items in
    let new : List PassData = c.tell_whole.new.passes.items in
    let grown = c.tell_whole.ensures.grown in
    record {
      threads = record {
        callers = count_grown board.queues old new grown ∙ joined.threads.callers;
        streamed =
            not_whole board events events left.whole 0 new (streamed_grown board events left.whole 0 old new grown joined.threads.streamed);
        closed = some_saw new (close_grown board.queues old new grown joined.first_closed);
        one_each = joined.threads.one_each;
        stopped = joined.threads.stopped;
      };
      first_closed = close_grown board.queues old new grown joined.first_closed;
      told = λ all. absurd (cc all);
    }
