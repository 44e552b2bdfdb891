use Rattle.std.proofs.Common.{arith, ◌≡◌, ◌∙◌, ◌≤◌, List, length}
use Rattle.std.proofs.lemmas.List.Elements.{All-weaker}
use Rattle.event_history.specs.Boards.{PassData}
use Rattle.schedule_board.specs.declared.board.Observer.{Observer}
use Rattle.schedule_board.specs.Boards.{board_at, board_of, published, IsNewObserver}
use Rattle.replay.proofs.Crews.{crew_seated, crew_done}
use Rattle.replay.proofs.Passing.{begin_streamed, count_grown, own_passes, saw_grown, saw_none, some_saw, streamed_grown}
use Rattle.replay.proofs.watched_threads.run_threads.Goals as goal

pub post_all-whole-requires-clause-passes : goal.post_all-whole-requires-clause-passes
post_all-whole-requires-clause-passes g c =
    begin_streamed c.args.shared.now.board.now 0 c.args.passes.items c.requires.run.all.1 c.requires.run.unused

pub post_all-whole-requires-clause-published : goal.post_all-whole-requires-clause-published
post_all-whole-requires-clause-published g c =
    let any : 1 ≤ length c.args.passes.items = omega (arith, c.requires.run.all.0, c.requires.run.made.callers.0) in
    saw_none (published c.args.watching.publisher) c.args.passes.items c.requires.watch.new any

pub close_by_first-requires-clause-passes : goal.close_by_first-requires-clause-passes
close_by_first-requires-clause-passes g c =
    own_passes c.args.shared.now.board.now c.args.shared.now.events.now c.post_all-whole.result 0 c.post_all-whole.new.passes.items
    c.post_all-whole.ensures.streamed

pub close_by_first-requires-clause-seated : goal.close_by_first-requires-clause-seated
close_by_first-requires-clause-seated g c =
    crew_seated c.args.shared.now.queues.now c.args.shared.now.slots.now _ 0 c.start_all-workers.result.0.items
    c.start_all-workers.result.1.items c.start_all-workers.ensures.crew

pub join_all-processors-requires-clause-crew : goal.join_all-processors-requires-clause-crew
join_all-processors-requires-clause-crew g c =
    crew_done c.args.shared.now.queues.now c.args.shared.now.slots.now _ 0 c.start_all-workers.result.0.items
    c.start_all-workers.result.1.items c.close_by_first.new.left.items c.start_all-workers.ensures.crew c.close_by_first.ensures.same
    c.close_by_first.ensures.done

pub returns : goal.returns
returns g c =
    let board = c.args.shared.now.board.now in
    let of = board_of c.args.watching.publisher in
    let mid : List PassData = c.post_all-whole.new.passes.items in
    let new : List PassData = c.close_by_first.new.passes.items in
    let posted = c.post_all-whole.ensures in
    let closed = c.close_by_first.ensures in
    let boards = All-weaker (IsNewObserver of) (λ (o : Observer). board_at o ≡ of) (λ o made. made.board)
    c.args.watching.observers.items c.requires.watch.seers in
    record {
      threads = record {
        callers = count_grown board.queues mid new closed.grown ∙ posted.callers ∙ c.requires.run.all.0;
        streamed = streamed_grown board c.args.shared.now.events.now c.post_all-whole.result 0 mid new closed.grown posted.streamed;
        closed = some_saw new closed.closed;
        one_each = c.join_all-processors.ensures.count ∙ c.start_all-workers.ensures.count;
        stopped = c.join_all-processors.ensures.each;
      };
      first_saw = saw_grown board.queues (published c.post_all-whole.new.publisher) mid new closed.grown posted.published;
      first_closed = closed.closed;
      on_board = posted.board;
      each_observer = c.join_all-observed.ensures.count ∙ c.start_all-watchers.ensures.count;
      seen = c.join_all-observed.ensures.each of (c.start_all-watchers.ensures.each of boards);
    }
