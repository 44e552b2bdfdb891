use Rattle.std.proofs.Common.{◌≡◌, List, length, sym, ap, ◌∙◌, subst}
use Rattle.task_set.specs.TaskSet.{SetData}
use Rattle.order_queues.specs.Ends.{QueueData}
use Rattle.event_history.specs.Boards.{AreFor}
use Rattle.replay.specs.Seats.{IsSeated}
use Rattle.thread_tests.proofs.owed_orders.Bench.over.Goals as goal

pub invariant_of-result : goal.invariant_of-result
invariant_of-result g c =
    let slots = c.two_seats-slots.result.0 in
    let same : slots.set ≡ c.args.set.now = c.two_seats-slots.ensures.slots in
    let two : length slots.set.tasks ≡ 2 = ap (λ (s : SetData). length s.tasks) same ∙ c.requires.set.0 in
    record {
      tasks = (
        ap (λ (s : SetData). length s.tasks) c.board_of-board.ensures.board.0 ∙ c.requires.set.0,
        ap (λ (s : SetData). s.processors)
            c.board_of-board.ensures.board.0 ∙ c.requires.set.1,
        ap (λ (s : SetData). s.processors) same ∙ c.requires.set.1,
      );
      pass_is = c.board_of-board.ensures.pass.0;
      eyes = c.board_of-board.ensures.pass.1;
      lanes = sym (c.board_of-board.ensures.board.1 ∙ c.deref.ensures.value);
      made_for = subst (AreFor slots.set) (sym c.requires.ends) (c.requires.tasks.0 ∙ sym two, (c.requires.tasks.1 ∙ sym two, tt));
      seated = (
        subst (λ (q : List QueueData). IsSeated q slots c.two_seats-slots.result.1) c.deref-2.ensures.value c.two_seats-slots.ensures.first,
        subst (λ (q : List QueueData). IsSeated q slots c.two_seats-slots.result.2)
            c.deref-2.ensures.value c.two_seats-slots.ensures.second,
      );
    }
