use Rattle.std.proofs.Common.{ℕ, rules, arith, ◌≡◌, ◌∙◌, ◌+◌, List, map, ap, sym, subst, length, length-append, [], ◌∷◌}
use Rattle.atomic_table.specs.Seated.{TableId}
use Rattle.task_set.specs.TaskSet.{SetData, IsTaskSet}
use Rattle.order_queues.specs.Ends.{QueueData, EyeData, new_eye}
use Rattle.event_history.specs.Boards.{PassData, AreNewPassesFrom, AreFor, new_pass}
use Rattle.event_history.specs.Gathering.{AreRows}
use Rattle.event_history.specs.Holdings.{NoneSent, queues_of}
use Rattle.event_history.specs.PassStates.{pass_data_of}
use Rattle.event_history.specs.declared.pass_state.PassState.{PassState}
use Rattle.event_history.specs.Turn.{TurnSeat, fresh}
use Rattle.event_history.proofs.Owes.{new_none, new_queues}
use Rattle.event_history.proofs.Passes.{new_all, new_snoc, rows_split}
use Rattle.event_history.proofs.board.Board.new.Goals as goal

-- the first pass stands before the others, which were made in order
made_in_order : (id : TableId) (queues of : List QueueData) (first : PassState) (caller : ℕ) (rest all : List PassData) → of ≡ queues
    → first.seat.table_id ≡ id → first.eyes ≡ map new_eye queues → first.seat.me ≡ (fresh 0 caller, [])
    → AreNewPassesFrom id (map new_eye queues) 1 rest → all ≡ pass_data_of first.seat.table_id first.eyes first.seat.me.0 ∷ rest
    → AreNewPassesFrom id (map new_eye of) 0 all
made_in_order id queues of first caller rest all same at_table eyes me made items =
    let eye_row : List EyeData = map new_eye queues in
    let one : pass_data_of first.seat.table_id first.eyes first.seat.me.0 ≡ new_pass id eye_row 0 = λ k. pass_data_of (at_table k) (eyes k)
    (ap (λ (m : TurnSeat). m.0) me k) in
    subst (λ (q : List QueueData). AreNewPassesFrom id (map new_eye q) 0 all) (sym same)
    (subst (AreNewPassesFrom id eye_row 0) (sym items) (one, made))

pub eye_rows-requires : goal.eye_rows-requires
eye_rows-requires c = ap queues_of c.requires.senders ∙ new_queues c.args.queues.now

pub open-requires-clause-fresh : goal.open-requires-clause-fresh
open-requires-clause-fresh c = subst NoneSent (sym (c.eye_rows.ensures.senders ∙ c.requires.senders)) (new_none c.args.queues.now)

pub loop-caller-init : goal.loop-caller-init
loop-caller-init c =
    let eye_row : List EyeData = map new_eye c.args.queues.now in
    let seat = c.in-Ok-open.ensures.seat in
    let split = rows_split eye_row c.pop.new.self.items c.in-Some.eyes
    (subst (AreRows eye_row) c.in-Some.ensures.items c.in-Ok.ensures.rows.1) in
    record {
      at_table = c.in-Ok-open.ensures.table.1;
      first = seat;
      eyes = split.1;
      agrees = record {
        caller = sym (ap (λ (m : TurnSeat). m.0.caller) seat);
        known = sym (ap (λ (m : TurnSeat). m.0.known) seat);
        close = sym (ap (λ (m : TurnSeat). m.0.saw_close) seat);
      };
      count = search rules;
      rows = omega (
        arith,
        c.in-Ok.ensures.rows.0,
        ap length c.in-Some.ensures.items,
        length-append c.pop.new.self.items
            (c.in-Some.eyes ∷ []),
        c.in-Ok-open.ensures.key.2,
      );
      same = split.0;
      room = search rules;
      made = subst (AreNewPassesFrom c.in-Ok-open.made.0.shared.table_id eye_row 1) (sym c.in-Ok-with_capacity.ensures.items) tt;
    }

pub loop-caller-preserved : goal.loop-caller-preserved
loop-caller-preserved c =
    let i = c.loop-caller.invariant in
    let eye_row : List EyeData = map new_eye c.args.queues.now in
    let id = c.in-Ok-open.made.0.shared.table_id in
    let made = c.make-state.ensures.made in
    let first = c.make-state.ensures.first in
    let state = c.make-state.result in
    let split = rows_split eye_row c.pop-in-loop-caller.new.self.items c.in-Some-pop.eyes
    (subst (AreRows eye_row) c.in-Some-pop.ensures.items i.same) in
    let place : c.loop-caller.caller ≡ 1 + length c.loop-caller.passes.items = omega (arith, i.count) in
    let view : state.seat.me.0 ≡ _ = ap (λ (m : TurnSeat). m.0) made.2 in
    let eyes : state.eyes ≡ eye_row = made.3 ∙ split.1 in
    let same : pass_data_of state.seat.table_id state.eyes state.seat.me.0 ≡ new_pass id eye_row (1 + length c.loop-caller.passes.items) =
    (λ k. pass_data_of (made.1 k) (eyes k) (view k)) ∙ ap (new_pass id eye_row) place in
    record {
      at_table = first.1;
      first = first.2;
      eyes = ap (λ t. t.eyes) first.0 ∙ i.eyes;
      agrees = record {
        caller = ap (λ t. t.caller) first.0 ∙ i.agrees.caller ∙ ap (λ (m : TurnSeat). m.0.caller) i.first
            ∙ sym (ap (λ (m : TurnSeat). m.0.caller) first.2);
        known = ap (λ t. t.known) first.0 ∙ i.agrees.known ∙ ap (λ (m : TurnSeat). m.0.known) i.first
            ∙ sym (ap (λ (m : TurnSeat). m.0.known) first.2);
        close = ap (λ t. t.saw_close) first.0 ∙ i.agrees.close ∙ ap (λ (m : TurnSeat). m.0.saw_close) i.first
            ∙ sym (ap (λ (m : TurnSeat). m.0.saw_close) first.2);
      };
      count = omega (arith, i.count, c.push_reserved.ensures.len);
      rows = omega (
        arith,
        i.rows,
        ap length c.in-Some-pop.ensures.items,
        length-append c.pop-in-loop-caller.new.self.items
            (c.in-Some-pop.eyes ∷ []),
      );
      same = split.0;
      room = omega (arith, i.room, c.push_reserved.ensures.capacity);
      made = subst (AreNewPassesFrom id eye_row 1) (sym c.push_reserved.ensures.items)
          (new_snoc id eye_row 1 c.loop-caller.passes.items _ i.made same);
    }

pub invariant_of-result : goal.invariant_of-result
invariant_of-result c =
    let key = c.in-Ok-open.ensures.key in
    let queues : queues_of c.in-Ok-open.made.0.shared.key.senders.value.items
    ≡ c.args.queues.now = ap queues_of (key.1 ∙ c.eye_rows.ensures.senders ∙ c.requires.senders) ∙ new_queues c.args.queues.now in
    record {
      table = c.in-Ok-open.ensures.table.0;
      made = record {
        valid = subst IsTaskSet (sym key.0) c.len-number.ensures.valid;
        one_each = ap length queues ∙ c.requires.one_each ∙ ap (λ (s : SetData). s.processors) (sym key.0);
        tasks = subst (λ (s : SetData). AreFor s (queues_of c.in-Ok-open.made.0.shared.key.senders.value.items)) (sym key.0)
            (subst (AreFor c.args.set.now) (sym queues) c.requires.tasks);
        callers = (omega (arith, key.2, c.requires.callers.0), omega (arith, key.2, c.requires.callers.1));
      };
    }

pub returns-clause-board : goal.returns-clause-board
returns-clause-board c =
    let key = c.in-Ok-open.ensures.key in
    (key.0, ap queues_of (key.1 ∙ c.eye_rows.ensures.senders ∙ c.requires.senders) ∙ new_queues c.args.queues.now, key.2)

pub returns-clause-passes : goal.returns-clause-passes
returns-clause-passes c =
    let key = c.in-Ok-open.ensures.key in
    let queues : queues_of c.in-Ok-open.made.0.shared.key.senders.value.items
    ≡ c.args.queues.now = ap queues_of (key.1 ∙ c.eye_rows.ensures.senders ∙ c.requires.senders) ∙ new_queues c.args.queues.now in
    let i = c.loop-caller.invariant in (
      omega (arith, ap length c.in-Ok-insert.ensures.items, i.count, key.2, i.rows, c.loop-caller-test.false, c.requires.callers.0),
      made_in_order c.in-Ok-open.made.0.shared.table_id c.args.queues.now _ c.loop-caller.first c.loop-caller.caller
          c.loop-caller.passes.items c.insert.new.self.items queues i.at_table i.eyes i.first i.made c.in-Ok-insert.ensures.items,
    )

pub returns-clause-all : goal.returns-clause-all
returns-clause-all c =
    let key = c.in-Ok-open.ensures.key in
    let queues : queues_of c.in-Ok-open.made.0.shared.key.senders.value.items
    ≡ c.args.queues.now = ap queues_of (key.1 ∙ c.eye_rows.ensures.senders ∙ c.requires.senders) ∙ new_queues c.args.queues.now in
    let i = c.loop-caller.invariant in (
      omega (arith, ap length c.in-Ok-insert.ensures.items, i.count, key.2, i.rows, c.loop-caller-test.false, c.requires.callers.0),
      new_all (record {
        id = c.in-Ok-open.made.0.shared.table_id;
        set = c.in-Ok-open.made.0.shared.key.set.value;
        queues = queues_of c.in-Ok-open.made.0.shared.key.senders.value.items;
        callers = c.in-Ok-open.made.0.shared.key.callers;
      })
          0 c.insert.new.self.items (made_in_order c.in-Ok-open.made.0.shared.table_id c.args.queues.now _ c.loop-caller.first
          c.loop-caller.caller c.loop-caller.passes.items c.insert.new.self.items queues i.at_table i.eyes i.first i.made
          c.in-Ok-insert.ensures.items),
    )
