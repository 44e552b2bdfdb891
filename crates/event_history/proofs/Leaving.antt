-- What a pass has seen and done after a turn that left no entry, or where it found the turn busy.
use Rattle.std.proofs.Common.{◌≡◌, ℕ, ◌*◌, ◌≤◌, Bool, true, List, [], ◌∷◌, ◌++◌, length, max, Some, refl, sym, ap, ◌∙◌, subst, ⊎_elim}
use Rattle.std.proofs.Common.{arith}
use mathlib.Core.List.{IsPrefix}
use Rattle.atomic_table.specs.Seated.{TableId}
use Rattle.task_set.specs.TaskSet.{SetData}
use Rattle.task_set.specs.declared.event.Event.{Event}
use Rattle.strong_apa.specs.declared.reply.Entry.{Entry}
use Rattle.strong_apa.specs.History.{IsLegal}
use Rattle.strong_apa.specs.State.{start_of}
use Rattle.sched_core.specs.CoreData.{CoreData, entry_of, max_entries}
use Rattle.order_queues.specs.Ends.{EyeData}
use Rattle.event_history.specs.Boards.{Grown}
use Rattle.event_history.specs.Copying.{HadTurn}
use Rattle.event_history.specs.Entering.{Entered}
use Rattle.event_history.specs.Holdings.{HeldData, queues_of}
use Rattle.event_history.specs.PassStates.{pass_data_of}
use Rattle.event_history.specs.Posting.{SawAll, WasBusy, BusyLooks, turn_looks}
use Rattle.event_history.specs.Turn.{Setting, TurnSeat, HasTurn, IsBusy, MayLeave, MayRecord, after_leave}
use Rattle.event_history.specs.declared.fault.Receipt.{Receipt}
use Rattle.event_history.specs.declared.view.PassView.{PassView}
use Rattle.event_history.proofs.Prefixes.{prefix_refl}

-- the looks of a call that found the turn busy are those before it, and more
pub busy_looks : (before after : List ℕ) (found : ℕ) → BusyLooks before after found → (gained : List ℕ) × (after ≡ before ++ gained)
busy_looks before after found looks = ⊎_elim (λ odd. (found ∷ [], odd.0)) (λ even. (even.0 ∷ found ∷ [], even.1)) looks

-- a pass that found the turn busy has grown, and knows no more of the history
pub busy_grown : (id : TableId) (old new : List EyeData) (v : PassView) (m : TurnSeat) (found : ℕ) → IsBusy v m found
    → Grown (pass_data_of id old v) (pass_data_of id new m.0)
busy_grown id old new v m found busy = record {
  board = refl;
  caller = busy.caller;
  seen = subst (IsPrefix v.seen) (sym busy.seen) (prefix_refl v.seen);
  known = busy.known;
  close = λ saw. busy.close ∙ saw;
  looks = busy_looks v.looks m.0.looks found busy.looks;
}

pub busy_was : (id : TableId) (old new : List EyeData) (v : PassView) (m : TurnSeat) (found : ℕ) → IsBusy v m found
    → WasBusy (pass_data_of id old v) (pass_data_of id new m.0) found
busy_was id old new v m found busy = record { seen = busy.seen; mine = busy.mine; close = busy.close; looks = busy.looks }

-- what was taken may be left, where its history is the same, and it is closed if it was
pub may_leave : (of to : Setting) (v : PassView) (m : TurnSeat) (held now : HeldData) → of ≡ to → HasTurn of v m held
    → now.core.history ≡ held.core.history
    → (held.core.closed ≡ true → now.core.closed ≡ true) → now.core.start ≡ held.core.start → queues_of now.senders ≡ queues_of held.senders
    → MayLeave to m now
may_leave of to v m held now is turn history stays start queues = record {
  pass = turn.pass;
  slot = turn.slot;
  was = held.core.closed;
  had = turn.had ∙ ap (λ (l : List Entry). Some (l, held.core.closed)) (sym history);
  stays = stays;
  start = start ∙ turn.start ∙ ap (λ (s : Setting). start_of s.set) is;
  queues = queues ∙ turn.queues ∙ ap (λ (s : Setting). s.queues) is;
}

-- what was taken may be put back with one entry more
pub may_record : (of to : Setting) (v : PassView) (m : TurnSeat) (held now : HeldData) (caller : ℕ) (event : Event) (receipt : Receipt)
    → of ≡ to → HasTurn of v m held
    → Entered held.core caller event now.core receipt → now.senders ≡ held.senders → caller ≡ m.0.caller → MayRecord to m now
may_record of to v m held now caller event receipt is turn entered senders by = record {
  pass = turn.pass;
  slot = turn.slot;
  before = held.core.history;
  entry = entry_of caller event receipt.reply;
  had = turn.had ∙ ap (λ (b : Bool). Some (held.core.history, b)) entered.was_open;
  items = entered.history;
  is_open = entered.is_open;
  by = by;
  start = entered.start ∙ turn.start ∙ ap (λ (s : Setting). start_of s.set) is;
  queues = ap queues_of senders ∙ turn.queues ∙ ap (λ (s : Setting). s.queues) is;
}

module _ (of : Setting) (id : TableId) (old new : List EyeData) (v : PassView) (m left : TurnSeat) (held : HeldData) (core : CoreData) where
  -- a pass that left its turn has grown
  pub left_grown : HasTurn of v m held → core.history ≡ held.core.history → (held.core.closed ≡ true → core.closed ≡ true)
      → left ≡ (after_leave m.0 core, [])
      → Grown (pass_data_of id old v) (pass_data_of id new left.0)
  left_grown turn history stays is =
      let view : left.0 ≡ after_leave m.0 core = ap (λ (s : TurnSeat). s.0) is in
      let known : left.0.known ≡ max m.0.known (length core.history) = ap (λ (x : PassView). x.known) view in
      let knew = turn.knows in
      record {
        board = refl;
        caller = ap (λ (x : PassView). x.caller) view ∙ turn.caller;
        seen = subst (IsPrefix v.seen) (sym (ap (λ (x : PassView). x.seen) view ∙ history)) turn.begins;
        known = omega (arith, known, knew);
        close = λ saw. ap (λ (x : PassView). x.saw_close) view ∙ stays (turn.closed saw);
        looks = (2 * length held.core.history ∷ 2 * length held.core.history ∷ [], ap (λ (x : PassView). x.looks) view ∙ turn.looks);
      }

  pub left_mine : HasTurn of v m held → left ≡ (after_leave m.0 core, []) → left.0.mine ≡ v.mine
  left_mine turn is = ap (λ (s : TurnSeat). s.0.mine) is ∙ turn.mine

  -- it has seen the whole history of that turn
  pub left_saw : (set : SetData) → HasTurn of v m held → core.history ≡ held.core.history → left ≡ (after_leave m.0 core, [])
      → IsLegal set core.history
      → SawAll set (pass_data_of id old v) (pass_data_of id new left.0)
  left_saw set turn history is legal =
      let seen : left.0.seen ≡ core.history = ap (λ (s : TurnSeat). s.0.seen) is in
      let known : left.0.known ≡ max m.0.known (length core.history) = ap (λ (s : TurnSeat). s.0.known) is in
      let had = turn.known in
      record {
        legal = subst (IsLegal set) (sym seen) legal;
        mine = left_mine turn is;
        known = omega (arith, known, had, ap length history, ap length seen);
      }

  pub left_looks : HasTurn of v m held → core.history ≡ held.core.history → left ≡ (after_leave m.0 core, [])
      → left.0.looks ≡ turn_looks v.looks (length left.0.seen)
  left_looks turn history is =
      let seen : left.0.seen ≡ held.core.history = ap (λ (s : TurnSeat). s.0.seen) is ∙ history in
      ap (λ (s : TurnSeat). s.0.looks) is ∙ turn.looks ∙ ap (λ (l : List Entry). turn_looks v.looks (length l)) (sym seen)

  pub left_had : (set : SetData) → HasTurn of v m held → core.history ≡ held.core.history → left ≡ (after_leave m.0 core, [])
      → IsLegal set core.history → length core.history ≤ max_entries
      → HadTurn set (pass_data_of id old v) (pass_data_of id new left.0)
  left_had set turn history is legal fits =
      let seen : left.0.seen ≡ core.history = ap (λ (s : TurnSeat). s.0.seen) is in
      record { saw = left_saw set turn history is legal; few = omega (arith, fits, ap length seen); looks = left_looks turn history is }
