-- What lies in a pass, and what contracts see of it.
use Rattle.std.specs.Prelude.{◌≡◌, List}
use Rattle.atomic_table.specs.Seated.{TableId}
use Rattle.event_history.specs.declared.pass_state.PassState.{PassState}
use Rattle.event_history.specs.declared.view.PassView.{PassView}
use Rattle.order_queues.specs.Ends.{EyeData}
use Rattle.event_history.specs.Boards.{PassData}

-- a turn word is one word with one slot
abbrev pub IsTurnTable : TableId → Type 0
IsTurnTable id = (id.words ≡ 1) × (id.slots ≡ 1)

-- the state is of this turn word
abbrev pub IsOfTurn : TableId → PassState → Type 0
IsOfTurn id state = (state.seat.table_id ≡ id) × IsTurnTable id

-- what the code reads is what the view says
pub record Agrees (state : PassState) : Type 0 where
  pub caller : state.caller ≡ state.seat.me.0.caller
  pub known : state.known ≡ state.seat.me.0.known
  pub close : state.saw_close ≡ state.seat.me.0.saw_close

-- what contracts see of a view at a board, with these eyes
abbrev pub pass_data_of : TableId → List EyeData → PassView → PassData
pass_data_of id eyes v = record {
  board = id;
  caller = v.caller;
  seen = v.seen;
  mine = v.mine;
  known = v.known;
  saw_close = v.saw_close;
  looks = v.looks;
  eyes = eyes;
}

-- what contracts see of a pass at a board, by its state
abbrev pub data_at : TableId → PassState → PassData
data_at id state = pass_data_of id state.eyes state.seat.me.0
