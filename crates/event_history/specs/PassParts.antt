-- What contracts see of a pass.
use Rattle.event_history.specs.Boards.{PassData}
use Rattle.event_history.specs.Turn.{IsFree}
use Rattle.event_history.specs.PassStates.{Agrees, pass_data_of}
use Rattle.event_history.specs.declared.pass.Pass.TheInside.{Inside}

-- what its view says
abbrev pub pass_data : Inside → PassData
pass_data a = pass_data_of a.state.seat.table_id a.state.eyes a.state.seat.me.0

-- between calls it has no turn
pub record IsAtRest (a : Inside) : Type 0 where
  pub free : IsFree a.state.seat.me
  pub agrees : Agrees a.state
