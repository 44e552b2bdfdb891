-- What contracts see of a list of moves, and the room that it keeps.
use Rattle.std.specs.Prelude.{◌≡◌}
use Rattle.std.specs.Vec.{vec_capacity}
use Rattle.live_core.specs.MoveData.{MoveData}
use Rattle.live_core.specs.declared.moves.MoveList.TheInside.{Inside}

-- the lists that are stored
abbrev pub move_view : Inside → MoveData
move_view a = record { occupants = a.occupants.items; moves = a.moves.items }

-- there is room for the moves of any event
abbrev pub HasRoom : Inside → Type 0
HasRoom a = vec_capacity a.moves ≡ 130
