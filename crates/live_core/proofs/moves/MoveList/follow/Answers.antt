use Rattle.std.proofs.Common.{ap}
use Rattle.live_core.specs.MoveData.{MoveData}
use Rattle.live_core.proofs.Replaying.{DoesMore-replays}
use Rattle.live_core.proofs.moves.MoveList.follow.Goals as goal

pub add-requires-clause-can : goal.add-requires-clause-can
add-requires-clause-can c = rw c.clear.ensures c.requires

pub returns-clause-moves : goal.returns-clause-moves
returns-clause-moves c =
    let replays = DoesMore-replays 130 c.clear.new.self c.add.new.self (ap (λ (data' : MoveData). data'.moves) c.clear.ensures)
    c.add.ensures.more in
    rw c.clear.ensures at replays.0

pub returns-clause-few : goal.returns-clause-few
returns-clause-few c =
    (DoesMore-replays 130 c.clear.new.self c.add.new.self (ap (λ (data' : MoveData). data'.moves) c.clear.ensures) c.add.ensures.more).1

pub returns-clause-occupants : goal.returns-clause-occupants
returns-clause-occupants c = λ after leads. c.add.ensures.occupants after (rw c.clear.ensures leads)
