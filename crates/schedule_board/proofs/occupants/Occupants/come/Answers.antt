use Rattle.strong_apa.specs.State.{state_with_ready}
use Rattle.schedule_board.proofs.Links.{shows_with_ready}
use Rattle.schedule_board.proofs.occupants.Occupants.come.Goals as goal

pub returns-in-Placed : goal.returns-in-Placed
returns-in-Placed c = λ s shows.
    let t = c.args.t in
    rw c.in-Placed.is (rw c.processors.ensures.value at
    (c.shift.ensures (state_with_ready s t) (shows_with_ready s t c.args.self.now shows)))

pub returns-in-Displaced : goal.returns-in-Displaced
returns-in-Displaced c = λ s shows.
    let t = c.args.t in
    rw c.in-Displaced.is (rw c.processors-in-Displaced.ensures.value at
    (c.shift-in-Displaced.ensures (state_with_ready s t) (shows_with_ready s t c.args.self.now shows)))
