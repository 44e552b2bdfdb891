use Rattle.strong_apa.specs.State.{state_after_leaving, state_with_offline}
use Rattle.schedule_board.proofs.Links.{shows_with_offline}
use Rattle.schedule_board.proofs.occupants.Occupants.follow_offline.Goals as goal

pub returns-in-Some : goal.returns-in-Some
returns-in-Some c = λ s p shows.
    let t = c.in-Some.moved.task in
    let left = state_after_leaving s t in
    let after = c.come.ensures (state_with_offline left p) (shows_with_offline left p c.leave.new.self (c.leave.ensures s shows)) in
    rw (c.in-Off.is, c.in-Some.is) after
