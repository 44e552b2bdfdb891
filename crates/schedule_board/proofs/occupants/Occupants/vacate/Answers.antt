use Rattle.strong_apa.specs.State.{state_after_leaving}
use Rattle.schedule_board.proofs.occupants.Occupants.vacate.Goals as goal

pub returns-in-Some : goal.returns-in-Some
returns-in-Some c = λ s shows. rw c.in-Some.is (c.fill.ensures (state_after_leaving s c.args.t) (c.leave.ensures s shows))
