use Rattle.std.proofs.Common.{◌∙◌}
use Rattle.schedule_board.proofs.occupants.Occupants.fill.Goals as goal

pub returns-in-Some : goal.returns-in-Some
returns-in-Some c = λ s shows. rw c.in-Some.is (rw (c.processors.ensures.value ∙ c.reversed.ensures) at (c.shift.ensures s shows))
