use Rattle.std.proofs.Common.{sym}
use Rattle.schedule_board.proofs.Links.{departed}
use Rattle.strong_apa.specs.State.{state_after_leaving}
use Rattle.schedule_board.proofs.occupants.Occupants.follow_departure.Goals as goal

pub returns-in-Some : goal.returns-in-Some
returns-in-Some c = λ s shows. rw (departed s c.args.t c.in-Some.gone c.args.reply.now (sym c.in-Some.ensures))
    (c.fill.ensures (state_after_leaving s c.args.t) (c.leave.ensures s shows))
