use Rattle.std.proofs.Common.{sym}
use Rattle.schedule_board.proofs.Links.{arrived}
use Rattle.schedule_board.proofs.occupants.Occupants.follow_arrival.Goals as goal

pub returns-in-Some : goal.returns-in-Some
returns-in-Some c = λ s shows. rw (arrived s c.args.t c.in-Some.came c.args.reply.now (sym c.in-Some.ensures)) (c.come.ensures s shows)
