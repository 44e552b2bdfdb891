use Rattle.std.proofs.Common.{rules}
use Rattle.schedule_board.proofs.Pictures.{follows}
use Rattle.schedule_board.proofs.picture.Picture.follow.Goals as goal

pub returns-clause-drawn : goal.returns-clause-drawn
returns-clause-drawn c = λ m entries h. follows m entries c.args.entry.now c.args.self.now _ (search rules) c.follow.ensures h
