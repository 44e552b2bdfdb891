use Rattle.std.proofs.Common.{rules, refl}
use Rattle.schedule_picture.proofs.Places.{row_linked, row_waiting}
use Rattle.schedule_picture.proofs.rows.row_in.Goals as goal

pub returns-in-Some : goal.returns-in-Some
returns-in-Some c = row_linked c.args.links.now c.args.t c.in-Some.p c.of.ensures.valid (search rules) c.in-Some.ensures.place

pub returns-in-None : goal.returns-in-None
returns-in-None c = row_waiting c.args.links.now c.args.t (search rules) (c.in-None.ensures.none.0 refl)
