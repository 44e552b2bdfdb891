use Rattle.std.proofs.Common.{◌≡◌, false, ap}
use Rattle.strong_apa.specs.State.{is_task}
use Rattle.schedule_picture.proofs.Glances.{looks_none}
use Rattle.schedule_picture.proofs.rows.see_task.Goals as goal

pub returns-in-None : goal.returns-in-None
returns-in-None c =
    looks_none c.args.n c.args.links.now (λ t. is_task t c.args.task ≡ false) c.args.rows.now.items (λ t lt. ap (is_task t) c.in-None.is)

pub returns-in_ok-see_row-in-Some : goal.returns-in_ok-see_row-in-Some
returns-in_ok-see_row-in-Some c = rw c.in-Some.is c.in_ok-see_row-in-Some.ensures
