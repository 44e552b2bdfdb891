use Rattle.schedule_picture.proofs.Glances.{looks_all}
use Rattle.schedule_picture.proofs.rows.see_rows.Goals as goal

pub returns : goal.returns
returns c =
    looks_all c.args.n c.args.links.now c.processors-valid.ensures.valid c.args.mover c.args.lanes.now c.args.rows.now.items
    c.see_relinked.new.rows.items c.see_task.new.rows.items c.requires.before
    c.in_ok-see_relinked.ensures c.in_ok-see_task.ensures
