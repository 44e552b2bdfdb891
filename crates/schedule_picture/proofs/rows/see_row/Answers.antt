use Rattle.std.proofs.Common.{arith}
use Rattle.schedule_picture.proofs.Glances.{looks_one, looks_far}
use Rattle.schedule_picture.proofs.rows.see_row.Goals as goal

pub returns-then-t-len : goal.returns-then-t-len
returns-then-t-len c = looks_far c.args.n c.args.t c.args.links.now c.args.rows.now.items
    (let v = c.len.ensures.value in let count = c.requires in omega arith)

pub returns : goal.returns
returns c = looks_one c.args.n c.args.t c.args.links.now c.row_in.result c.args.rows.now.items _ c.row_in.ensures c.in_ok-see_one.ensures
