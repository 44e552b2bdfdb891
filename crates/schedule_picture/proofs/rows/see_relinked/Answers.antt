use Rattle.std.proofs.Common.{◌≡◌, ℕ, ◌<◌, arith}
use Rattle.strong_apa.specs.State.{task_on, is_task}
use Rattle.schedule_picture.specs.Tracks.{last_on}
use Rattle.schedule_picture.proofs.Glances.{looks_none, looks_next, looks_whole}
use Rattle.schedule_picture.proofs.rows.see_relinked.Goals as goal

pub loop-p-init : goal.loop-p-init
loop-p-init c =
    looks_none c.args.n c.args.links.now (λ t. (p : ℕ) → p < 0 → is_task t (last_on c.args.lanes.now p)
    ≡ is_task t (task_on c.args.links.now p)) c.args.rows.now.items
    (λ t inside p lt. absurd (omega arith))

pub loop-p-preserved : goal.loop-p-preserved
loop-p-preserved c =
    looks_next c.args.n c.loop-p.p c.args.links.now c.args.lanes.now c.last_on.result c.on.result c.args.rows.now.items c.loop-p.rows.items
    _ c.last_on.ensures c.on.ensures.value
    c.loop-p.invariant c.in_ok-see_occupants.ensures

pub returns : goal.returns
returns c = looks_whole c.args.n c.loop-p.p c.args.links.now.processors c.args.links.now c.args.lanes.now c.args.rows.now.items _
    (let v = c.processors-p-end.ensures.value in omega arith) c.loop-p.invariant
