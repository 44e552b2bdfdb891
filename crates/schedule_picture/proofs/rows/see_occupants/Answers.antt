use Rattle.std.proofs.Common.{◌≡◌, false, sym, ◌∙◌}
use Rattle.strong_apa.specs.State.{is_task}
use Rattle.schedule_picture.proofs.Glances.{looks_more}
use Rattle.schedule_picture.proofs.rows.see_occupants.Goals as goal

pub returns : goal.returns
returns c =
    looks_more c.args.n c.args.links.now (λ t. is_task t c.args.before ≡ false) (λ t. is_task t c.args.after ≡ false)
    (λ t. is_task t c.args.before ≡ is_task t c.args.after)
    c.args.rows.now.items _ _ c.in_ok-see_task.ensures c.in_ok-see_task-2.ensures (λ t a b. a ∙ sym b)
