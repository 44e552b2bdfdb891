use Rattle.std.proofs.Common.{refl}
use Rattle.std.specs.Prelude.{codes}
use Rattle.std.proofs.lemmas.Result.{err_from_is_err_and}
use Rattle.schedule_text.proofs.Shapes.{affinity_read, affinity_fault}
use Rattle.schedule_text.proofs.entry.affinity_of.Goals as goal

pub returns-in_err-task-clause-refused : goal.returns-in_err-task-clause-refused
returns-in_err-task-clause-refused c =
    let p = err_from_is_err_and c.from_residual-in_err-task.result c.from_residual-in_err-task.ensures.1 in
    rw (p.1, p.2) (affinity_fault 2 c.args.set.now (codes "affinity") c.args.name.now c.args.list.now
    c.in_ok-mask.mask c.in_err-task.field-0.0 refl refl c.in_ok-mask.ensures.read c.in_err-task.ensures.refused)

pub returns-clause-read : goal.returns-clause-read
returns-clause-read c =
    affinity_read 2 c.args.set.now.processors c.args.set.now (codes "affinity") c.args.name.now c.args.list.now
    c.in_ok-task.task c.in_ok-mask.mask refl refl refl c.in_ok-task.ensures.read c.in_ok-mask.ensures.read
