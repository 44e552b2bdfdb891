use Rattle.std.proofs.Common.{sym, ◌∙◌}
use Rattle.strong_apa.proofs.KeptByChanges.{nobody_off}
use Rattle.task_shift.proofs.processor_change.online.Goals as goal

pub set_online-requires-clause-nobody : goal.set_online-requires-clause-nobody
set_online-requires-clause-nobody c =
    nobody_off c.args.links.now c.is_online.ensures.valid c.args.p (sym c.is_online.ensures.value ∙ c.if-is_online.false)
