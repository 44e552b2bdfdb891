use Rattle.std.proofs.Common.{refl, inl, inr}
use Rattle.text_fields.proofs.Names.{name_is_text}
use Rattle.task_set.specs.declared.fault.TaskFault.TheVariants.{BadName}
use Rattle.kernel_trace.proofs.stage.list_task.Goals as goal

pub returns-in_default-clause-refused : goal.returns-in_default-clause-refused
returns-in_default-clause-refused c =
    inr (inl (
      c.in_ok-mask.mask,
      c.in_ok-mask.ensures.read,
      inr (BadName, (λ named. c.in_default.ensures.cases.0 (name_is_text _ named)), refl),
    ))
