use Rattle.std.proofs.Common.{◌∙◌, sym, arith}
use Rattle.std.proofs.lemmas.List.FromFn.{map-range_with_len_more}
use Rattle.task_set.specs.Context.{fresh_context}
use Rattle.reach_certificate.proofs.contexts.fresh_contexts.Goals as goal

pub loop-task-preserved : goal.loop-task-preserved
loop-task-preserved c = c.in_ok-push.ensures.items
    ∙ rw (c.loop-task.invariant, c.fresh.ensures)
    (sym (map-range_with_len_more fresh_context 0 c.loop-task.task c.loop-task.task (omega arith)))
