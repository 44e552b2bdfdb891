use Rattle.std.proofs.Common.{◌≡◌, map}
use Rattle.std.specs.List.{range_with_len}
use Rattle.task_set.specs.Context.{fresh_context}
use Rattle.reach_certificate.proofs.contexts.fresh_contexts.Given as goal

abbrev pub invariant-loop-task : goal.invariant-loop-task
invariant-loop-task l = l.contexts.items ≡ map fresh_context (range_with_len 0 l.task)
