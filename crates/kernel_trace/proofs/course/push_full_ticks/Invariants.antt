use Rattle.std.proofs.Common.{◌≡◌, ◌++◌}
use Rattle.std.specs.Prelude.{replicate}
use Rattle.task_set.specs.declared.event.Event.TheVariants.{Tick}
use Rattle.kernel_trace.specs.Course.{on_first_stream}
use Rattle.kernel_trace.proofs.course.push_full_ticks.Given as goal

abbrev pub invariant-loop-done : goal.invariant-loop-done
invariant-loop-done l = l.events.items ≡ l.initial.events.items ++ replicate l.done (on_first_stream (Tick 1000000))
