use Rattle.std.proofs.Common.{◌/◌, ◌%◌, List, [], ◌∷◌, ◌++◌, sym, ap, ◌∙◌, append_assoc}
use Rattle.std.specs.Prelude.{replicate}
use Rattle.task_set.specs.declared.event.Event.TheVariants.{Tick}
use Rattle.trace_reader.specs.declared.posted.Posted.{Posted}
use Rattle.kernel_trace.specs.Course.{on_first_stream}
use Rattle.kernel_trace.proofs.Courses.{ticks_some, ticks_none}
use Rattle.kernel_trace.proofs.course.push_ticks.Goals as goal

pub returns-in_ok-push : goal.returns-in_ok-push
returns-in_ok-push c =
    let last : Posted = on_first_stream (Tick (c.args.units % 1000000)) in
    c.in_ok-push.ensures.items
    ∙ ap (λ (items : List Posted). items ++ last ∷ []) c.in_ok-push_full_ticks.ensures
    ∙ append_assoc c.args.events.now.items (replicate (c.args.units / 1000000) (on_first_stream (Tick 1000000))) (last ∷ [])
    ∙ ap (λ (more : List Posted). c.args.events.now.items ++ more) (sym (ticks_some c.args.units c.if-left-gt0.true))

pub returns-else-left-gt0 : goal.returns-else-left-gt0
returns-else-left-gt0 c =
    c.in_ok-push_full_ticks.ensures
    ∙ ap (λ (more : List Posted). c.args.events.now.items ++ more) (sym (ticks_none c.args.units c.if-left-gt0.false))
