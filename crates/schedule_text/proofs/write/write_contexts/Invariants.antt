use Rattle.std.proofs.Common.{◌≡◌, ◌++◌, take}
use Rattle.std.specs.List.{flat_map}
use Rattle.schedule_text.specs.ScheduleText.{context_line}
use Rattle.schedule_text.proofs.write.write_contexts.Given as goal

abbrev pub invariant-loop-context : goal.invariant-loop-context
invariant-loop-context l =
    l.text.items ≡ l.fn.text.items ++ flat_map (context_line l.set) (take l.context-index l.contexts)
