use Rattle.std.proofs.Common.{take, length}
use Rattle.nested_masks.specs.NestedText.{IsWrittenSoFar, events_of, head_text}
use Rattle.nested_masks.proofs.replay.write_run.Given as goal

abbrev pub invariant-loop-posted : goal.invariant-loop-posted
invariant-loop-posted l =
    IsWrittenSoFar l.input.set (events_of (take l.posted-index l.posted-items)) (head_text (length l.posted-items)) l.nested l.text.items
