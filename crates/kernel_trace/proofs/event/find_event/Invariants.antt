use Rattle.std.proofs.Common.{◌≡◌, length}
use Rattle.text_fields.specs.Lines.{fields_of}
use Rattle.kernel_trace.specs.TraceLine.{first_event}
use Rattle.kernel_trace.proofs.event.find_event.Given as goal

abbrev pub invariant-loop-next : goal.invariant-loop-next
invariant-loop-next l = first_event l.fn.waking l.fn.first (fields_of l.fn.rest) ≡ first_event l.fn.waking l.field (fields_of l.rest)

abbrev pub decreases-loop-next : goal.decreases-loop-next
decreases-loop-next l = length l.rest
