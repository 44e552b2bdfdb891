use Rattle.std.proofs.Common.{◌≡◌, length}
use Rattle.std.specs.Prelude.{fold}
use Rattle.text_fields.specs.Lines.{fields_of}
use Rattle.kernel_trace.specs.Reading.{fields_view}
use Rattle.kernel_trace.specs.TraceLine.{event_fields, event_fields_after}
use Rattle.kernel_trace.proofs.event.read_fields.Given as goal

abbrev pub invariant-loop-field : goal.invariant-loop-field
invariant-loop-field l = fold event_fields_after (fields_view l.fields) (fields_of l.rest) ≡ event_fields (fields_of l.fn.bytes)

abbrev pub decreases-loop-field : goal.decreases-loop-field
decreases-loop-field l = length l.rest
