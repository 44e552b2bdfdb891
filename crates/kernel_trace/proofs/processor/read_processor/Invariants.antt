use Rattle.std.proofs.Common.{◌≡◌, length}
use Rattle.text_fields.specs.Lines.{fields_of}
use Rattle.kernel_trace.specs.Processor.{processor_of, named_before}
use Rattle.kernel_trace.proofs.processor.read_processor.Given as goal

abbrev pub invariant-loop-next : goal.invariant-loop-next
invariant-loop-next l = processor_of l.fn.waking (fields_of l.fn.line) ≡ named_before l.fn.waking l.named l.field (fields_of l.rest)

abbrev pub decreases-loop-next : goal.decreases-loop-next
decreases-loop-next l = length l.rest
