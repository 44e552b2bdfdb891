use Rattle.std.proofs.Common.{◌≡◌}
use Rattle.std.specs.Prelude.{filter, not}
use Rattle.text_fields.specs.Lines.{is_nothing}
use Rattle.text_fields.specs.Fields.{texts}
use Rattle.kernel_trace.proofs.fields.fields.Given as goal

abbrev pub invariant-loop-field : goal.invariant-loop-field
invariant-loop-field l = texts l.room.items ≡ filter (λ piece. not (is_nothing piece)) (texts l.yielded)
