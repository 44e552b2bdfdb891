use Rattle.std.proofs.Common.{◌≡◌}
use Rattle.text_fields.specs.Fields.{texts}
use Rattle.schedule_text.proofs.spacing.short_fields.Given as goal

abbrev pub invariant-loop-field : goal.invariant-loop-field
invariant-loop-field l = texts l.room.items ≡ texts l.yielded
