use Rattle.std.proofs.Common.{◌≤◌, ◌+◌, ◌-◌, length, min}
use Rattle.schedule_text.specs.Spacing.{AreSpaces}
use Rattle.schedule_text.proofs.FieldCuts.{IsCutTo}
use Rattle.schedule_text.proofs.spacing.spaced_fields.Given as goal

abbrev pub invariant-loop-block : goal.invariant-loop-block
invariant-loop-block l = record {
  cut : IsCutTo l.text l.room.items l.from l.block;
  begun : l.from ≤ l.block;
}

abbrev pub decreases-loop-block : goal.decreases-loop-block
decreases-loop-block l = length l.text - l.block

abbrev pub invariant-loop-spaces : goal.invariant-loop-spaces
invariant-loop-spaces l = record {
  cut : IsCutTo l.text l.room.items l.from l.at;
  begun : l.from ≤ l.at;
  low : l.block ≤ l.at;
  within : l.at ≤ min (l.block + 16) (length l.text);
  spaces : AreSpaces l.text l.at (min (l.block + 16) (length l.text)) l.spaces;
}

abbrev pub decreases-loop-spaces : goal.decreases-loop-spaces
decreases-loop-spaces l = length l.text - l.at
