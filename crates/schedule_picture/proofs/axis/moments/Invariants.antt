use Rattle.std.proofs.Common.{◌≡◌, ◌≤◌, ◌+◌, ◌*◌, map}
use Rattle.std.specs.List.{range_with_len}
use Rattle.schedule_picture.specs.Picture.{moment}
use Rattle.schedule_picture.proofs.axis.moments.Given as goal

abbrev pub invariant-loop-entry : goal.invariant-loop-entry
invariant-loop-entry l = record {
  places : l.places.items ≡ map (λ n. l.start + moment l.entries n) (range_with_len 0 l.entry-index);
  now : l.moment ≡ l.start + moment l.entries l.entry-index;
  few : l.moment ≤ l.start + 1000000 * l.entry-index;
}
