use Rattle.schedule_picture.specs.Listing.{AreFoundBelow, is_seen}
use Rattle.schedule_picture.specs.Picture.{spans_in}
use Rattle.schedule_picture.proofs.listing.found.Given as goal

abbrev pub invariant-loop-t : goal.invariant-loop-t
invariant-loop-t l = AreFoundBelow (λ t. is_seen l.sheet.places.now l.sheet.window l.waiting (spans_in l.rows t)) l.t l.tasks.items
