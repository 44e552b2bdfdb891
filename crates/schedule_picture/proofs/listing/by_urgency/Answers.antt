use Rattle.schedule_picture.specs.Listing.{is_seen}
use Rattle.schedule_picture.specs.Picture.{spans_in}
use Rattle.schedule_picture.proofs.Listed.{by_urgency_of}
use Rattle.schedule_picture.proofs.listing.by_urgency.Goals as goal

pub returns : goal.returns
returns c =
    by_urgency_of c.args.sheet.now.set.now c.len-valid.ensures.valid
    (λ t. is_seen c.args.sheet.now.places.now c.args.sheet.now.window c.args.waiting (spans_in c.args.rows.now t))
    c.in_ok-tasks.tasks.items c.sort_by_urgency.new.tasks.items c.in_ok-tasks.ensures c.sort_by_urgency.ensures.moved
    c.sort_by_urgency.ensures.sorted
