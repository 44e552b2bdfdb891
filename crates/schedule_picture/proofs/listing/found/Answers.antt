use Rattle.std.proofs.Common.{◌≡◌, ℕ, Bool, sym, ◌∙◌}
use Rattle.schedule_picture.specs.Listing.{is_seen}
use Rattle.schedule_picture.specs.Picture.{spans_in}
use Rattle.schedule_picture.proofs.Listed.{found_more, found_same}
use Rattle.schedule_picture.proofs.listing.found.Goals as goal
use Rattle.schedule_picture.proofs.listing.found.Goals.{then-is_seen+in_ok-push, else-is_seen}

pub loop-t-preserved : goal.loop-t-preserved
loop-t-preserved c =
    let passes : ℕ → Bool = λ t. is_seen c.args.sheet.now.places.now c.args.sheet.now.window c.args.waiting (spans_in c.args.rows.now t) in
    let seen : c.is_seen.result ≡ passes c.loop-t.t = rw c.spans_at.ensures at c.is_seen.ensures in
    elim c.if-is_seen.branch [
      | then-is_seen+in_ok-push w ↦ rw w.tasks-is
          (found_more passes c.loop-t.t c.loop-t.tasks.items _ c.loop-t.invariant (sym seen ∙ w.if-is_seen.true) w.in_ok-push.ensures.items)
      | else-is_seen w ↦ rw w.tasks-is (found_same passes c.loop-t.t c.loop-t.tasks.items c.loop-t.invariant
          (sym seen ∙ w.if-is_seen.false))
    ]
