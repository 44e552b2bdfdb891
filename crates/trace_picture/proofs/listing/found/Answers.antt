use Rattle.std.proofs.Common.{sym, ◌∙◌}
use Rattle.trace_picture.specs.Listing.{has_row}
use Rattle.trace_picture.proofs.Pieces.{passes_more, passes_not}
use Rattle.trace_picture.proofs.listing.found.Goals as goal
use Rattle.trace_picture.proofs.listing.found.Goals.{then-has_row+in_ok-push, else-has_row}

pub loop-t-preserved : goal.loop-t-preserved
loop-t-preserved c =
    elim c.if-has_row.branch [
      | then-has_row+in_ok-push w ↦ rw w.found-is
          (passes_more (has_row c.args.tasks c.args.bars.now) c.loop-t.t c.loop-t.found.items _ c.loop-t.invariant
          (sym c.has_row.ensures ∙ w.if-has_row.true) w.in_ok-push.ensures.items)
      | else-has_row w ↦ rw w.found-is (passes_not (has_row c.args.tasks c.args.bars.now) c.loop-t.t c.loop-t.found.items c.loop-t.invariant
          (sym c.has_row.ensures ∙ w.if-has_row.false))
    ]
