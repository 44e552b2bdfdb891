use Rattle.trace_picture.specs.Around.{around_text}
use Rattle.trace_picture.proofs.Pieces.{around_joined}
use Rattle.trace_picture.proofs.around.write_around.Goals as goal

pub returns : goal.returns
unfolding around_text
returns c =
    around_joined _ _ _ _ _ _ _ _ _ _ _ _ _ _ _ _ _ c.in_ok-write_opening.ensures c.in_ok-write_title.ensures c.in_ok-write_headings.ensures
    c.in_ok-write_axis.ensures c.in_ok-write_labels.ensures c.in_ok-write_beyond.ensures
    (rw c.strong_top.ensures.value at c.in_ok-write_labels-2.ensures)
    (rw c.rows_top.ensures.value at c.in_ok-write_tasks.ensures)
