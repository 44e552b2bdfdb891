use Rattle.std.proofs.Common.{append_assoc}
use Rattle.trace_picture.specs.Rows.{row_text}
use Rattle.trace_picture.proofs.rows.write_bar.Goals as goal

pub returns : goal.returns
unfolding row_text
returns c =
    rw (
      c.in_ok-write_extent.ensures,
      c.in_ok-write_title.ensures,
      c.in_ok-write_rect.ensures,
    ) (simp append_assoc)
