use Rattle.std.proofs.Common.{append_assoc}
use Rattle.trace_picture.specs.Rows.{rect_text}
use Rattle.trace_picture.proofs.rows.write_rect.Goals as goal

pub returns : goal.returns
unfolding rect_text
returns c =
    rw (
      c.in_ok-put.ensures,
      c.deref.ensures,
      c.in_ok-line.ensures.ok,
      c.word_of-word.ensures,
      c.along-x.ensures,
      c.saturating_sub-wide.ensures,
    ) (simp append_assoc)
