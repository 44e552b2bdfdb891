use Rattle.std.proofs.Common.{append_assoc}
use Rattle.trace_picture.specs.Around.{headings_text}
use Rattle.trace_picture.proofs.around.write_headings.Goals as goal

pub returns : goal.returns
unfolding headings_text
returns c =
    rw (
      c.in_ok-put.ensures,
      c.deref.ensures,
      c.in_ok-line.ensures.ok,
      c.strong_top.ensures.value,
      c.rows_top.ensures.value,
    ) (simp append_assoc)
