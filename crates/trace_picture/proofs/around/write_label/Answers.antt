use Rattle.std.proofs.Common.{append_assoc}
use Rattle.trace_picture.specs.Around.{label_text}
use Rattle.trace_picture.proofs.around.write_label.Goals as goal

pub returns : goal.returns
unfolding label_text
returns c =
    rw (
      c.in_ok-put.ensures,
      c.deref.ensures,
      c.in_ok-line.ensures.ok,
      c.from.ensures,
      c.from-2.ensures,
    ) (simp append_assoc)
