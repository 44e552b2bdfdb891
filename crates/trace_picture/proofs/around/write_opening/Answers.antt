use Rattle.std.proofs.Common.{append_assoc}
use Rattle.trace_picture.specs.Around.{opening_text}
use Rattle.trace_picture.proofs.around.write_opening.Goals as goal

pub returns : goal.returns
unfolding opening_text
returns c =
    rw (
      c.in_ok-put-3.ensures,
      c.in_ok-put-2.ensures,
      c.in_ok-put.ensures,
      c.deref.ensures,
      c.in_ok-line.ensures.ok,
      c.style.ensures,
      c.bottom.ensures.value,
    ) (simp append_assoc)
