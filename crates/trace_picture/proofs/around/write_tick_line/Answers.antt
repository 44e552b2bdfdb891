use Rattle.std.proofs.Common.{append_assoc}
use Rattle.trace_picture.specs.Around.{tick_line}
use Rattle.trace_picture.proofs.around.write_tick_line.Goals as goal

pub returns : goal.returns
unfolding tick_line
returns c =
    rw (
      c.in_ok-put.ensures,
      c.deref.ensures,
      c.in_ok-line.ensures.ok,
    ) (simp append_assoc)
