use Rattle.std.proofs.Common.{append_assoc}
use Rattle.trace_picture.specs.Around.{tick_label}
use Rattle.trace_picture.proofs.around.write_tick_label.Goals as goal

pub returns : goal.returns
unfolding tick_label
returns c =
    rw (
      c.in_ok-put.ensures,
      c.deref.ensures,
      c.in_ok-line.ensures.ok,
    ) (simp append_assoc)
