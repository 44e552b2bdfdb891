use Rattle.std.proofs.Common.{append_assoc}
use Rattle.trace_picture.specs.Around.{tick_text}
use Rattle.trace_picture.proofs.around.write_tick.Goals as goal

pub returns : goal.returns
unfolding tick_text
returns c =
    rw (
      c.in_ok-write_tick_stamp.ensures,
      c.in_ok-write_tick_label.ensures,
      c.in_ok-write_tick_line.ensures,
      c.across-x.ensures,
    ) (simp append_assoc)
