use Rattle.std.proofs.Common.{append_assoc}
use Rattle.trace_picture.specs.Around.{tick_stamp}
use Rattle.trace_picture.proofs.around.write_tick_stamp.Goals as goal

pub returns : goal.returns
unfolding tick_stamp
returns c =
    rw (
      c.in_ok-put-2.ensures,
      c.in_ok-write_stamp_after.ensures,
      c.in_ok-put.ensures,
      c.deref.ensures,
      c.in_ok-line.ensures.ok,
    ) (simp append_assoc)
