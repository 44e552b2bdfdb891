use Rattle.std.proofs.Common.{append_assoc}
use Rattle.trace_picture.specs.Lanes.{lanes_text}
use Rattle.trace_picture.proofs.lanes.write_lanes.Goals as goal

pub returns : goal.returns
unfolding lanes_text
returns c =
    rw (
      c.in_ok-write_names.ensures,
      c.in_ok-put.ensures,
      c.in_ok-write_bars.ensures,
      c.in_ok-write_head.ensures,
      c.from-count.ensures,
    ) (simp append_assoc)
