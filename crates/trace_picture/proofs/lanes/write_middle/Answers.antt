use Rattle.std.proofs.Common.{append_assoc}
use Rattle.trace_picture.specs.Lanes.{middle_text}
use Rattle.trace_picture.proofs.lanes.write_middle.Goals as goal

pub returns : goal.returns
unfolding middle_text
returns c =
    rw (
      c.in_ok-put.ensures,
      c.deref.ensures,
      c.in_ok-line.ensures.ok,
      c.across.ensures,
      c.across-2.ensures,
      c.from.ensures,
      c.from-2.ensures,
      c.lane.ensures,
      c.name-name.ensures,
    ) (simp append_assoc)
