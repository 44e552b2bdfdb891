use Rattle.std.proofs.Common.{append_assoc}
use Rattle.trace_picture.specs.Lanes.{bar_text}
use Rattle.trace_picture.proofs.lanes.write_bar.Goals as goal

pub returns : goal.returns
unfolding bar_text
returns c =
    rw (
      c.in_ok-write_extent.ensures,
      c.in_ok-put.ensures,
      c.deref.ensures,
      c.in_ok-line.ensures.ok,
      c.along-x.ensures,
      c.from.ensures,
      c.lane.ensures,
      c.saturating_sub-wide.ensures,
      c.name-name.ensures,
      c.colour-colour.ensures,
    ) (simp append_assoc)
