use Rattle.std.proofs.Common.{append_assoc}
use Rattle.trace_picture.specs.Around.{legend_of}
use Rattle.trace_picture.proofs.around.write_legend_of.Goals as goal

pub returns : goal.returns
unfolding legend_of
returns c =
    rw (
      c.in_ok-write_meaning.ensures,
      c.in_ok-put.ensures,
      c.deref.ensures,
      c.in_ok-line.ensures.ok,
      c.from.ensures,
    ) (simp append_assoc)
