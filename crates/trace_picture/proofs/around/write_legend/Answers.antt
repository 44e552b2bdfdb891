use Rattle.std.proofs.Common.{append_assoc}
use Rattle.trace_picture.specs.Around.{legend_text}
use Rattle.trace_picture.proofs.around.write_legend.Goals as goal

pub returns : goal.returns
unfolding legend_text
returns c =
    rw (
      c.in_ok-write_legend_of_white.ensures,
      c.in_ok-write_legend_of-2.ensures,
      c.in_ok-write_legend_of.ensures,
      c.in_ok-write_legend_of_tasks.ensures,
      c.bottom-bottom.ensures.value,
    ) (simp append_assoc)
