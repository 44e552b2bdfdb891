use Rattle.std.proofs.Common.{append_assoc}
use Rattle.trace_picture.specs.Around.{legend_of_tasks}
use Rattle.trace_picture.proofs.around.write_legend_of_tasks.Goals as goal

pub returns : goal.returns
unfolding legend_of_tasks
returns c =
    rw (
      c.in_ok-put.ensures,
      c.deref.ensures,
      c.in_ok-line.ensures.ok,
    ) (simp append_assoc)
