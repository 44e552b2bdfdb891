use Rattle.std.proofs.Common.{append_assoc}
use Rattle.trace_picture.specs.Around.{title_text}
use Rattle.trace_picture.proofs.around.write_title.Goals as goal

pub returns : goal.returns
unfolding title_text
returns c =
    rw (
      c.in_ok-put-2.ensures,
      c.in_ok-write_stamp_after.ensures,
      c.in_ok-put.ensures,
      c.deref.ensures,
      c.in_ok-line.ensures.ok,
      c.processors-processors.ensures.value,
      c.len-tasks.ensures.value,
    ) (simp append_assoc)
