use Rattle.std.proofs.Common.{append_assoc}
use Rattle.trace_picture.specs.Around.{group_head}
use Rattle.trace_picture.proofs.around.write_head.Goals as goal

pub returns : goal.returns
unfolding group_head
returns c = rw (c.in_ok-put.ensures, c.deref.ensures, c.in_ok-line.ensures.ok, c.span-span.ensures.value) (simp append_assoc)
