use Rattle.std.proofs.Common.{append_assoc}
use Rattle.trace_picture.specs.Around.{meaning_text}
use Rattle.trace_picture.proofs.around.write_meaning.Goals as goal

pub returns : goal.returns
unfolding meaning_text
returns c =
    rw (
      c.in_ok-put.ensures,
      c.deref.ensures,
      c.in_ok-line.ensures.ok,
    ) (simp append_assoc)
