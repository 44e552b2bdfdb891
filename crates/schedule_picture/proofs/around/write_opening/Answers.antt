use Rattle.std.proofs.Common.{◌∙◌, ap, append_assoc, []}
use Rattle.schedule_picture.specs.Elements.{Inside, Start, reads}
use Rattle.schedule_picture.proofs.Elements.{moves_ok, number_value, number_inside}
use Rattle.std.specs.Prelude.{codes}
use Rattle.schedule_picture.proofs.around.write_opening.Goals as goal

pub returns : goal.returns
returns c = moves_ok _ Start (Inside (codes "svg") []) _ _ _ _ c.put.ensures c.deref.ensures
    (λ untitled. ap (reads untitled Start) c.in_ok-line.ensures.ok ∙ simp (append_assoc, number_value, number_inside))
