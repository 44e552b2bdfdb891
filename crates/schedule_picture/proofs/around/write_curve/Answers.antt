use Rattle.std.proofs.Common.{◌∙◌, ap, append_assoc, refl}
use Rattle.schedule_picture.specs.Elements.{Inside, reads}
use Rattle.schedule_picture.proofs.Elements.{keeps_deep, number_value, number_inside}
use Rattle.std.specs.Prelude.{codes}
use Rattle.schedule_picture.proofs.around.write_curve.Goals as goal

pub returns : goal.returns
returns c =
    keeps_deep _ _ _ _ _ _ _ (codes "title") (codes "path") c.in_ok-put.ensures c.in_ok-write_move_title.ensures c.put-2.ensures
    (λ untitled name outer. ap (reads untitled (Inside name outer)) (c.deref.ensures ∙ c.in_ok-line.ensures.ok)
    ∙ simp (append_assoc, number_value, number_inside))
    (λ untitled name outer. refl)
