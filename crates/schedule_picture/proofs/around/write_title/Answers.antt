use Rattle.std.proofs.Common.{◌∙◌, ap, append_assoc, refl}
use Rattle.schedule_picture.specs.Elements.{Inside, reads}
use Rattle.schedule_picture.proofs.Elements.{keeps_around, number_value, number_inside}
use Rattle.std.specs.Prelude.{codes}
use Rattle.schedule_picture.proofs.around.write_title.Goals as goal

pub returns : goal.returns
returns c =
    keeps_around _ _ _ _ _ _ _ (codes "text") c.in_ok-put.ensures c.in_ok-write_part.ensures c.put-2.ensures
    (λ untitled name outer. ap (reads untitled (Inside name outer)) (c.deref.ensures ∙ c.in_ok-line.ensures.ok)
    ∙ simp (append_assoc, number_value, number_inside))
    (λ untitled name outer. refl)
