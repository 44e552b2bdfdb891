use Rattle.std.proofs.Common.{◌∙◌, ap, append_assoc}
use Rattle.schedule_picture.specs.Elements.{Inside, reads}
use Rattle.schedule_picture.proofs.Elements.{keeps_by, on_ok_then, number_value, number_inside}
use Rattle.schedule_picture.proofs.around.write_arrow.Goals as goal

pub returns : goal.returns
returns c =
    on_ok_then _ _ _ _ c.in_ok-write_curve.ensures
    (keeps_by _ _ _ _ _ c.put.ensures c.deref.ensures
    (λ untitled name outer. ap (reads untitled (Inside name outer)) c.in_ok-line.ensures.ok
    ∙ simp (append_assoc, number_value, number_inside)))
