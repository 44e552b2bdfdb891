use Rattle.std.proofs.Common.{◌∙◌, ap, append_assoc}
use Rattle.schedule_picture.specs.Elements.{Inside, reads}
use Rattle.schedule_picture.proofs.Elements.{keeps_by, number_value, number_inside}
use Rattle.schedule_picture.proofs.around.write_legend_of_marks.Goals as goal

pub returns : goal.returns
returns c = keeps_by _ _ _ _ _ c.put.ensures c.deref.ensures
    (λ untitled name outer. ap (reads untitled (Inside name outer)) c.in_ok-line.ensures.ok
    ∙ simp (append_assoc, number_value, number_inside))
