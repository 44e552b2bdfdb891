use Rattle.std.proofs.Common.{◌∙◌, ap, refl}
use Rattle.schedule_picture.specs.Elements.{are_plain}
use Rattle.schedule_picture.proofs.Elements.{keeps_plain, keeps_fields, on_ok_then}
use Rattle.std.specs.Prelude.{Ok, codes}
use Rattle.schedule_picture.proofs.around.write_move_title.Goals as goal

pub returns : goal.returns
returns c =
    on_ok_then _ _ _ _ (keeps_plain {E = Unit {0}} (Ok tt) _ _ _ c.in_ok-write_word.ensures
    (ap are_plain c.as_bytes.ensures.value ∙ c.name.ensures.plain))
    (keeps_fields _ _ _ _ (codes " from cpu ") (codes " to cpu ") _ _ c.in_ok-write_field.ensures c.write_field-2.ensures refl refl)
