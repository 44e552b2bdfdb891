use Rattle.std.proofs.Common.{refl}
use Rattle.schedule_picture.proofs.Elements.{keeps_fields}
use Rattle.std.specs.Prelude.{codes}
use Rattle.schedule_picture.proofs.around.write_window.Goals as goal

pub returns : goal.returns
returns c = keeps_fields _ _ _ _ (codes ", from ") (codes " to ") _ _ c.in_ok-write_field.ensures c.write_field-2.ensures refl refl
