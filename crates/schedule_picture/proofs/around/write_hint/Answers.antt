use Rattle.std.proofs.Common.{refl}
use Rattle.schedule_picture.proofs.Elements.{keeps_by}
use Rattle.schedule_picture.proofs.around.write_hint.Goals as goal

pub returns : goal.returns
returns c = keeps_by _ _ _ _ _ c.put.ensures refl (λ untitled name outer. refl)
