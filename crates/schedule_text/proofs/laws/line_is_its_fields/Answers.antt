use Rattle.std.proofs.Common.{refl}
use Rattle.schedule_text.specs.Fields.{spaced_fields_of}
use Rattle.schedule_text.proofs.Bridges.{text_back}
use Rattle.schedule_text.proofs.laws.line_is_its_fields.Goals as goal

pub returns : goal.returns
returns c = λ text. text_back text (spaced_fields_of text) refl
