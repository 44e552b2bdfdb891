use Rattle.std.proofs.Common.{◌∙◌, ap, append_assoc, refl}
use Rattle.schedule_picture.specs.Elements.{Inside, reads}
use Rattle.schedule_picture.proofs.Elements.{keeps_three, number_value, number_inside, plain_inside}
use Rattle.schedule_picture.proofs.Shown.{event_plain}
use Rattle.text_fields.specs.EventText.{event_text}
use Rattle.std.specs.Prelude.{codes, ◌∷◌}
use Rattle.schedule_picture.proofs.around.write_label.Goals as goal

pub returns : goal.returns
returns c =
    keeps_three _ _ _ _ _ _ _ _ (λ name outer. Inside (codes "text") (name ∷ outer)) (λ name outer. Inside (codes "text") (name ∷ outer))
    c.in_ok-put.ensures c.in_ok-write_event_text.ensures c.put-2.ensures
    (λ untitled name outer. ap (reads untitled (Inside name outer)) (c.deref.ensures ∙ c.in_ok-line.ensures.ok)
    ∙ simp (append_assoc, number_value, number_inside))
    (λ untitled name outer. plain_inside (event_text c.args.sheet.now.set.now c.args.event)
    (event_plain c.args.sheet.now.set.now c.args.event c.len-number.ensures.valid) untitled (codes "text") (name ∷ outer))
    (λ untitled name outer. refl)
