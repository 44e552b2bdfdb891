use Rattle.std.proofs.Common.{◌∙◌, ap, append_assoc, refl}
use Rattle.schedule_picture.specs.Elements.{Inside, Value, reads}
use Rattle.schedule_picture.proofs.Elements.{keeps_three, number_value, number_inside, plain_value}
use Rattle.schedule_picture.proofs.Shown.{colour_plain}
use Rattle.schedule_picture.specs.Colours.{colour_of}
use Rattle.std.specs.Prelude.{codes, ◌∷◌}
use Rattle.schedule_picture.proofs.around.write_colour.Goals as goal

pub returns : goal.returns
returns c =
    keeps_three _ _ _ _ _ _ _ _ (λ name outer. Value (codes "rect") (name ∷ outer)) (λ name outer. Value (codes "rect") (name ∷ outer))
    c.in_ok-put.ensures c.in_ok-write_word.ensures c.put-2.ensures
    (λ untitled name outer. ap (reads untitled (Inside name outer)) (c.deref.ensures ∙ c.in_ok-line.ensures.ok)
    ∙ simp (append_assoc, number_value, number_inside))
    (λ untitled name outer. ap (reads untitled (Value (codes "rect") (name ∷ outer))) c.colour_of.ensures
    ∙ plain_value (colour_of c.args.t) (colour_plain c.args.t) untitled (codes "rect") (name ∷ outer))
    (λ untitled name outer. refl)
