use Rattle.std.proofs.Common.{◌∙◌, ap, append_assoc}
use Rattle.schedule_picture.specs.Elements.{Inside, reads}
use Rattle.schedule_picture.proofs.Elements.{keeps_three, number_value, number_inside, over_inside, plain_inside}
use Rattle.schedule_picture.proofs.Shown.{list_plain}
use Rattle.affinity_mask.specs.ListText.{canonical_list}
use Rattle.std.specs.Prelude.{codes, ◌∷◌}
use Rattle.schedule_picture.proofs.around.write_facts.Goals as goal

pub returns : goal.returns
returns c =
    keeps_three _ _ _ _ _ _ _ _ (λ name outer. Inside (codes "tspan") (codes "text" ∷ name ∷ outer))
    (λ name outer. Inside (codes "tspan") (codes "text" ∷ name ∷ outer)) c.in_ok-put.ensures c.in_ok-write_list.ensures.written
    c.put-2.ensures
    (λ untitled name outer. ap (reads untitled (Inside name outer)) (c.deref.ensures ∙ c.in_ok-head.ensures.ok)
    ∙ simp (append_assoc, number_value, number_inside, over_inside c.name-name.result.now c.name-name.ensures.plain))
    (λ untitled name outer. plain_inside (canonical_list c.mask.result) (list_plain c.mask.result) untitled (codes "tspan")
    (codes "text" ∷ name ∷ outer))
    (λ untitled name outer. ap (reads untitled (Inside (codes "tspan") (codes "text" ∷ name ∷ outer)))
    (c.deref-2.ensures ∙ c.in_ok-line.ensures.ok) ∙ simp (append_assoc, number_value, number_inside))
