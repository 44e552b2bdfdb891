use Rattle.std.proofs.Common.{ℕ, Option, sym, ap, ◌∙◌}
use Rattle.affinity_mask.specs.ProcSet.{has}
use Rattle.affinity_mask.proofs.Sets.{has-zero}
use Rattle.link_table.specs.Layout.{mask_has}
use Rattle.link_table.proofs.places.Places.mask_of.Goals as goal

pub returns-in-None : goal.returns-in-None
returns-in-None c = λ q. ap (λ (X : ℕ). has X q) c.empty.ensures ∙ has-zero q ∙ ap (λ (o : Option ℕ). mask_has c.args.self.now o q)
    (sym c.in-None.is)
