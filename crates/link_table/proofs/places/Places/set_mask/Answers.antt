use Rattle.std.proofs.Common.{◌<◌, length, sym, subst}
use Rattle.affinity_mask.specs.ProcSet.{all_below, Within}
use Rattle.link_table.specs.Layout.{Layout, IsNowhere}
use Rattle.link_table.specs.PlacesView.{places_view}
use Rattle.link_table.proofs.Indexing.{IsIndex-masked}
use Rattle.link_table.proofs.places.Places.set_mask.Goals as goal

pub invariant_of-self : goal.invariant_of-self
invariant_of-self c =
    let s = c.self.inside in
    let number = subst (λ (a : Layout). c.args.t < length a.masks) (sym c.self.view_is) c.requires.number in
    let nowhere = subst (λ (a : Layout). IsNowhere a c.args.t) (sym c.self.view_is) c.requires.nowhere in
    let lawful = subst (λ (a : Layout). Within c.args.mask (all_below (length a.on))) (sym c.self.view_is) c.requires.mask in
    IsIndex-masked (places_view s) s.of.items s.linked s.feeders.items c.self.invariant c.args.t c.args.mask number nowhere lawful
