use Rattle.std.proofs.Common.{◌≡◌, ℕ, ◌<◌, length, sym, ap, ◌∙◌, subst, arith}
use Rattle.std.proofs.lemmas.List.{get_or_default}
use Rattle.affinity_mask.specs.ProcSet.{has, empty}
use Rattle.affinity_mask.proofs.Sets.{has-zero}
use Rattle.link_table.specs.Layout.{Layout, occupant_in, runs_on}
use Rattle.link_table.specs.PlacesView.{places_view}
use Rattle.link_table.proofs.Feeding.{runs_on-online, runs_on-offline}
use Rattle.link_table.proofs.places.Places.feeders.Goals as goal

pub returns-then-has : goal.returns-then-has
returns-then-has c = λ p.
    let s = c.self.inside in
    let a = places_view s in
    let below = subst (λ (l : Layout). c.args.q < length l.on) (sym c.self.view_is) c.requires in
    let count = c.self.invariant.feeders_count in
    let read = c.index.ensures ∙ get_or_default s.feeders.items c.args.q c.index.result.now empty (omega arith) in
    subst (λ (l : Layout). has c.index.result.now p ≡ runs_on l (occupant_in l p) c.args.q) c.self.view_is
    (ap (λ (X : ℕ). has X p) read ∙ c.self.invariant.fed c.args.q p below
    ∙ runs_on-online a (occupant_in a p) c.args.q (sym c.has.ensures ∙ c.if-has.true))

pub returns-else-has : goal.returns-else-has
returns-else-has c = λ p.
    let a = places_view c.self.inside in
    subst (λ (l : Layout). has c.empty.result p ≡ runs_on l (occupant_in l p) c.args.q) c.self.view_is
    (ap (λ (X : ℕ). has X p) c.empty.ensures ∙ has-zero p
    ∙ runs_on-offline a (occupant_in a p) c.args.q (sym c.has.ensures ∙ c.if-has.false))
