use Rattle.std.proofs.Common.{◌≡◌, ℕ, ◌<◌, length, Option, None, sym, ap, ◌∙◌, subst, arith}
use Rattle.std.specs.Option.{ForSome}
use Rattle.std.proofs.lemmas.List.{get_or_default, with_items_is}
use Rattle.affinity_mask.specs.ProcSet.{has}
use Rattle.link_table.specs.Layout.{Layout, occupant_in, mask_has, IsNowhere}
use Rattle.link_table.specs.PlacesView.{places_view}
use Rattle.link_table.proofs.Indexing.{IsIndex-replaced, length-places_with, occupant_listed, mask_inside}
use Rattle.link_table.proofs.places.Places.replace.Goals as goal

pub mask_of-before-requires : goal.mask_of-before-requires
mask_of-before-requires c = λ u e.
    let s = c.self.inside in
    let below = subst (λ (a : Layout). c.args.p < length a.on) (sym c.self.view_is) c.requires.processor in
    let out = c.index-out.ensures ∙ get_or_default s.on.items c.args.p c.index-out.result.now None below in
    let listed = occupant_listed (places_view s) s.of.items s.linked s.feeders.items c.self.invariant c.args.p u (sym out ∙ e) in
    let count = c.self.invariant.places_count in
    rw (← c.self.view_is) (omega arith)

pub write_places-requires-clause-out : goal.write_places-requires-clause-out
write_places-requires-clause-out c = λ u e.
    let s = c.self.inside in
    let below = subst (λ (a : Layout). c.args.p < length a.on) (sym c.self.view_is) c.requires.processor in
    let out = c.index-out.ensures ∙ get_or_default s.on.items c.args.p c.index-out.result.now None below in
    rw c.deref_mut.ensures.value (occupant_listed (places_view s) s.of.items s.linked s.feeders.items c.self.invariant c.args.p u
    (sym out ∙ e))

pub invariant_of-self : goal.invariant_of-self
invariant_of-self c =
    let s = c.self.inside in
    let below = subst (λ (a : Layout). c.args.p < length a.on) (sym c.self.view_is) c.requires.processor in
    let number = subst (λ (a : Layout). ForSome c.args.guest (λ t. t < length a.masks)) (sym c.self.view_is) c.requires.number in
    let nowhere = subst (λ (a : Layout). ForSome c.args.guest (IsNowhere a)) (sym c.self.view_is) c.requires.nowhere in
    let after = subst (λ (a : Layout). (q : ℕ) → has c.mask_of-after.result q ≡ mask_has a c.args.guest q) (sym c.self.view_is)
    c.mask_of-after.ensures in
    let out = c.index-out.ensures ∙ get_or_default s.on.items c.args.p c.index-out.result.now None below in
    let written = rw (c.deref_mut.ensures.value, out) at c.write_places.ensures in
    let fed = rw c.deref_mut-2.ensures.value at c.write_feeders.ensures in
    let marks = rw c.is_some.ensures at c.marked-self-inside.ensures in
    let places_length = ap length written ∙ length-places_with s.of.items (occupant_in (places_view s) c.args.p) c.args.guest c.args.p in
    let feeders_length : length c.write_feeders.new.feeders ≡ length s.feeders.items = omega arith in
    IsIndex-replaced (places_view s) s.of.items s.linked s.feeders.items c.self.invariant c.args.p below c.args.guest number nowhere _
    c.marked-self-inside.result _ c.write_feeders.new.feeders c.mask_of-after.result
    (with_items_is s.of c.write_places.new.of (omega (arith, s.of.ok.0)) ∙ written) marks
    (with_items_is s.feeders c.write_feeders.new.feeders (omega (arith, s.feeders.ok.0))) feeders_length fed after

pub write_feeders-requires-clause-before_inside : goal.write_feeders-requires-clause-before_inside
write_feeders-requires-clause-before_inside c =
    let s = c.self.inside in
    let before = subst (λ (a : Layout). (q : ℕ) → has c.mask_of-before.result q ≡ mask_has a c.index-out.result.now q) (sym c.self.view_is)
    c.mask_of-before.ensures in
    rw c.deref_mut-2.ensures.value (mask_inside (places_view s) s.of.items s.linked s.feeders.items c.self.invariant c.index-out.result.now
    c.mask_of-before.result before)

pub write_feeders-requires-clause-after_inside : goal.write_feeders-requires-clause-after_inside
write_feeders-requires-clause-after_inside c =
    let s = c.self.inside in
    let after = subst (λ (a : Layout). (q : ℕ) → has c.mask_of-after.result q ≡ mask_has a c.args.guest q) (sym c.self.view_is)
    c.mask_of-after.ensures in
    rw c.deref_mut-2.ensures.value (mask_inside (places_view s) s.of.items s.linked s.feeders.items c.self.invariant c.args.guest
    c.mask_of-after.result after)

pub write_feeders-requires-clause-as_before : goal.write_feeders-requires-clause-as_before
write_feeders-requires-clause-as_before c =
    let s = c.self.inside in
    let below = subst (λ (a : Layout). c.args.p < length a.on) (sym c.self.view_is) c.requires.processor in
    let out = c.index-out.ensures ∙ get_or_default s.on.items c.args.p c.index-out.result.now None below in
    let before = subst (λ (a : Layout). (q : ℕ) → has c.mask_of-before.result q ≡ mask_has a c.index-out.result.now q) (sym c.self.view_is)
    c.mask_of-before.ensures in
    rw c.deref_mut-2.ensures.value (λ q lt. c.self.invariant.fed q c.args.p (let count = c.self.invariant.feeders_count in omega arith)
    ∙ ap (λ (o : Option ℕ). mask_has (places_view s) o q) (sym out) ∙ sym (before q))
