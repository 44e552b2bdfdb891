use Rattle.std.proofs.Common.{◌≡◌, ℕ, Bool, true, false, not, ◌&&◌, ◌||◌, nat_eq, refl, sym, ap, ◌∙◌, if◌then◌else◌, ◌==◌}
use Rattle.affinity_mask.specs.ProcSet.{has, with_member, without_member}
use Rattle.affinity_mask.proofs.Sets.{has-with_member, has-without_member, same_set}
use Rattle.link_table.specs.Layout.{Layout, with_online}
use Rattle.link_table.proofs.places.Places.set_online.Goals as goal

if_in : (there before : Bool) → (if there then true else before) ≡ (before || there)
if_in true true = refl
if_in true false = refl
if_in false true = refl
if_in false false = refl

if_out : (there before : Bool) → (if there then false else before) ≡ (before && not there)
if_out true true = refl
if_out true false = refl
if_out false true = refl
if_out false false = refl

-- a set that differs at p alone
marked_at : (X Y p : ℕ) (on : Bool) → ((q : ℕ) → has Y q ≡ (if q == p then on else has X q))
    → Y ≡ (if on then with_member X p else without_member X p)
marked_at X Y p true is = same_set Y (with_member X p) (λ q. is q ∙ if_in (nat_eq q p) (has X q) ∙ sym (has-with_member X p q))
marked_at X Y p false is = same_set Y (without_member X p) (λ q. is q ∙ if_out (nat_eq q p) (has X q) ∙ sym (has-without_member X p q))

pub invariant_of-self : goal.invariant_of-self
invariant_of-self c =
    let ix = c.self.invariant in
    record {
      few = ix.few;
      masks = ix.masks;
      places_count = ix.places_count;
      feeders_count = ix.feeders_count;
      place = ix.place;
      occupant = ix.occupant;
      occupied = ix.occupied;
      fed = ix.fed;
    }

pub returns : goal.returns
returns c =
    let s = c.self.inside in
    rw (marked_at s.online c.marked-self-inside.result c.args.p c.args.on c.marked-self-inside.ensures)
    (ap (λ (a : Layout). with_online a c.args.p c.args.on) c.self.view_is)
