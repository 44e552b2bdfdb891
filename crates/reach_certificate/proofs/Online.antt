-- A processor off line has no task, and one that has just come on line and goes off line again leaves nothing changed.
use Rattle.std.proofs.Common.{◌≡◌, ℕ, Bool, true, false, not, ◌&&◌, ◌||◌, refl, inl, inr, eq-eqb, ne_eqb}
use Rattle.std.proofs.lemmas.Bool.{cases_eq}
use Rattle.affinity_mask.specs.ProcSet.{has, with_member, without_member}
use Rattle.affinity_mask.proofs.Sets.{has-with_member, has-without_member, same_set}
use Rattle.strong_apa.specs.State.{State, state_with_online, state_with_offline}

added_and_removed : (X p : ℕ) → has X p ≡ false → without_member (with_member X p) p ≡ X
added_and_removed X p out = same_set (without_member (with_member X p) p) X each
  where
    each : (q : ℕ) → has (without_member (with_member X p) p) q ≡ has X q
    each q = elim (cases_eq q p) [
      | inl same ↦ rw (has-without_member (with_member X p) p q, same, eq-eqb p p refl, out) (none (has (with_member X p) p))
      | inr other ↦ rw (has-without_member (with_member X p) p q, has-with_member X p q, ne_eqb q p other) (kept (has X q))
    ]
      where
        none : (b : Bool) → (b && not true) ≡ false
        none true = refl
        none false = refl

        kept : (b : Bool) → ((b || false) && not false) ≡ b
        kept true = refl
        kept false = refl

pub off_again : (s : State) (p : ℕ) → has s.online p ≡ false → state_with_offline (state_with_online s p) p ≡ s
off_again s p off = λ k. record s { online = added_and_removed s.online p off k }
