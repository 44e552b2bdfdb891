-- Sets that have a processor in common, and the empty set, which has none.
use Rattle.std.proofs.Common.{◌≡◌, ℕ, ◌&&◌, Option, Some, None, refl, sym, ap, ◌∙◌, IsTrue, ◌↔◌}
use Rattle.std.proofs.lemmas.Bool.{and_parts, and_from, true≢false, false≢true}
use Rattle.std.specs.Prelude.{IsNone, IfSome, is_some}
use Rattle.affinity_mask.specs.ProcSet.{has, empty, Meets, IsLeastMember}
use Rattle.affinity_mask.proofs.Sets.{has-zero}

-- the empty set has no member
pub no_member : (X p : ℕ) → X ≡ empty → IsTrue (has X p) → ⊥
no_member X p none h = true≢false (sym h ∙ ap (λ (Y : ℕ). has Y p) none ∙ has-zero p)

-- sets meet where what is in both has a least member
pub meets_at_least : (X Y both : ℕ) → ((q : ℕ) → has both q ≡ (has X q && has Y q)) → (least : Option ℕ) → IsNone least ↔ (both ≡ empty)
    → IfSome least (IsLeastMember both) → IsTrue (is_some least) ↔ Meets X Y
meets_at_least X Y both is_both None none member = (
  λ h. absurd (false≢true h),
  λ common. absurd (no_member both common.0 (none.0 refl)
      (is_both common.0 ∙ and_from (has X common.0) (has Y common.0) common.1 common.2)),
)
meets_at_least X Y both is_both (Some p) none member =
    (λ h. let parts = and_parts (has X p) (has Y p) (sym (is_both p) ∙ member.0) in (p, parts.0, parts.1), λ common. refl)
