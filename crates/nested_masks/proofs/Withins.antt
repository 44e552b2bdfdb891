-- Whether one set lies within another, and of two masks that nest which one does.
use Rattle.std.proofs.Common.{◌≡◌, ℕ, ◌<◌, ◌≤◌, true, false, ◌&&◌, List, length, sym, ap, ◌∙◌, inl, inr, ◌⊎◌, arith, eq-eqb, eqb-true}
use Rattle.std.proofs.lemmas.Bool.{cases_Bool, and_parts, true≢false}
use Rattle.std.proofs.lemmas.Nat.{and_le_r}
use Rattle.affinity_mask.specs.ProcSet.{has, intersection, Within, Meets}
use Rattle.affinity_mask.proofs.Sets.{has-intersection, same_set, both_absorbs}
use Rattle.nested_masks.specs.Laminar.{mask_at, IsLaminar, is_within}

intersection-within : (X Y : ℕ) → Within X Y → intersection X Y ≡ X
intersection-within X Y within = same_set _ _ (λ q. rw has-intersection (both_absorbs _ _ (within q)))

pub is_within-from : (X Y : ℕ) → Within X Y → is_within X Y ≡ true
is_within-from X Y within = eq-eqb _ _ (intersection-within X Y within)

pub within_from : (X Y : ℕ) → is_within X Y ≡ true → Within X Y
within_from X Y h p member =
    let same : intersection X Y ≡ X = eqb-true _ _ h in
    let both : (has X p && has Y p) ≡ true = sym (has-intersection X Y p) ∙ ap (λ (Z : ℕ). has Z p) same ∙ member in
    (and_parts (has X p) (has Y p) both).1

pub is_within-not : (X Y : ℕ) → (Within X Y → ⊥) → is_within X Y ≡ false
is_within-not X Y not_within = elim (cases_Bool (is_within X Y)) [
  | inl h ↦ absurd (not_within (within_from X Y h))
  | inr h ↦ h
]

pub within_decided : (X Y : ℕ) → Within X Y ⊎ (Within X Y → ⊥)
within_decided X Y = elim (cases_Bool (is_within X Y)) [
  | inl h ↦ inl (within_from X Y h)
  | inr h ↦ inr (λ within. true≢false (sym (is_within-from X Y within) ∙ h))
]

pub within_trans : (X Y Z : ℕ) → Within X Y → Within Y Z → Within X Z
within_trans X Y Z a b p h = b p (a p h)

pub within_same : (X : ℕ) → Within X X
within_same X p h = h

-- a set within another is no greater as a number
intersection-least : (X Y : ℕ) → intersection X Y ≤ Y
unfolding intersection
intersection-least X Y = and_le_r X Y

pub within_least : (X Y : ℕ) → Within X Y → X ≤ Y
within_least X Y within = let least = intersection-least X Y in let same = intersection-within X Y within in omega arith

-- two sets within one another are equal
pub within_both : (X Y : ℕ) → Within X Y → Within Y X → X ≡ Y
within_both X Y a b = let le = within_least X Y a in let ge = within_least Y X b in omega arith

-- of two masks that meet one lies within the other
pub nests : (masks : List ℕ) → IsLaminar masks → (t u : ℕ) → t < length masks → u < length masks → Meets (mask_at masks t) (mask_at masks u)
    → Within (mask_at masks t) (mask_at masks u) ⊎ Within (mask_at masks u) (mask_at masks t)
nests masks laminar t u lt lu meet = elim (within_decided (mask_at masks t) (mask_at masks u)) [
  | inl within ↦ inl within
  | inr not_within ↦ elim (within_decided (mask_at masks u) (mask_at masks t)) [
    | inl around ↦ inr around
    | inr not_around ↦ absurd (laminar t u lt lu record { meet = meet; not_within = not_within; not_around = not_around })
  ]
]
