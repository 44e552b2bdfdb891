-- The first place at which a test passes.
use Rattle.std.proofs.Common.{◌≡◌, ℕ, suc, ◌+◌, ◌<◌, ◌≤◌, Bool, true, false, not, cond, List, ◌∷◌, length, Option, Some, None, ap, ◌∙◌, inl}
use Rattle.std.proofs.Common.{inr, arith, ltb-true, nat_lt}
use Rattle.std.specs.Prelude.{position}
use Rattle.std.specs.List.{position_or_len}
use Rattle.std.proofs.lemmas.Bool.{cases_Bool, cases_lt, lt-ltb}
use Rattle.std.proofs.lemmas.List.Sums.{prefix_len-le-length}

pub position_within : {X : Type 0} (p : X → Bool) (xs : List X) → position_or_len p xs ≤ length xs
position_within p xs = prefix_len-le-length (λ x. not (p x)) xs

pub position_here : {X : Type 0} (p : X → Bool) (x : X) (xs : List X) → p x ≡ true → position_or_len p (x ∷ xs) ≡ 0
position_here p x xs passes = ap (λ (b : Bool). cond (not b) (1 + position_or_len p xs) 0) passes

pub position_later : {X : Type 0} (p : X → Bool) (x : X) (xs : List X) → p x ≡ false
    → position_or_len p (x ∷ xs) ≡ suc (position_or_len p xs)
position_later p x xs fails =
    let next : 1 + position_or_len p xs ≡ suc (position_or_len p xs) = omega arith in
    ap (λ (b : Bool). cond (not b) (1 + position_or_len p xs) 0) fails ∙ next

-- what `position` answers
pub position_some : {X : Type 0} (p : X → Bool) (xs : List X) (k : ℕ) → Some k ≡ position p xs
    → (k ≡ position_or_len p xs) × (k < length xs)
position_some p xs k e = elim (cases_Bool (nat_lt (position_or_len p xs) (length xs))) [
  | inl within ↦ (
      let found : position p xs ≡ Some (position_or_len p xs) = ap (λ (b : Bool). cond b (Some (position_or_len p xs)) None) within in
      let same : Some k ≡ Some (position_or_len p xs) = e ∙ found in
      let place : k ≡ position_or_len p xs = cc in
      let lt = ltb-true (position_or_len p xs) (length xs) within in
      (place, omega (arith, place, lt)))
  | inr past ↦ (
      let found : position p xs ≡ None = ap (λ (b : Bool). cond b (Some (position_or_len p xs)) None) past in
      let same : ◌≡◌ {A = Option ℕ} (Some k) None = e ∙ found in cc)
]

pub position_none : {X : Type 0} (p : X → Bool) (xs : List X) → None ≡ position p xs → length xs ≡ position_or_len p xs
position_none p xs e = elim (cases_lt (position_or_len p xs) (length xs)) [
  | inl within ↦ (
      let found : position p xs ≡ Some (position_or_len p xs) = ap (λ (b : Bool). cond b (Some (position_or_len p xs)) None)
      (lt-ltb _ _ within) in
      let same : ◌≡◌ {A = Option ℕ} None (Some (position_or_len p xs)) = e ∙ found in cc)
  | inr past ↦ (let most = position_within p xs in omega arith)
]
