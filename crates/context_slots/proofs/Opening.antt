-- A new table keeps the rule.
use Rattle.std.proofs.Common.{◌≡◌, ℕ, zero, suc, ◌+◌, ◌<◌, List, [], ◌∷◌, ◌++◌, ◌⊎◌, inl, inr, length, map, get_or, sym, refl, ap, ◌∙◌}
use Rattle.std.proofs.Common.{subst, ⊎_elim, arith, Option, Some}
use mathlib.Core.Option.{some, some-injective, some-ne-none}
use mathlib.Core.Logic.{dite}
use native.Mathlib.Decide.{dec_le}
use lib.ListN.{get_elem?}
use Rattle.atomic_table.specs.Table.{opening}
use Rattle.task_set.specs.declared.context.Context.{Context}
use Rattle.context_slots.specs.declared.view.HandView.{HandView}
use Rattle.task_set.specs.Context.{fresh_context}
use Rattle.context_slots.specs.HandOver.{IsRun, IdleIsEmpty, HandOverRule}
use Rattle.context_slots.specs.HandSteps.{dealing}

pub zero_snoc : (l : List ℕ) (k : ℕ) → ((j : ℕ) → get_or l j 0 ≡ 0) → get_or (l ++ 0 ∷ []) k 0 ≡ 0
zero_snoc [] zero h = refl
zero_snoc [] (suc k) h = refl
zero_snoc (x ∷ xs) zero h = h 0
zero_snoc (x ∷ xs) (suc k) h = zero_snoc xs k (λ j. h (suc j))

module _ {A : Type 0} where
  at_before : (l : List A) (x : A) (k : ℕ) → k < length l → get_elem? (l ++ x ∷ []) k ≡ get_elem? l k
  at_before [] x k low = absurd (omega arith)
  at_before (y ∷ ys) x zero low = refl
  at_before (y ∷ ys) x (suc k) low = at_before ys x k (omega arith)

  at_last : (l : List A) (x : A) (k : ℕ) → k ≡ length l → get_elem? (l ++ x ∷ []) k ≡ some x
  at_last [] x zero at = refl
  at_last [] x (suc k) at = absurd (omega arith)
  at_last (y ∷ ys) x zero at = absurd (omega arith)
  at_last (y ∷ ys) x (suc k) at = at_last ys x k (omega arith)

  at_map : (l : List A) (x : A) (k : ℕ) → get_elem? l k ≡ some x → get_elem? (map some l) k ≡ some (some x)
  at_map [] x k at = absurd (some-ne-none x (sym at))
  at_map (y ∷ ys) x zero at = ap some at
  at_map (y ∷ ys) x (suc k) at = at_map ys x k at

  length_map : (l : List A) → length (map some l) ≡ length l
  length_map [] = refl
  length_map (y ∷ ys) = ap suc (length_map ys)

abbrev Home : List (Option Context) → ℕ → Type 0
Home l n = (k : ℕ) → k < n → get_elem? l k ≡ some (Some (fresh_context k))

pub home_snoc : (l m : List (Option Context)) (n : ℕ) → length l ≡ n → m ≡ l ++ Some (fresh_context n) ∷ [] → Home l n → Home m (n + 1)
home_snoc l m n len is h = λ k low. ap (λ (x : List (Option Context)). get_elem? x k) is ∙ ⊎_elim
    (λ (lt : k < n). at_before l (Some (fresh_context n)) k (omega arith) ∙ h k lt)
    (λ (e : k ≡ n). at_last l (Some (fresh_context n)) k (omega arith) ∙ ap (λ j. some (Some (fresh_context j))) (sym e)) (less_or k n low)
  where
    less_or : (k n : ℕ) → k < n + 1 → (k < n) ⊎ (k ≡ n)
    less_or k n low = dite (dec_le n k) (λ h. inr (omega arith)) (λ h. inl (omega arith))

only : (v u : HandView) (j : ℕ) → get_elem? (v ∷ []) j ≡ some u → v ≡ u
only v u zero e = some-injective v u e
only v u (suc j) e = absurd (some-ne-none u (sym e))

pub opens_lem : (processors n : ℕ) (ws : List ℕ) (xs : List (Option Context)) → length ws ≡ n → length xs ≡ n
    → ((k : ℕ) → get_or ws k 0 ≡ 0) → Home xs n → HandOverRule processors (opening ws xs (dealing processors 1))
opens_lem processors n ws xs words slots zero_words home = record {
  log = λ _. [];
  whole = omega arith;
  idle = λ j v e. subst IdleIsEmpty (only (dealing processors 1) v j e) (λ _. (refl, refl));
  balanced = λ t h. refl;
  numbered = λ t. tt;
  wide = words ∙ sym (length_map xs ∙ slots);
  counted = λ t low. omega (arith, zero_words t);
  holders = λ t low. omega (arith, zero_words t);
  home = λ t low e. at_map xs (Some (fresh_context t)) t (home t (omega (arith, low, length_map xs)));
  out = λ j v e. subst (λ (u : HandView). IsRun (λ _. []) (length (map some xs)) u.holds) (only (dealing processors 1) v j e) tt;
}
