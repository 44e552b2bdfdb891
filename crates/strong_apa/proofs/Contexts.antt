-- The context that runs and takes give, with one more take or run: what a program that keeps contexts by `took` and
-- `ran` has to know.
use Rattle.std.proofs.Common.{◌≡◌, ℕ, ◌+◌, ◌*◌, ◌-◌, ◌%◌, ◌^◌, not, ◌==◌, List, [], ◌∷◌, ◌++◌, length, drop, cond, Some, refl, sym, ap, ◌∙◌}
use Rattle.std.proofs.Common.{inl, inr, ◌⊎◌, arith, append_assoc}
use Rattle.std.specs.Prelude.{slice_get, sum_by, count_by}
use Rattle.std.specs.List.{zip}
use Rattle.std.proofs.Math.Nat.{mod-add-mod}
use Rattle.std.proofs.lemmas.Bool.{cases_Bool}
use Rattle.std.proofs.lemmas.List.{length-append}
use Rattle.std.proofs.lemmas.List.Sums.{sum_by_push, fold-append}
use Rattle.task_set.specs.Context.{fresh_context, context_after_take, context_after_run}
use Rattle.strong_apa.specs.Dispatch.{change_count, last_of, context_from}

-- nothing taken and nothing run: the fresh context
pub context_from-nothing : (t : ℕ) → context_from t [] [] ≡ fresh_context t
context_from-nothing t = refl

-- ---- one more take
abbrev neighbours : List ℕ → List (ℕ × ℕ)
neighbours xs = zip xs (drop 1 xs)

neighbours-push : (front : List ℕ) (q p : ℕ) → neighbours (front ++ q ∷ p ∷ []) ≡ neighbours (front ++ q ∷ []) ++ (q, p) ∷ []
neighbours-push [] q p = refl
neighbours-push (x ∷ []) q p = refl
neighbours-push (x ∷ y ∷ rest) q p = ap (λ (pairs : List (ℕ × ℕ)). (x, y) ∷ pairs) (neighbours-push (y ∷ rest) q p)

change_count-push : (front : List ℕ) (q p : ℕ) → change_count (front ++ q ∷ p ∷ []) ≡ change_count (front ++ q ∷ [])
    + cond (not (q == p)) 1 0
change_count-push front q p =
    ap (λ (pairs : List (ℕ × ℕ)). count_by (λ pair. not (pair.0 == pair.1)) pairs) (neighbours-push front q p)
    ∙ sum_by_push (λ (pair : ℕ × ℕ). cond (not (pair.0 == pair.1)) 1 0) (neighbours (front ++ q ∷ [])) (q, p)

get_last : (front : List ℕ) (p : ℕ) → slice_get (front ++ p ∷ []) (length front) ≡ Some p
get_last [] p = refl
get_last (x ∷ front) p = get_last front p

last_of-push : (front : List ℕ) (p : ℕ) → last_of (front ++ p ∷ []) ≡ Some p
last_of-push front p =
    let n : length (front ++ p ∷ []) - 1 ≡ length front = (let l = length-append front (p ∷ []) in omega arith) in
    ap (λ (i : ℕ). slice_get (front ++ p ∷ []) i) n ∙ get_last front p

-- a list is empty, or has a last number
last_split : (xs : List ℕ) → (xs ≡ []) ⊎ ((front : List ℕ) × (q : ℕ) × (xs ≡ front ++ q ∷ []))
last_split [] = inl refl
last_split (x ∷ xs) = elim (last_split xs) [
  | inl e ↦ inr ([], x, ap (λ (ys : List ℕ). x ∷ ys) e)
  | inr s ↦ inr (x ∷ s.0, s.1, ap (λ (ys : List ℕ). x ∷ ys) s.2)
]

moves_more : (n q p : ℕ) → (n + cond (not (q == p)) 1 0) % 2 ^ 64 ≡ cond (q == p) (n % 2 ^ 64) ((n % 2 ^ 64 + 1) % 2 ^ 64)
moves_more n q p = elim (cases_Bool (q == p)) [
  | inl same ↦ rw same (let e : n + 0 ≡ n = omega arith in ap (λ (k : ℕ). k % 2 ^ 64) e)
  | inr other ↦ rw other (sym (mod-add-mod n (2 ^ 64) 1))
]

stints_more : (taken : List ℕ) (p : ℕ) → length (taken ++ p ∷ []) % 2 ^ 64 ≡ (length taken % 2 ^ 64 + 1) % 2 ^ 64
stints_more taken p = ap (λ (k : ℕ). k % 2 ^ 64) (length-append taken (p ∷ [])) ∙ sym (mod-add-mod (length taken) (2 ^ 64) 1)

pub context_from-take : (t : ℕ) (runs : List (ℕ × ℕ)) (taken : List ℕ) (p : ℕ) → context_from t runs (taken ++ p ∷ [])
    ≡ context_after_take (context_from t runs taken) p
context_from-take t runs taken p = elim (last_split taken) [
  | inl none ↦ rw none refl
  | inr s ↦ rw s.2 (after s.0 s.1)
]
  where
    after : (front : List ℕ) (q : ℕ) → context_from t runs (front ++ q ∷ [] ++ p ∷ [])
        ≡ context_after_take (context_from t runs (front ++ q ∷ [])) p
    after front q =
        let whole : front ++ q ∷ [] ++ p ∷ [] ≡ front ++ q ∷ p ∷ [] = append_assoc front (q ∷ []) (p ∷ []) in
        let moves = ap (λ (xs : List ℕ). change_count xs) whole ∙ change_count-push front q p in
        rw (
          stints_more (front ++ q ∷ []) p,
          last_of-push (front ++ q ∷ []) p,
          last_of-push front q,
          moves,
          moves_more (change_count (front ++ q ∷ [])) q p,
        ) refl

-- ---- one more run
pub context_from-run : (t : ℕ) (runs : List (ℕ × ℕ)) (taken : List ℕ) (p units : ℕ) → context_from t (runs ++ (p, units) ∷ []) taken
    ≡ context_after_run (context_from t runs taken) p units
context_from-run t runs taken p units =
    let sum = sum_by_push (λ (run : ℕ × ℕ). run.1) runs (p, units) in
    let more = sym (mod-add-mod (sum_by (λ (run : ℕ × ℕ). run.1) runs) (2 ^ 64) units) in
    let trail = fold-append (λ (trail : ℕ) (run : ℕ × ℕ). (trail * 6364136223846793005 + 64 * run.1 + run.0) % 2 ^ 64) t runs
    ((p, units) ∷ []) in
    rw (sum, more, trail) refl
