-- Processors that are stepped one after the other.
use Rattle.std.proofs.Common.{◌≡◌, ℕ, zero, suc, ◌+◌, ◌<◌, ◌&&◌, Bool, true, false, List, [], ◌∷◌, length, map, set, take, get_or, refl}
use Rattle.std.proofs.Common.{sym, ap, ◌∙◌, subst, arith}
use Rattle.std.specs.Prelude.{All}
use Rattle.std.proofs.lemmas.List.Elements.{All-nil, All-cons, All-append}
use Rattle.std.proofs.lemmas.Grind.{take-set_at}

-- a list in which one element was replaced by one that a function does not tell apart
pub map_set_same : {X Y : Type 0} (f : X → Y) (xs : List X) (i : ℕ) (x y : X) → i < length xs → x ≡ get_or xs i x → f y ≡ f x
    → map f (set xs i y) ≡ map f xs
map_set_same f [] i x y low is same = absurd (omega arith)
map_set_same f (z ∷ xs) zero x y low is same = ap (λ w. w ∷ map f xs) (same ∙ ap f is)
map_set_same f (z ∷ xs) (suc i) x y low is same = ap (λ ws. f z ∷ ws) (map_set_same f xs i x y (omega arith) is same)

both_true : (a b : Bool) → (a && b) ≡ true → (a ≡ true) × (b ≡ true)
both_true true b is = (refl, is)
both_true false b is = absurd (cc is)

-- P holds of the first elements, and of the one that was replaced after them
pub all_first : {X : Type 0} (P : X → Type 0) (xs : List X) (i : ℕ) (y : X) (before one : Bool) → i < length xs
    → (before ≡ true → All P (take i xs)) → (one ≡ true → P y) → (before && one) ≡ true → All P (take (i + 1) (set xs i y))
all_first P xs i y before one low first now both =
    let two = both_true before one both in
    subst (All P) (sym (take-set_at xs i (i + 1) y refl low))
    (All-append P (take i xs) (y ∷ []) (first two.0) (All-cons P y [] (now two.1) (All-nil P)))
