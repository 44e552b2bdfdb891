-- Lists in which no processor stands twice.
use Rattle.std.proofs.Common.{◌≡◌, ◌≢◌, ℕ, zero, suc, ◌-◌, ◌<◌, ◌≤◌, true, List, [], ◌∷◌, ◌++◌, length, get_or, take, drop, reverse, sym}
use Rattle.std.proofs.Common.{◌∙◌, inl, inr, ◌⊎◌, arith, eqb, eqb-true}
use Rattle.std.specs.List.{list_any}
use Rattle.std.proofs.lemmas.Bool.{or_cases, false≢true}
use Rattle.std.proofs.lemmas.Bool.Decides.{Decides-eqb}
use Rattle.std.proofs.lemmas.List.{take-append-drop, get_or_default, get_or-reverse, length-reverse}
use Rattle.std.proofs.lemmas.Map.Made.{IsDistinct-from_AllPairs}
use Rattle.std.proofs.lemmas.Map.Steps.{length-le_from_distinct_below}
use Rattle.strong_apa.specs.Chain.{IsSimple}

-- none of the list is in V, and none stands twice
abbrev pub Avoids : (ℕ → Type 0) → List ℕ → Type 0
Avoids V [] = Unit {0}
Avoids V (x ∷ rest) = (V x → ⊥) × Avoids (λ p. (p ≡ x) ⊎ V p) rest

pub IsSimple-tail : (x : ℕ) (rest : List ℕ) → IsSimple (x ∷ rest) → IsSimple rest
IsSimple-tail x rest simple = λ i j d lt fits. simple (suc i) (suc j) d (omega arith) (omega arith)

-- the first does not stand again
pub IsSimple-head : (x : ℕ) (rest : List ℕ) → IsSimple (x ∷ rest) → (i : ℕ) → i < length rest → get_or rest i 0 ≢ x
IsSimple-head x rest simple i fits e = simple 0 (suc i) 0 (omega arith) (omega arith) (sym e)

pub Avoids-from : (V : ℕ → Type 0) (chain : List ℕ) → IsSimple chain → ((i : ℕ) → i < length chain → V (get_or chain i 0) → ⊥)
    → Avoids V chain
Avoids-from V [] simple out = tt
Avoids-from V (x ∷ rest) simple out = (
  out 0 (omega arith),
  Avoids-from (λ p. (p ≡ x) ⊎ V p) rest (IsSimple-tail x rest simple) (λ i fits. λ w. elim w [
    | inl same ↦ IsSimple-head x rest simple i fits same
    | inr there ↦ out (suc i) (omega arith) there
  ]),
)

pub Avoids-none : (chain : List ℕ) → IsSimple chain → Avoids (λ p. ⊥) chain
Avoids-none chain simple = Avoids-from (λ p. ⊥) chain simple (λ i fits h. h)

Avoids-front : (V : ℕ → Type 0) (xs ys : List ℕ) → Avoids V (xs ++ ys) → Avoids V xs
Avoids-front V [] ys a = tt
Avoids-front V (x ∷ xs) ys a = (a.0, Avoids-front (λ p. (p ≡ x) ⊎ V p) xs ys a.1)

pub Avoids-take : (chain : List ℕ) (n : ℕ) → IsSimple chain → Avoids (λ p. ⊥) (take n chain)
Avoids-take chain n simple = Avoids-front (λ p. ⊥) (take n chain) (drop n chain) (rw take-append-drop (Avoids-none chain simple))

-- the last of the list is not in V
pub Avoids-last : (V : ℕ → Type 0) (xs : List ℕ) (x : ℕ) → Avoids V (xs ++ x ∷ []) → V x → ⊥
Avoids-last V [] x a v = a.0 v
Avoids-last V (y ∷ xs) x a v = Avoids-last (λ p. (p ≡ y) ⊎ V p) xs x a.1 (inr v)

-- a processor that the list does not have, and the list
pub IsSimple-cons : (x : ℕ) (rest : List ℕ) → ((i : ℕ) → i < length rest → get_or rest i 0 ≢ x) → IsSimple rest → IsSimple (x ∷ rest)
IsSimple-cons x rest fresh simple = between
  where
    between : (i j d : ℕ) → i < j → j < length (x ∷ rest) → get_or (x ∷ rest) i d ≢ get_or (x ∷ rest) j d
    between i zero d lt fits e = absurd (omega arith)
    between zero (suc j) d lt fits e = fresh j (omega arith) (get_or_default rest j 0 d (omega arith) ∙ sym e)
    between (suc i) (suc j) d lt fits e = simple i j d (omega arith) (omega arith) e

-- the list read from its end
pub IsSimple-reverse : (xs : List ℕ) → IsSimple xs → IsSimple (reverse xs)
IsSimple-reverse xs simple = λ i j d lt fits e.
    let n : length (reverse xs) ≡ length xs = length-reverse xs in
    simple (length xs - 1 - j) (length xs - 1 - i) d (omega arith) (omega arith)
    (sym (get_or-reverse xs j d (omega arith)) ∙ sym e ∙ get_or-reverse xs i d (omega arith))

-- each number of the list is below m
abbrev pub AllBelow : ℕ → List ℕ → Type 0
AllBelow m [] = Unit {0}
AllBelow m (x ∷ xs) = (x < m) × AllBelow m xs

any_below : (m : ℕ) (xs : List ℕ) (q : ℕ) → AllBelow m xs → list_any (eqb q) xs ≡ true → q < m
any_below m [] q below h = absurd (false≢true h)
any_below m (x ∷ xs) q below h = elim (or_cases (eqb q x) (list_any (eqb q) xs) h) [
  | inl here ↦ rw (eqb-true q x here) below.0
  | inr later ↦ any_below m xs q below.1 later
]

-- a list of numbers below m that has none twice has at most m
pub length-simple : (m : ℕ) (xs : List ℕ) → IsSimple xs → AllBelow m xs → length xs ≤ m
length-simple m xs simple below =
    length-le_from_distinct_below xs m (IsDistinct-from_AllPairs Decides-eqb xs simple) (λ q h. any_below m xs q below h)
