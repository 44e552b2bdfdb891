-- The fields of a line, taken one by one.
use Rattle.std.proofs.Common.{◌≡◌, ℕ, ◌-◌, ◌≤◌, ◌↔◌, List, [], ◌∷◌, length, get_or, drop, take, Bool, IsTrue, Bor, codes, sym, ap, arith}
use Rattle.std.proofs.lemmas.List.{take_all}
use Rattle.text_fields.specs.Fields.{texts}
use Rattle.job_release.specs.JobText.{BeginsTask}

-- the first field says whether the line begins with `task`
pub begins_by_first : (fields : List (Bor (List ℕ))) (d : Bor (List ℕ)) (r : Bool) → 1 ≤ length fields
    → IsTrue r ↔ ((get_or fields 0 d).now ≡ codes "task") → IsTrue r ↔ BeginsTask (texts fields)
begins_by_first [] d r some tells = absurd (omega arith)
begins_by_first (x ∷ xs) d r some tells = (
  (λ h. (texts xs, ap (λ (word : List ℕ). word ∷ texts xs) (tells.0 h))),
  λ begins. let same : x.now ≡ codes "task" = first_same begins.1 in tells.1 same,
)
  where
    first_same : {a b : List ℕ} {xs ys : List (List ℕ)} → a ∷ xs ≡ b ∷ ys → a ≡ b
    first_same e = cc

-- the first four fields, and the others
pub texts_first_four : (fields : List (Bor (List ℕ))) (d : Bor (List ℕ)) → 4 ≤ length fields
    → texts fields
    ≡ (get_or fields 0 d).now ∷ (get_or fields 1 d).now ∷ (get_or fields 2 d).now ∷ (get_or fields 3 d).now
    ∷ texts (take (length fields - 4) (drop 4 fields))
texts_first_four [] d some = absurd (omega arith)
texts_first_four (x ∷ []) d some = absurd (omega arith)
texts_first_four (x ∷ y ∷ []) d some = absurd (omega arith)
texts_first_four (x ∷ y ∷ z ∷ []) d some = absurd (omega arith)
texts_first_four (x ∷ y ∷ z ∷ u ∷ us) d some =
    ap (λ (rest : List (Bor (List ℕ))). x.now ∷ y.now ∷ z.now ∷ u.now ∷ texts rest)
    (sym (take_all (length (x ∷ y ∷ z ∷ u ∷ us) - 4) us (omega arith)))

-- the same, where the first is this word
pub worded_four : (fields : List (Bor (List ℕ))) (d : Bor (List ℕ)) (word : List ℕ) → (get_or fields 0 d).now ≡ word → 4 ≤ length fields
    → texts fields
    ≡ word ∷ (get_or fields 1 d).now ∷ (get_or fields 2 d).now ∷ (get_or fields 3 d).now ∷ texts (take (length fields - 4) (drop 4 fields))
worded_four fields d word is some = rw (← is) (texts_first_four fields d some)
