-- The fields of a line, taken one by one.
use Rattle.std.proofs.Common.{◌≡◌, ℕ, ◌≤◌, ◌↔◌, List, [], ◌∷◌, length, get_or, Bool, IsTrue, Bor, ap, arith}
use Rattle.text_fields.specs.Fields.{texts}
use Rattle.kernel_trace.specs.TraceText.{BeginsWith}

-- the first field says whether the line begins with a word
pub begins_by_first : (fields : List (Bor (List ℕ))) (d : Bor (List ℕ)) (one : List ℕ) (r : Bool) → 1 ≤ length fields
    → IsTrue r ↔ ((get_or fields 0 d).now ≡ one) → IsTrue r ↔ BeginsWith one (texts fields)
begins_by_first [] d one r some tells = absurd (omega arith)
begins_by_first (x ∷ xs) d one r some tells = (
  (λ h. (texts xs, ap (λ (word : List ℕ). word ∷ texts xs) (tells.0 h))),
  λ begins. let same : x.now ≡ one = first_same begins.1 in tells.1 same,
)
  where
    first_same : {a b : List ℕ} {xs ys : List (List ℕ)} → a ∷ xs ≡ b ∷ ys → a ≡ b
    first_same e = cc
