-- The fields of a line, taken one by one.
use Rattle.std.proofs.Common.{◌≡◌, ℕ, zero, suc, take, ◌-◌, ◌<◌, ◌≤◌, List, [], ◌∷◌, length, get_or, drop, Bor, refl, sym, ap, arith}
use Rattle.text_fields.specs.Fields.{texts}

pub texts_first : (fields : List (Bor (List ℕ))) (d : Bor (List ℕ)) → 1 ≤ length fields
    → texts fields ≡ (get_or fields 0 d).now ∷ texts (drop 1 fields)
texts_first [] d some = absurd (omega arith)
texts_first (x ∷ xs) d some = refl

pub texts_one : (fields : List (Bor (List ℕ))) (d : Bor (List ℕ)) → 1 ≤ length fields → length fields < 2
    → texts fields ≡ (get_or fields 0 d).now ∷ []
texts_one [] d some few = absurd (omega arith)
texts_one (x ∷ []) d some few = refl
texts_one (x ∷ y ∷ us) d some few = absurd (omega arith)

pub texts_two : (fields : List (Bor (List ℕ))) (d : Bor (List ℕ)) → 2 ≤ length fields → length fields < 3
    → texts fields ≡ (get_or fields 0 d).now ∷ (get_or fields 1 d).now ∷ []
texts_two [] d some few = absurd (omega arith)
texts_two (x ∷ []) d some few = absurd (omega arith)
texts_two (x ∷ y ∷ []) d some few = refl
texts_two (x ∷ y ∷ z ∷ us) d some few = absurd (omega arith)

pub texts_three : (fields : List (Bor (List ℕ))) (d : Bor (List ℕ)) → 3 ≤ length fields → length fields < 4
    → texts fields ≡ (get_or fields 0 d).now ∷ (get_or fields 1 d).now ∷ (get_or fields 2 d).now ∷ []
texts_three [] d some few = absurd (omega arith)
texts_three (x ∷ []) d some few = absurd (omega arith)
texts_three (x ∷ y ∷ []) d some few = absurd (omega arith)
texts_three (x ∷ y ∷ z ∷ []) d some few = refl
texts_three (x ∷ y ∷ z ∷ u ∷ us) d some few = absurd (omega arith)

pub texts_four : (fields : List (Bor (List ℕ))) (d : Bor (List ℕ)) → 4 ≤ length fields → length fields < 5
    → texts fields
    ≡ (get_or fields 0 d).now ∷ (get_or fields 1 d).now ∷ (get_or fields 2 d).now ∷ (get_or fields 3 d).now ∷ []
texts_four [] d some few = absurd (omega arith)
texts_four (x ∷ []) d some few = absurd (omega arith)
texts_four (x ∷ y ∷ []) d some few = absurd (omega arith)
texts_four (x ∷ y ∷ z ∷ []) d some few = absurd (omega arith)
texts_four (x ∷ y ∷ z ∷ u ∷ []) d some few = refl
texts_four (x ∷ y ∷ z ∷ u ∷ v ∷ us) d some few = absurd (omega arith)

take_whole : (n : ℕ) (xs : List (Bor (List ℕ))) → length xs ≤ n → take n xs ≡ xs
take_whole zero [] le = refl
take_whole (suc n) [] le = refl
take_whole zero (x ∷ xs) le = absurd (omega arith)
take_whole (suc n) (x ∷ xs) le = ap (λ (rest : List (Bor (List ℕ))). x ∷ rest) (take_whole n xs (omega arith))

-- the first field, and the others
pub texts_first_one : (fields : List (Bor (List ℕ))) (d : Bor (List ℕ)) → 1 ≤ length fields
    → texts fields ≡ (get_or fields 0 d).now ∷ texts (take (length fields - 1) (drop 1 fields))
texts_first_one [] d some = absurd (omega arith)
texts_first_one (x ∷ us) d some =
    ap (λ (rest : List (Bor (List ℕ))). x.now ∷ texts rest) (sym (take_whole (length (x ∷ us) - 1) us (omega arith)))

-- the first three fields, and the others
pub texts_first_three : (fields : List (Bor (List ℕ))) (d : Bor (List ℕ)) → 3 ≤ length fields
    → texts fields
    ≡ (get_or fields 0 d).now ∷ (get_or fields 1 d).now ∷ (get_or fields 2 d).now
    ∷ texts (take (length fields - 3) (drop 3 fields))
texts_first_three [] d some = absurd (omega arith)
texts_first_three (x ∷ []) d some = absurd (omega arith)
texts_first_three (x ∷ y ∷ []) d some = absurd (omega arith)
texts_first_three (x ∷ y ∷ z ∷ us) d some =
    ap (λ (rest : List (Bor (List ℕ))). x.now ∷ y.now ∷ z.now ∷ texts rest)
    (sym (take_whole (length (x ∷ y ∷ z ∷ us) - 3) us (omega arith)))
