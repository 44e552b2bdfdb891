-- The fields of a line, taken one by one, and cut in two.
use Rattle.std.proofs.Common.{◌≡◌, ℕ, zero, suc, ◌-◌, ◌<◌, ◌≤◌, List, [], ◌∷◌, length, take, drop, get_or, Bor, refl, sym, ap, ◌∙◌, ◌++◌}
use Rattle.std.proofs.Common.{arith, append_assoc, length-append, ◌≢◌, Bool, true, false, nat_eq, eqb-true}
use Rattle.std.specs.Prelude.{codes}
use Rattle.std.proofs.lemmas.Bool.{true≢false}
use Rattle.text_fields.specs.Fields.{texts}
use Rattle.schedule_text.specs.ScheduleText.{spaced}
use Rattle.schedule_text.specs.LineFields.{IsGoneThen}
use Rattle.text_fields.proofs.Words.{head_same, tail_same}
use Rattle.text_fields.proofs.FieldLists.{texts_first_one, texts_three, texts_four}

pub texts_five : (fields : List (Bor (List ℕ))) (d : Bor (List ℕ)) → 5 ≤ length fields → length fields < 6
    → texts fields ≡ (get_or fields 0 d).now ∷ (get_or fields 1 d).now ∷ (get_or fields 2 d).now
    ∷ (get_or fields 3 d).now ∷ (get_or fields 4 d).now ∷ []
texts_five (x ∷ us) d some few =
    ap (λ (more : List (List ℕ)). x.now ∷ more) (texts_four us d (omega arith) (omega arith))
texts_five [] d some few = absurd (omega arith)

pub texts_six : (fields : List (Bor (List ℕ))) (d : Bor (List ℕ)) → 6 ≤ length fields → length fields < 7
    → texts fields ≡ (get_or fields 0 d).now ∷ (get_or fields 1 d).now ∷ (get_or fields 2 d).now
    ∷ (get_or fields 3 d).now ∷ (get_or fields 4 d).now ∷ (get_or fields 5 d).now ∷ []
texts_six (x ∷ y ∷ z ∷ us) d some few =
    let rest = texts_three us d (omega arith) (omega arith) in
    ap (λ (more : List (List ℕ)). x.now ∷ y.now ∷ z.now ∷ more) rest
texts_six [] d some few = absurd (omega arith)
texts_six (x ∷ []) d some few = absurd (omega arith)
texts_six (x ∷ y ∷ []) d some few = absurd (omega arith)

take_whole : (n : ℕ) (xs : List (Bor (List ℕ))) → length xs ≤ n → take n xs ≡ xs
take_whole zero [] le = refl
take_whole (suc n) [] le = refl
take_whole zero (x ∷ xs) le = absurd (omega arith)
take_whole (suc n) (x ∷ xs) le = ap (λ (rest : List (Bor (List ℕ))). x ∷ rest) (take_whole n xs (omega arith))

-- the first field is this word
pub headed : (fields : List (Bor (List ℕ))) (d : Bor (List ℕ)) (word : List ℕ) → 1 ≤ length fields
    → (get_or fields 0 d).now ≡ word → word ∷ texts (take (length fields - 1) (drop 1 fields)) ≡ texts fields
headed fields d word some is =
    sym (texts_first_one fields d some
    ∙ ap (λ (first : List ℕ). first ∷ texts (take (length fields - 1) (drop 1 fields))) is)

-- there are others
pub more_than_one : (fields : List (Bor (List ℕ))) (none : Bool)
    → none ≡ nat_eq (length (take (length fields - 1) (drop 1 fields))) 0 → none ≡ false → length (texts fields) ≢ 1
more_than_one [] none is differs one = omega (arith, one)
more_than_one (x ∷ []) none is differs one = true≢false (sym is ∙ differs)
more_than_one (x ∷ y ∷ fields) none is differs one = omega (arith, one)

-- there are none
pub only_one : (fields : List (Bor (List ℕ))) (d : Bor (List ℕ)) (none : Bool) → 1 ≤ length fields
    → none ≡ nat_eq (length (take (length fields - 1) (drop 1 fields))) 0 → none ≡ true
    → texts fields ≡ (get_or fields 0 d).now ∷ []
only_one fields d none some is all =
    texts_first_one fields d some
    ∙ ap (λ (rest : List (List ℕ)). (get_or fields 0 d).now ∷ rest)
    (no_texts (take (length fields - 1) (drop 1 fields)) (sym is ∙ all))
  where
    no_texts : (rest : List (Bor (List ℕ))) → nat_eq (length rest) 0 ≡ true → texts rest ≡ []
    no_texts [] e = refl
    no_texts (x ∷ xs) e = absurd (omega (arith, eqb-true (length (x ∷ xs)) 0 e))

-- the first two fields, and the others
pub texts_rest_two : (fields : List (Bor (List ℕ))) (d : Bor (List ℕ)) → 2 ≤ length fields
    → texts fields
    ≡ (get_or fields 0 d).now ∷ (get_or fields 1 d).now ∷ texts (take (length fields - 2) (drop 2 fields))
texts_rest_two [] d some = absurd (omega arith)
texts_rest_two (x ∷ []) d some = absurd (omega arith)
texts_rest_two (x ∷ y ∷ us) d some =
    ap (λ (rest : List (Bor (List ℕ))). x.now ∷ y.now ∷ texts rest)
    (sym (take_whole (length (x ∷ y ∷ us) - 2) us (omega arith)))

-- ---- five fields and the word `then`

-- there are too few fields
pub short_gone : (fields : List (List ℕ)) → length fields ≤ 5 → (part after : List (List ℕ))
    → IsGoneThen fields part after → ⊥
short_gone fields few part after f =
    omega (arith, few, f.five, ap length f.each_field, length-append part (codes "then" ∷ after))

-- another word stands there
pub other_gone : (fields : List (Bor (List ℕ))) (d : Bor (List ℕ)) → 5 < length fields
    → (get_or fields 5 d).now ≢ codes "then" → (part after : List (List ℕ)) → IsGoneThen (texts fields) part after → ⊥
other_gone (a ∷ b ∷ c ∷ e ∷ f ∷ g ∷ fields) d some other (p ∷ q ∷ r ∷ s ∷ t ∷ []) after cut =
    other (head_same (tail_same (tail_same (tail_same (tail_same (tail_same cut.each_field))))))
other_gone fields d some other part after cut = absurd (omega (arith, some, cut.five))

-- ---- fields with spaces between them

pub spaced_apart : (first : List ℕ) (more : List (List ℕ)) (second : List ℕ) (others : List (List ℕ))
    → spaced ((first ∷ more) ++ second ∷ others) ≡ spaced (first ∷ more) ++ 32 ∷ spaced (second ∷ others)
spaced_apart first [] second others = refl
spaced_apart first (next ∷ more) second others =
    ap (λ (rest : List ℕ). first ++ 32 ∷ rest) (spaced_apart next more second others)
    ∙ sym (append_assoc first (32 ∷ spaced (next ∷ more)) (32 ∷ spaced (second ∷ others)))
