-- The canonical list, written from processor 0 upward: its text up to each processor.
use Rattle.std.proofs.Common.{◌≡◌, ◌≢◌, ℕ, zero, suc, ◌<◌, ◌≤◌, inl, inr, true, false, nat_eq, List, [], ◌∷◌, ◌++◌, length, map, All, refl}
use Rattle.std.proofs.Common.{sym, ◌∙◌, ap, ap₂, arith, ⊎_elim, ne_eqb, eq-eqb, append_assoc, append-nil, length-append, if◌then◌else◌}
use Rattle.std.specs.List.{join_with_byte, zip}
use Rattle.std.proofs.lemmas.Bool.{cases_Bool, cases_eq, cases_lt, true≢false}
use Rattle.std.proofs.lemmas.List.{map-append}
use Rattle.std.proofs.lemmas.List.Elements.{All-head, All-map, All-weaker}
use Rattle.affinity_mask.specs.Number.{canonical_number}
use Rattle.affinity_mask.specs.ProcSet.{has, all_below, Within}
use Rattle.affinity_mask.specs.ListText.{comma, dash, begins_run, ends_run, run_text, canonical_list}
use Rattle.affinity_mask.specs.ListSteps.{end_text, list_below}
use Rattle.affinity_mask.proofs.Sets.{has-all_below}
use Rattle.affinity_mask.proofs.Runs.{IsClosed, IsOpen, Ascends, skip, single, begin, finish, stay, found_none, zip_back, number_of}
use Rattle.affinity_mask.proofs.Runs.{ends-suc}

-- ---- joined texts

-- a last text that goes on
join-goes_on : (xs : List (List ℕ)) (y z : List ℕ) → join_with_byte comma (xs ++ (y ++ z) ∷ []) ≡ join_with_byte comma (xs ++ y ∷ []) ++ z
join-goes_on [] y z = refl
join-goes_on (x ∷ []) y z = sym (append_assoc x (comma ∷ y) z)
join-goes_on (x ∷ next ∷ xs) y z =
    ap (λ (rest : List ℕ). x ++ (comma ∷ rest)) (join-goes_on (next ∷ xs) y z)
    ∙ sym (append_assoc x (comma ∷ join_with_byte comma (next ∷ xs ++ y ∷ [])) z)

-- one more text behind others
join-push : (x : List ℕ) (xs : List (List ℕ)) (y : List ℕ) → join_with_byte comma (x ∷ xs ++ y ∷ []) ≡ join_with_byte comma (x ∷ xs)
    ++ (comma ∷ y)
join-push x [] y = refl
join-push x (next ∷ xs) y =
    ap (λ (rest : List ℕ). x ++ (comma ∷ rest)) (join-push next xs y)
    ∙ sym (append_assoc x (comma ∷ join_with_byte comma (next ∷ xs)) (comma ∷ y))

-- texts that begin with one that is not empty are not empty together
join-some : (x : List ℕ) (xs : List (List ℕ)) → 0 < length x → 0 < length (join_with_byte comma (x ∷ xs))
join-some x [] some = some
join-some x (next ∷ xs) some = omega (arith, length-append x (comma ∷ join_with_byte comma (next ∷ xs)))

-- one more text, behind a comma unless it is the first
join-more : (xs : List (List ℕ)) (y : List ℕ) → All (λ (x : List ℕ). 0 < length x) xs → join_with_byte comma (xs ++ y ∷ [])
    ≡ join_with_byte comma xs ++ ((if nat_eq (length (join_with_byte comma xs)) 0 then [] else comma ∷ []) ++ y)
join-more [] y some = refl
join-more (x ∷ xs) y some =
    let long : length (join_with_byte comma (x ∷ xs))
    ≢ 0 = omega (arith, join-some x xs (All-head (λ (x : List ℕ). 0 < length x) x xs some)) in
    rw (ne_eqb (length (join_with_byte comma (x ∷ xs))) 0 long) (join-push x xs y)

-- ---- the text below a processor

-- the runs that ended, as text
abbrev texts_of : List (ℕ × ℕ) → List (List ℕ)
texts_of done = map run_text done

number-some : (n : ℕ) → n < 64 → 0 < length (canonical_number n)
number-some n below = (number_of n below).0.0

run-some : (run : ℕ × ℕ) → Ascends 64 run → 0 < length (run_text run)
run-some run h =
    ⊎_elim
    (λ (e : run.0 ≡ run.1). rw (eq-eqb _ _ e) (number-some run.0 (omega (arith, h.0, h.1))))
    (λ (ne : run.0 ≢ run.1). rw (ne_eqb _ _ ne) (omega (arith, length-append (canonical_number run.0) (dash ∷ canonical_number run.1))))
    (cases_eq (run.0) (run.1))

texts-some : (n : ℕ) (done : List (ℕ × ℕ)) → n ≤ 64 → All (Ascends n) done → All (λ (x : List ℕ). 0 < length x) (texts_of done)
texts-some n done le all =
    All-map (λ (x : List ℕ). 0 < length x) run_text done
    (All-weaker (Ascends n) (λ (run : ℕ × ℕ). 0 < length (run_text run)) (λ run h. run-some run (h.0, omega (arith, h.1))) done all)

-- below n these runs ended and are written; or one more began, and its first number is written behind them
data IsWritten (X n : ℕ) : Type 0 where
  closed : (done : List (ℕ × ℕ)) → IsClosed X n done → list_below X n ≡ join_with_byte comma (texts_of done) → IsWritten X n
  opened : (done : List (ℕ × ℕ)) (start : ℕ) → IsOpen X n done start
      → list_below X n ≡ join_with_byte comma (texts_of done ++ canonical_number start ∷ []) → IsWritten X n

-- what the next processor adds, in each case
pub adds_nothing : (X n : ℕ) → begins_run X n ≡ false → ends_run X n ≡ false → list_below X (suc n) ≡ list_below X n
unfolding list_below end_text
adds_nothing X n out over = rw (out, over) (append-nil (list_below X n))

pub adds_first : (X n : ℕ) → begins_run X n ≡ true → list_below X (suc n) ≡ list_below X n
    ++ ((if nat_eq (length (list_below X n)) 0 then [] else comma ∷ []) ++ canonical_number n)
unfolding list_below end_text
adds_first X n begins = rw begins refl

pub adds_last : (X n : ℕ) → begins_run X n ≡ false → ends_run X n ≡ true → list_below X (suc n) ≡ list_below X n
    ++ (dash ∷ canonical_number n)
unfolding list_below end_text
adds_last X n out ends = rw (out, ends) refl

-- the number at which a run begins is written
first_written : (X n : ℕ) (done : List (ℕ × ℕ)) → n < 64 → IsClosed X n done → has X n ≡ true
    → list_below X n ≡ join_with_byte comma (texts_of done)
    → list_below X (suc n) ≡ join_with_byte comma (texts_of done ++ canonical_number n ∷ [])
first_written X n done below c inside text =
    adds_first X n (c.fresh ∙ inside)
    ∙ ap (λ (ys : List ℕ). ys ++ ((if nat_eq (length ys) 0 then [] else comma ∷ []) ++ canonical_number n)) text
    ∙ sym (join-more (texts_of done) (canonical_number n) (texts-some n done (omega arith) c.ascending))

run_alone : (n : ℕ) → run_text (n, n) ≡ canonical_number n
run_alone n = rw (eq-eqb n n refl) refl

pub run_longer : (start n : ℕ) → start < n → run_text (start, n) ≡ canonical_number start ++ dash ∷ canonical_number n
run_longer start n lt = let ne : start ≢ n = omega arith in rw (ne_eqb start n ne) refl

texts-push : (done : List (ℕ × ℕ)) (run : ℕ × ℕ) → texts_of (done ++ run ∷ []) ≡ texts_of done ++ run_text run ∷ []
texts-push done run = map-append run_text done (run ∷ [])

written_closed : (X n : ℕ) (done : List (ℕ × ℕ)) → n < 64 → IsClosed X n done → list_below X n ≡ join_with_byte comma (texts_of done)
    → IsWritten X (suc n)
written_closed X n done below c text =
    ⊎_elim
    (λ (inside : has X n ≡ true). ⊎_elim
    (λ (next : has X (suc n) ≡ true). opened done n (begin X n done c inside next) (first_written X n done below c inside text))
    (λ (next : has X (suc n) ≡ false). closed (done ++ (n, n) ∷ []) (single X n done c inside next)
    (first_written X n done below c inside text
    ∙ ap (λ (last : List ℕ). join_with_byte comma (texts_of done ++ last ∷ [])) (sym (run_alone n))
    ∙ ap (join_with_byte comma) (sym (texts-push done (n, n)))))
    (cases_Bool (has X (suc n))))
    (λ (out : has X n ≡ false). closed done (skip X n done c out) (adds_nothing X n (c.fresh ∙ out) (rw out refl) ∙ text))
    (cases_Bool (has X n))

written_open : (X n : ℕ) (done : List (ℕ × ℕ)) (start : ℕ) → IsOpen X n done start
    → list_below X n ≡ join_with_byte comma (texts_of done ++ canonical_number start ∷ []) → IsWritten X (suc n)
written_open X n done start o text =
    ⊎_elim
    (λ (next : has X (suc n) ≡ true). opened done start (stay X n done start o next)
    (adds_nothing X n o.goes_on (ends-suc X n ∙ rw (o.member, next) refl) ∙ text))
    (λ (next : has X (suc n) ≡ false). closed (done ++ (start, n) ∷ []) (finish X n done start o next)
    (adds_last X n o.goes_on (ends-suc X n ∙ rw (o.member, next) refl)
    ∙ ap (λ (ys : List ℕ). ys ++ (dash ∷ canonical_number n)) text
    ∙ sym (join-goes_on (texts_of done) (canonical_number start) (dash ∷ canonical_number n))
    ∙ ap (λ (last : List ℕ). join_with_byte comma (texts_of done ++ last ∷ [])) (sym (run_longer start n o.below))
    ∙ ap (join_with_byte comma) (sym (texts-push done (start, n)))))
    (cases_Bool (has X (suc n)))

pub list_below-zero : (X : ℕ) → list_below X 0 ≡ []
unfolding list_below
list_below-zero X = refl

written : (X n : ℕ) → n ≤ 64 → IsWritten X n
written X zero le = closed [] (found_none X) (list_below-zero X)
written X (suc n) le =
    elim (written X n (omega arith)) [
      | closed done c text ↦ written_closed X n done (omega arith) c text
      | opened done start o text ↦ written_open X n done start o text
    ]

-- the text below 64 is the canonical list
pub list_below-all : (X : ℕ) → Within X (all_below 64) → list_below X 64 ≡ canonical_list X
list_below-all X within =
    elim (written X 64 (omega arith)) [
      | closed done c text ↦ text ∙ ap (λ (found : List (ℕ × ℕ)). join_with_byte comma (map run_text found))
          (sym (ap₂ zip c.starts c.ends ∙ zip_back done))
      | opened done start o text ↦ absurd (true≢false (sym (within 64 o.member) ∙ has-all_below 64 64))
    ]

-- what is no member adds nothing
pub list_below-same : (X n m : ℕ) → n ≤ m → ((q : ℕ) → n ≤ q → q < m → has X q ≡ false) → list_below X m ≡ list_below X n
list_below-same X n zero le out = ap (list_below X) (omega (arith, le))
list_below-same X n (suc m) le out =
    elim (cases_lt m n) [
      | inl above ↦ ap (list_below X) (omega (arith, le, above))
      | inr within ↦
          let none : has X m ≡ false = out m (omega arith) (omega arith) in
          adds_nothing X m (rw none refl) (rw none refl)
          ∙ list_below-same X n m (omega arith) (λ q low high. out q low (omega arith))
    ]
