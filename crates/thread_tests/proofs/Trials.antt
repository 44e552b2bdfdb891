-- Lists of all hands, new ones and those that come back.
use Rattle.std.proofs.Common.{◌≡◌, ℕ, suc, ◌+◌, ◌<◌, List, [], ◌∷◌, length, ap, ◌∙◌, arith, None}
use Rattle.std.specs.Prelude.{Result, Ok, Err, IfOk, slice_index_or, All}
use Rattle.std.proofs.lemmas.List.Elements.{All-nil, All-cons}
use Rattle.atomic_table.specs.Seated.{TableId}
use Rattle.context_slots.specs.Hands.{HandData, SlotsData, AreFreeFrom, AreNewHandsFrom, AreNewHands, AreAllHands}

free_new : (table : TableId) (n : ℕ) (l : List HandData) → AreNewHandsFrom table n l → AreFreeFrom table n l
free_new table n [] all = tt
free_new table n (x ∷ xs) all = (
  ap (λ (h : HandData). h.slots) all.0,
  ap (λ (h : HandData). h.number) all.0,
  ap (λ (h : HandData). h.holds) all.0,
  free_new table (n + 1) xs all.1,
)

pub all_new : {V E : Type 0} (r : Result (SlotsData × V) E) (items : V → List HandData) → IfOk r (λ made. AreNewHands made.0 (items made.1))
    → IfOk r (λ made. AreAllHands made.0 (items made.1))
all_new (Ok made) items h = (h.0, free_new made.0.id 0 (items made.1) h.1)
all_new (Err e) items h = tt

abbrev pub IsFreeOf : TableId → HandData → Type 0
IsFreeOf table hand = (hand.slots ≡ table) × (hand.holds ≡ None)

pub free_all : (table : TableId) (n : ℕ) (l : List HandData) → AreFreeFrom table n l → All (IsFreeOf table) l
free_all table n [] all = All-nil (IsFreeOf table)
free_all table n (x ∷ xs) all = All-cons (IsFreeOf table) x xs (all.0, all.2) (free_all table (n + 1) xs all.3)

-- by place, free hands with the numbers of others
abbrev pub AreBack : TableId → List HandData → List HandData → Type 0
AreBack table xs ys = (i : ℕ) (d : HandData) → i < length xs → ((slice_index_or ys i d).slots ≡ table)
    × ((slice_index_or ys i d).holds ≡ None) × ((slice_index_or ys i d).number ≡ (slice_index_or xs i d).number)

free_back : (table : TableId) (n : ℕ) (xs ys : List HandData) → AreFreeFrom table n xs → length ys ≡ length xs → AreBack table xs ys
    → AreFreeFrom table n ys
free_back table n [] [] free long back = tt
free_back table n [] (y ∷ ys) free long back = absurd (omega (arith, long))
free_back table n (x ∷ xs) [] free long back = absurd (omega (arith, long))
free_back table n (x ∷ xs) (y ∷ ys) free long back =
    let first = back 0 y (omega arith) in (
      first.0,
      first.2 ∙ free.1,
      first.1,
      free_back table (n + 1) xs ys free.3 (omega (arith, long))
          (λ i d low. back (suc i) d (omega (arith, low))),
    )

pub all_back : {V E : Type 0} (r : Result V E) (items : V → List HandData) (slots : SlotsData) (xs : List HandData) → AreAllHands slots xs
    → IfOk r (λ b. length (items b) ≡ length xs) → IfOk r (λ b. AreBack slots.id xs (items b)) → IfOk r (λ b. AreAllHands slots (items b))
all_back (Ok b) items slots xs all long back = (long ∙ all.0, free_back slots.id 0 xs (items b) all.1 long back)
all_back (Err e) items slots xs all long back = tt
