-- The threads that ran most: found one after another, and only one list of them.
use Rattle.std.proofs.Common.{◌≡◌, ℕ, zero, suc, ◌+◌, ◌-◌, ◌<◌, ◌≤◌, List, [], ◌∷◌, ◌++◌, length, map, take, get_or, Option, None, Some}
use Rattle.std.proofs.Common.{refl, sym, ap, ◌∙◌, subst, inl, inr, arith}
use Rattle.std.specs.Prelude.{Contains, MatchOption}
use Rattle.std.proofs.lemmas.List.Elements.{All-push, All-weaker, All-contains}
use Rattle.std.proofs.lemmas.List.Elements.{Contains-append_left, Contains-append_right}
use Rattle.kernel_trace.specs.declared.loss_text.ThreadRow.{ThreadRow}
use Rattle.commands.specs.LostThreads.{thread_rows, RanMost, Ran, IsMost, NoneRan, rested, AreMost}

-- ---- rows
-- one row more
next_row : (k : ℕ) (ids counts : List ℕ) → k < length ids → k < length counts
    → thread_rows (take (suc k) ids) (take (suc k) counts)
    ≡ thread_rows (take k ids) (take k counts) ++ record { id = get_or ids k 0; ran = get_or counts k 0 } ∷ []
next_row k [] counts below within = absurd (omega (arith, below))
next_row k (id ∷ ids) [] below within = absurd (omega (arith, within))
next_row zero (id ∷ ids) (count ∷ counts) below within = refl
next_row (suc k) (id ∷ ids) (count ∷ counts) below within =
    ap (λ (rows : List ThreadRow). record { id = id; ran = count } ∷ rows)
    (next_row k ids counts (omega (arith, below)) (omega (arith, within)))

pub rows_more : (k : ℕ) (ids counts : List ℕ) → k < length ids → k < length counts
    → thread_rows (take (k + 1) ids) (take (k + 1) counts)
    ≡ thread_rows (take k ids) (take k counts) ++ record { id = get_or ids k 0; ran = get_or counts k 0 } ∷ []
rows_more k ids counts below within =
    let next : k + 1 ≡ suc k = omega arith in
    ap (λ (n : ℕ). thread_rows (take n ids) (take n counts)) next ∙ next_row k ids counts below within

-- ---- the one that ran most
ran_trans : (one two three : ThreadRow) → RanMost one two → RanMost two three → RanMost one three
ran_trans one two three (inl a) (inl b) = inl (omega (arith, a, b))
ran_trans one two three (inl a) (inr b) = let same = b.0 in inl (omega (arith, a, same))
ran_trans one two three (inr a) (inl b) = let same = a.0 in inl (omega (arith, same, b))
ran_trans one two three (inr a) (inr b) = let least = a.1 in let most = b.1 in inr (a.0 ∙ b.0, omega (arith, least, most))

ran_same : (one other : ThreadRow) → RanMost one other → RanMost other one → one ≡ other
ran_same one other (inl a) (inl b) = absurd (omega (arith, a, b))
ran_same one other (inl a) (inr b) = let same = b.0 in absurd (omega (arith, a, same))
ran_same one other (inr a) (inl b) = let same = a.0 in absurd (omega (arith, same, b))
ran_same one other (inr a) (inr b) =
    let least = a.1 in
    let most = b.1 in
    let ids : one.id ≡ other.id = omega (arith, least, most) in
    let made : ℕ → ℕ → ThreadRow = λ (id ran : ℕ). record { id = id; ran = ran } in
    ap (λ (id : ℕ). made id one.ran) ids ∙ ap (made other.id) a.0

abbrev pub IsFound : List ThreadRow → Option ThreadRow → Type 0
IsFound rows found = MatchOption found (NoneRan rows) (IsMost rows)

-- a row that did not run changes nothing
pub keeps_found : (rows : List ThreadRow) (row : ThreadRow) (found : Option ThreadRow) → row.ran ≡ 0 → IsFound rows found
    → IsFound (rows ++ row ∷ []) found
keeps_found rows row None none is = All-push (λ (r : ThreadRow). r.ran ≡ 0) rows row is none
keeps_found rows row (Some first) none is =
    let ran = is.ran in
    record {
      among = Contains-append_left rows (row ∷ []) first is.among;
      ran = ran;
      most = All-push (RanMost first) rows row is.most (inl (omega (arith, none, ran)));
    }

-- nor does one before which another ran
pub still_first : (rows : List ThreadRow) (row first : ThreadRow) → RanMost first row → IsMost rows first
    → IsMost (rows ++ row ∷ []) first
still_first rows row first more is = record {
  among = Contains-append_left rows (row ∷ []) first is.among;
  ran = is.ran;
  most = All-push (RanMost first) rows row is.most more;
}

itself : (rows : List ThreadRow) (row : ThreadRow) → Contains (rows ++ row ∷ []) row
itself rows row = Contains-append_right rows (row ∷ []) row (0, omega arith, refl)

-- a row is first where none ran before it
pub first_ran : (rows : List ThreadRow) (row : ThreadRow) → Ran row → NoneRan rows → IsMost (rows ++ row ∷ []) row
first_ran rows row ran none = record {
  among = itself rows row;
  ran = ran;
  most =
      All-push (RanMost row) rows row
      (All-weaker (λ (r : ThreadRow). r.ran ≡ 0) (RanMost row) (λ other idle. inl (omega (arith, idle, ran))) rows none)
      (inr (refl, omega arith));
}

-- or where it ran more than the one that was
pub now_first : (rows : List ThreadRow) (row first : ThreadRow) → Ran row → RanMost row first → IsMost rows first
    → IsMost (rows ++ row ∷ []) row
now_first rows row first ran more is = record {
  among = itself rows row;
  ran = ran;
  most =
      All-push (RanMost row) rows row
      (All-weaker (RanMost first) (RanMost row) (λ other less. ran_trans row first other more less) rows is.most)
      (inr (refl, omega arith));
}

-- ---- those that ran most
one_most : (rows : List ThreadRow) (one other : ThreadRow) → IsMost rows one → IsMost rows other → one ≡ other
one_most rows one other is also =
    ran_same one other (All-contains (RanMost one) rows other is.most also.among)
    (All-contains (RanMost other) rows one also.most is.among)

some_ran : {A : Type 0} (rows : List ThreadRow) (row : ThreadRow) → NoneRan rows → IsMost rows row → A
some_ran rows row none is =
    let idle = All-contains (λ (r : ThreadRow). r.ran ≡ 0) rows row none is.among in
    let ran = is.ran in
    absurd (omega (arith, idle, ran))

pub one_list : (n : ℕ) (rows named other : List ThreadRow) → AreMost n rows named → AreMost n rows other → named ≡ other
one_list zero rows [] [] are also = refl
one_list zero rows [] (first ∷ rest) are also = absurd also
one_list zero rows (first ∷ rest) other are also = absurd are
one_list (suc n) rows [] [] are also = refl
one_list (suc n) rows [] (first ∷ rest) are also = some_ran rows first are also.0
one_list (suc n) rows (first ∷ rest) [] are also = some_ran rows first also are.0
one_list (suc n) rows (first ∷ rest) (next ∷ later) are also =
    let same : first ≡ next = one_most rows first next are.0 also.0 in
    let left : AreMost n (map (rested first.id) rows) later =
    subst (λ (row : ThreadRow). AreMost n (map (rested row.id) rows) later) (sym same) also.1 in
    ap (λ (list : List ThreadRow). first ∷ list) (one_list n (map (rested first.id) rows) rest later are.1 left)
    ∙ ap (λ (row : ThreadRow). row ∷ later) same

-- ---- one found after another
pub one_named : (done : ℕ) (rows rest : List ThreadRow) (row : ThreadRow) → done < 10 → IsMost rows row
    → AreMost (10 - (done + 1)) (map (rested row.id) rows) rest → AreMost (10 - done) rows (row ∷ rest)
one_named done rows rest row below is are =
    let left : 10 - done ≡ suc (10 - (done + 1)) = omega (arith, below) in
    subst (λ (n : ℕ). AreMost n rows (row ∷ rest)) (sym left) (is, are)

pub none_named : (done : ℕ) (rows : List ThreadRow) → done < 10 → NoneRan rows → AreMost (10 - done) rows []
none_named done rows below none =
    let left : 10 - done ≡ suc (10 - (done + 1)) = omega (arith, below) in
    subst (λ (n : ℕ). AreMost n rows []) (sym left) none

pub all_named : (done : ℕ) (rows : List ThreadRow) → 10 ≤ done → AreMost (10 - done) rows []
all_named done rows most =
    let none : 10 - done ≡ 0 = omega (arith, most) in
    subst (λ (n : ℕ). AreMost n rows []) (sym none) tt

-- what stands for a row where there is none
abbrev pub no_row : ThreadRow
no_row = record { id = 0; ran = 0 }
