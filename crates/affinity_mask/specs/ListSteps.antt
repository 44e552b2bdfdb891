-- Single steps of reading and of writing a processor list. Private: the
-- contracts of this crate's own functions.
use Rattle.std.specs.Prelude.{◌≡◌, ◌≢◌, ℕ, zero, suc, ◌+◌, ◌<◌, ◌≤◌, ◌⊎◌, Bool, true, false, nat_le}
use Rattle.std.specs.Prelude.{◌==◌, ◌&&◌, List, [], ◌∷◌, ◌++◌, length, map, slice_index, All}
use Rattle.std.specs.Prelude.{Contains, Option, MatchOption, if◌then◌else◌}
use Rattle.std.specs.List.{list_any}
use Rattle.std.specs.Borrow.{Bor}
use Rattle.std.specs.Str.Parse.{AllDigits}
use Rattle.affinity_mask.specs.ProcSet.{has}
use Rattle.affinity_mask.specs.Number.{number_value, canonical_number}
use Rattle.affinity_mask.specs.ListText.{comma, dash, Item, IsWellFormed, begins_run, ends_run}
use Rattle.affinity_mask.specs.ListText.{run_text, canonical_list}
use Rattle.affinity_mask.specs.ListFault.{pieces, place_behind}

-- digits of the same value, of which the first is not zero
pub record IsSignificant (number digits : List ℕ) : Type 0 where
  pub same_value : number_value digits ≡ number_value number
  pub all_digits : AllDigits 10 digits
  pub first : 0 < length digits → slice_index digits 0 ≢ 48

-- the piece is an item of processors, and the set has just these
pub record ReadsItem (piece : List ℕ) (X : ℕ) : Type 0 where
  pub low : ℕ
  pub high : ℕ
  pub well_formed : IsWellFormed (record { text = piece; low = low; high = high })
  pub contents : (p : ℕ) → has X p ≡ (nat_le low p && nat_le p high)

-- what a processor adds to the canonical list: where a run begins its number, behind a comma unless
-- it is the first, and where a longer run ends its number behind '-'
unfoldable pub end_text : ℕ → Bool → ℕ → List ℕ
end_text X is_first p =
    if begins_run X p then (if is_first then [] else comma ∷ []) ++ canonical_number p
    else (if ends_run X p then dash ∷ canonical_number p else [])

-- what the processors below n add
unfoldable pub list_below : ℕ → ℕ → List ℕ
list_below X zero = []
list_below X (suc n) = list_below X n ++ end_text X (length (list_below X n) == 0) n

-- a and b are what stands before and behind the first '-' of the piece, or the piece itself twice
-- where it has none
abbrev pub AreEnds : List ℕ → List ℕ → List ℕ → Type 0
AreEnds piece a b =
    ((Contains piece dash → ⊥) × (a ≡ piece) × (b ≡ piece))
    ⊎ ((piece ≡ a ++ dash ∷ b) × (Contains a dash → ⊥))

-- whether the item has p
abbrev pub item_covers : ℕ → Item → Bool
item_covers p item = nat_le item.low p && nat_le p item.high

-- these items of the text are read, their union is X, and the rest is not read yet
pub record IsReadSoFar (text : List ℕ) (X : ℕ) (rest : List ℕ) (done : List Item) : Type 0 where
  pub cut : pieces text ≡ map (λ (item : Item). item.text) done ++ pieces rest
  pub place : place_behind (map (λ (item : Item). item.text) done) + length rest ≡ length text
  pub well_formed : All IsWellFormed done
  pub union : (p : ℕ) → has X p ≡ list_any (item_covers p) done

-- from p to q all numbers are members, and the next one is none
pub record RunsTo (X p q : ℕ) : Type 0 where
  pub ascends : p ≤ q
  pub small : q < 64
  pub members : (i : ℕ) → p ≤ i → i ≤ q → has X i ≡ true
  pub over : has X (q + 1) ≡ false

-- no run goes on at n
pub record IsBetween (X n : ℕ) : Type 0 where
  pub few : n ≤ 64
  pub apart : (n ≡ 0) ⊎ (has X n ≡ false)

-- a run, after a comma unless it is the first
unfoldable pub item_text : Bool → ℕ → ℕ → List ℕ
item_text is_first low high = (if is_first then [] else comma ∷ []) ++ run_text (low, high)

-- the first run from n on, and what it adds to the list of what is below n
pub record IsNextRun (X n low high : ℕ) : Type 0 where
  pub from : n ≤ low
  pub ascends : low ≤ high
  pub small : high < 64
  pub after : IsBetween X (high + 1)
  pub adds : list_below X (high + 1)
      ≡ list_below X n ++ item_text (length (list_below X n) == 0) low high

-- no member comes from n on
abbrev pub EndsBelow : ℕ → ℕ → Type 0
EndsBelow X n = list_below X n ≡ canonical_list X

-- what stands after these bytes at the head of a text, or that it does not begin with them
abbrev pub AfterFront : List ℕ → List ℕ → Option (Bor (List ℕ)) → Type 0
AfterFront text front result =
    MatchOption result ((after : List ℕ) → text ≡ front ++ after → ⊥)
    (λ after. text ≡ front ++ after.now)
