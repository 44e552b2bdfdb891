-- Processor lists, as Linux writes them. A list is items joined by commas, an item is a number a,
-- or two numbers a-b, and the list stands for all numbers of its items. The canonical list of a set
-- has its longest runs of consecutive numbers in ascending order.
use Rattle.std.specs.Prelude.{◌≡◌, ◌≢◌, ℕ, ◌+◌, ◌-◌, ◌≤◌, ◌⊎◌, ◌↔◌, Bool, not, ◌&&◌, ◌||◌, ◌==◌}
use Rattle.std.specs.Prelude.{IsTrue, List, ◌∷◌, ◌++◌, map, zip, if◌then◌else◌, Any, All}
use Rattle.std.specs.List.{join_with_byte}
use Rattle.affinity_mask.specs.ProcSet.{has, empty, all_below, passing_below, Within}
use Rattle.affinity_mask.specs.Number.{IsNumber, number_value, canonical_number}

-- the bytes ',' and '-'
abbrev pub comma : ℕ
comma = 44

abbrev pub dash : ℕ
dash = 45

-- a number alone, or two numbers joined by one '-', stands for the numbers from low to high
abbrev pub IsItem : List ℕ → ℕ → ℕ → Type 0
IsItem text low high =
    (IsNumber text × (number_value text ≡ low) × (low ≡ high))
    ⊎ ((a : List ℕ) × (b : List ℕ) × (text ≡ a ++ dash ∷ b) × IsNumber a × IsNumber b
    × (number_value a ≡ low) × (number_value b ≡ high))

-- an item with its ends
pub record Item : Type 0 where
  pub text : List ℕ
  pub low : ℕ
  pub high : ℕ

-- an item of processors, in ascending order
pub record IsWellFormed (item : Item) : Type 0 where
  pub form : IsItem item.text item.low item.high
  pub ascends : item.low ≤ item.high
  pub small : item.high ≤ 63

-- the text is these items joined by commas, and the set is their union
pub record IsListOf (text : List ℕ) (X : ℕ) (first : Item) (more : List Item) : Type 0 where
  pub joined : text ≡ join_with_byte comma (map (λ (item : Item). item.text) (first ∷ more))
  pub well_formed : All IsWellFormed (first ∷ more)
  pub union : (p : ℕ) → IsTrue (has X p) ↔ Any (λ (item : Item). (item.low ≤ p) × (p ≤ item.high))
      (first ∷ more)

-- the text is a processor list of the set
abbrev pub IsListText : List ℕ → ℕ → Type 0
IsListText text X = (first : Item) × (more : List Item) × IsListOf text X first more

-- whether a longest run of consecutive members begins at p, and whether one ends there
abbrev pub begins_run : ℕ → ℕ → Bool
begins_run X p = has X p && ((p == 0) || not (has X (p - 1)))

abbrev pub ends_run : ℕ → ℕ → Bool
ends_run X p = has X p && not (has X (p + 1))

-- the text of the run from a to b: that number alone, or a-b
abbrev pub run_text : ℕ × ℕ → List ℕ
run_text run = if run.0 == run.1 then canonical_number run.0 else canonical_number run.0 ++ dash
    ∷ canonical_number run.1

-- the longest runs of consecutive members, each as its two ends, in ascending order
abbrev pub member_runs : ℕ → List (ℕ × ℕ)
member_runs X = zip (passing_below (begins_run X) 64) (passing_below (ends_run X) 64)

-- the one text with which a set is written
abbrev pub canonical_list : ℕ → List ℕ
canonical_list X = join_with_byte comma (map run_text (member_runs X))

-- the text is the canonical list of the set, which has a processor
pub record IsCanonicalList (text : List ℕ) (X : ℕ) : Type 0 where
  pub some : X ≢ empty
  pub processors : Within X (all_below 64)
  pub is_text : text ≡ canonical_list X
