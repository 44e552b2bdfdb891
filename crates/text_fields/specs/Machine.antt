-- What a machine makes of lines, one after another. What is expected is its progress. A line leads
-- on to another progress or has a fault, the first line that has one decides, and after the last
-- line the progress says a value or has a fault.
use Rattle.std.specs.Prelude.{◌≡◌, ℕ, ◌+◌, ◌⊎◌, List, [], ◌∷◌, ◌++◌, length}
use Rattle.std.specs.List.{FoldsTo}

-- what a line comes to, or the end: it leads on, or has a fault of this kind
pub data Outcome (P K : Type 0) : Type 0 where
  Leads : P → Outcome P K
  Fails : K → Outcome P K

-- what a text comes to: it says a value, or is refused at a line with a kind
pub data Answer (V K : Type 0) : Type 0 where
  IsText : V → Answer V K
  Refuses : ℕ → K → Answer V K

-- the answer at the end, where this would be the number of the next line
abbrev pub answer_at_end : {V K : Type 0} → ℕ → Outcome V K → Answer V K
answer_at_end number (Leads value) = IsText value
answer_at_end number (Fails kind) = Refuses number kind

-- the answer to some lines, of which the first has this number
abbrev pub IsAnswer : {P L V K : Type 0} → (P → L → Outcome P K → Type 0)
    → (P → Outcome V K → Type 0)
    → ℕ → P → List L → Answer V K → Type 0
IsAnswer {P} {L} {V} {K} Comes Ends number expected [] answer =
    (last : Outcome V K) × Ends expected last × (answer ≡ answer_at_end number last)
IsAnswer {P} {L} {V} {K} Comes Ends number expected (line ∷ rest) answer =
    ((kind : K) × Comes expected line (Fails kind) × (answer ≡ Refuses number kind))
    ⊎ ((next : P) × Comes expected line (Leads next)
    × IsAnswer Comes Ends (number + 1) next rest answer)

-- what makes a machine: a line comes to one outcome, which is valid again, and so does the end
pub record IsMachine {P L V K : Type 0} (begins : P) (IsValid : P → Type 0)
    (Comes : P → L → Outcome P K → Type 0) (Ends : P → Outcome V K → Type 0) : Type 0 where
  pub starts : IsValid begins
  pub keeps : (p : P) (line : L) (next : P) → IsValid p → Comes p line (Leads next) → IsValid next
  pub one_outcome : (p : P) (line : L) (outcome other : Outcome P K)
      → IsValid p → Comes p line outcome → Comes p line other → outcome ≡ other
  pub some_outcome : (p : P) (line : L) → IsValid p → (outcome : Outcome P K) × Comes p line outcome
  pub one_end : (p : P) (last other : Outcome V K) → IsValid p → Ends p last → Ends p other
      → last ≡ other
  pub some_end : (p : P) → IsValid p → (last : Outcome V K) × Ends p last

-- some lines without fault lead from one progress to another
abbrev pub Leading : {P L K : Type 0} → (P → L → Outcome P K → Type 0) → P → List L → P → Type 0
Leading {P} {L} {K} Comes p lines q = FoldsTo (λ from line to. Comes from line (Leads to)) p lines q

-- these lines have no fault, and the one after them has this one
pub record IsFaultOfLine {P L K : Type 0} (begins : P) (Comes : P → L → Outcome P K → Type 0)
    (lines : List L) (number : ℕ) (kind : K) : Type 0 where
  pub before : List L
  pub line : L
  pub after : List L
  pub expected : P
  pub order : lines ≡ before ++ line ∷ after
  pub place : number ≡ length before + 1
  pub expects : Leading Comes begins before expected
  pub fault : Comes expected line (Fails kind)

-- no line has a fault, and the end has this one; this would be the number of the next line
pub record IsFaultOfEnd {P L V K : Type 0} (begins : P) (Comes : P → L → Outcome P K → Type 0)
    (Ends : P → Outcome V K → Type 0) (lines : List L) (number : ℕ) (kind : K) : Type 0 where
  pub expected : P
  pub place : number ≡ length lines + 1
  pub expects : Leading Comes begins lines expected
  pub fault : Ends expected (Fails kind)
