-- Why a text is no processor list. A text without bytes is a fault of its own. Any other text is
-- cut at each comma, and of the pieces the first that is no item of processors decides. Of such a
-- piece the first of these is the fault: it is neither a number nor two numbers joined by one '-';
-- its first number is greater than its second; a number of it is greater than 63. Numbers of any
-- length are compared by their values.
use Rattle.std.specs.Prelude.{◌≡◌, ◌≢◌, ℕ, ◌+◌, ◌<◌, ◌≤◌, ◌⊎◌, ◌==◌, List, [], ◌∷◌, ◌++◌, length}
use Rattle.std.specs.Prelude.{All}
use Rattle.std.specs.List.{slice_split, sum_by}
use Rattle.affinity_mask.specs.ListText.{comma, IsItem, IsWellFormed}
use Rattle.affinity_mask.specs.declared.mask_fault.MaskFault.{MaskFault}
use Rattle.affinity_mask.specs.declared.mask_fault.MaskFault.TheVariants.{Empty, BadItem, Backward}
use Rattle.affinity_mask.specs.declared.mask_fault.MaskFault.TheVariants.{Large}

-- what stands between the commas of a text, before the first and after the last
abbrev pub pieces : List ℕ → List (List ℕ)
pieces text = slice_split (λ byte. byte == comma) text

-- the index at which the next piece begins, behind these pieces and a comma after each
abbrev pub place_behind : List (List ℕ) → ℕ
place_behind before = sum_by (λ piece. length piece + 1) before

-- the piece is an item of processors
abbrev pub IsWellFormedPiece : List ℕ → Type 0
IsWellFormedPiece piece =
    (low : ℕ) × (high : ℕ) × IsWellFormed (record { text = piece; low = low; high = high })

-- the fault is that of a piece that begins at this place
abbrev pub IsPieceFault : List ℕ → ℕ → MaskFault → Type 0
IsPieceFault piece place Empty = ⊥
IsPieceFault piece place (BadItem at) = (at ≡ place) × ((low high : ℕ) → ¬ IsItem piece low high)
IsPieceFault piece place (Backward at) =
    (at ≡ place) × ((low : ℕ) × (high : ℕ) × IsItem piece low high × (high < low))
IsPieceFault piece place (Large at) = (at ≡ place)
    × ((low : ℕ) × (high : ℕ) × IsItem piece low high × (low ≤ high) × ((63 < low) ⊎ (63 < high)))

-- this piece of the text has the fault, and each one before it is an item of processors
pub record IsFirstFault (text : List ℕ) (fault : MaskFault) (before : List (List ℕ))
    (piece : List ℕ) (after : List (List ℕ)) : Type 0 where
  pub cut : pieces text ≡ before ++ piece ∷ after
  pub well_formed : All IsWellFormedPiece before
  pub fault_of : IsPieceFault piece (place_behind before) fault

-- the text is no processor list, for this cause
abbrev pub IsListFault : List ℕ → MaskFault → Type 0
IsListFault text fault =
    ((text ≡ []) × (fault ≡ Empty))
    ⊎ ((text ≢ []) × ((before : List (List ℕ)) × (piece : List ℕ) × (after : List (List ℕ))
    × IsFirstFault text fault before piece after))
