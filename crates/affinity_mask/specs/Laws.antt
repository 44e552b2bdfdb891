-- Laws that tie definitions to one another. Each is proved as the contract of a function of `laws`.
use Rattle.std.specs.Prelude.{◌≡◌, ◌≢◌, ℕ, ◌⊎◌, List}
use Rattle.affinity_mask.specs.ProcSet.{empty, all_below, Within}
use Rattle.affinity_mask.specs.ListText.{IsListText, canonical_list}
use Rattle.affinity_mask.specs.ListFault.{IsListFault}
use Rattle.affinity_mask.specs.declared.mask_fault.MaskFault.{MaskFault}

-- the canonical list of a set of processors that is not empty is a processor list of that set
abbrev pub CanonicalListIsListText : Type 0
CanonicalListIsListText =
    (X : ℕ) → X ≢ empty → Within X (all_below 64) → IsListText (canonical_list X) X

-- a text is a processor list of one set at most
abbrev pub ListTextHasOneSet : Type 0
ListTextHasOneSet = (text : List ℕ) (X Y : ℕ) → IsListText text X → IsListText text Y → X ≡ Y

-- a text has one fault at most
abbrev pub ListTextHasOneFault : Type 0
ListTextHasOneFault = (text : List ℕ) (one other : MaskFault) → IsListFault text one
    → IsListFault text other → one ≡ other

-- no text is a processor list and has a fault
abbrev pub ListTextHasNoFault : Type 0
ListTextHasNoFault =
    (text : List ℕ) (X : ℕ) (fault : MaskFault) → IsListText text X → ¬ IsListFault text fault

-- each text is a processor list or has a fault
abbrev pub TextIsListOrHasFault : Type 0
TextIsListOrHasFault =
    (text : List ℕ) → ((X : ℕ) × IsListText text X) ⊎ ((fault : MaskFault) × IsListFault text fault)
