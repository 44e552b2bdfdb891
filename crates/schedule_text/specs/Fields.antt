-- Private: what a field says, for the contracts of this crate's own functions.
use Rattle.std.specs.Prelude.{◌≡◌, ◌≢◌, ℕ, ◌<◌, ◌≤◌, ◌==◌, List, [], ◌∷◌, length, map, slice_index}
use Rattle.std.specs.Prelude.{Option, IfSome}
use Rattle.std.specs.List.{slice_split}
use Rattle.affinity_mask.specs.ProcSet.{empty}
use Rattle.affinity_mask.specs.Number.{canonical_number}
use Rattle.affinity_mask.specs.ListText.{canonical_list}
use Rattle.task_set.specs.TaskSet.{SetData, IsMask}
use Rattle.schedule_text.specs.ScheduleText.{chain_text, set_text, somebody_text, number_text}
use Rattle.schedule_text.specs.Schedule.{IsProcessorList, IsOfProcessors}

-- what stands between the spaces of a line, before the first and after the last
abbrev pub spaced_fields_of : List ℕ → List (List ℕ)
spaced_fields_of text = slice_split (λ byte. byte == 32) text

-- what stands between the bytes '>' of a field
abbrev pub links_of : List ℕ → List (List ℕ)
links_of field = slice_split (λ byte. byte == 62) field

-- a zero stands before further bytes
abbrev pub HasLeadingZero : List ℕ → Type 0
HasLeadingZero field = (1 < length field) × (slice_index field 0 ≡ 48)

-- a canonical number within bounds
pub record IsNumberField (least most : ℕ) (field : List ℕ) (n : ℕ) : Type 0 where
  pub range : (least ≤ n) × (n ≤ most)
  pub is_text : field ≡ canonical_number n

-- a processor of m, by its canonical number
pub record IsProcessorField (m : ℕ) (field : List ℕ) (p : ℕ) : Type 0 where
  pub below : p < m
  pub is_text : field ≡ canonical_number p

-- the canonical list of some processors
pub record IsListField (field : List ℕ) (X : ℕ) : Type 0 where
  pub some : X ≢ empty
  pub processors : IsOfProcessors X
  pub is_text : field ≡ canonical_list X

-- the canonical list of a mask on m processors
pub record IsMaskField (m : ℕ) (field : List ℕ) (mask : ℕ) : Type 0 where
  pub valid : IsMask m mask
  pub is_text : field ≡ canonical_list mask

-- a set of processors, of which there may be none
pub record IsSetField (field : List ℕ) (X : ℕ) : Type 0 where
  pub processors : IsOfProcessors X
  pub is_text : field ≡ set_text X

-- a chain
pub record IsChainField (field chain : List ℕ) : Type 0 where
  pub list : IsProcessorList chain
  pub is_text : field ≡ chain_text chain

-- some fields, each a processor of a list
pub record AreProcessorFields (fields : List (List ℕ)) (chain : List ℕ) : Type 0 where
  pub list : IsProcessorList chain
  pub each_field : fields ≡ map canonical_number chain

-- a processor, or '-' for none
pub record IsLastField (field : List ℕ) (last : Option ℕ) : Type 0 where
  pub processor : IfSome last (λ p. p < 64)
  pub is_text : field ≡ number_text last

-- a word and a canonical number within bounds
pub record IsNumberAfter (word : List ℕ) (least most : ℕ) (fields : List (List ℕ)) (n : ℕ) : Type 0
  where
    pub range : (least ≤ n) × (n ≤ most)
    pub each_field : fields ≡ word ∷ canonical_number n ∷ []

-- the name of a task, or '-' for nobody
pub record IsSomebodyField (set : SetData) (field : List ℕ) (entered : Option ℕ) : Type 0 where
  pub about : IfSome entered (λ t. t < length set.tasks)
  pub is_text : field ≡ somebody_text set entered
