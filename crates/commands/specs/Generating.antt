-- What is made from four numbers: their input, which `make` writes.
use Rattle.std.specs.Prelude.{◌≡◌, ℕ, List}
use Rattle.task_set.specs.TaskSet.{SetData}
use Rattle.trace_reader.specs.declared.posted.Posted.{Posted}
use Rattle.trace_reader.specs.CanonicalText.{canonical_input_text}
use Rattle.trace_reader.specs.InputText.{IsInputText}
use Rattle.trace_reader.specs.Generated.{IsGeneratedInput}
use Rattle.commands.specs.declared.sizes.Sizes.{Sizes}

-- the input of these numbers
abbrev pub IsInputOf : Sizes → SetData → List Posted → Type 0
IsInputOf sizes set events =
    IsGeneratedInput sizes.number sizes.processors sizes.tasks sizes.events set events

-- the text is the canonical one of the input of these numbers, in the first version
pub record WritesInput (sizes : Sizes) (put : List ℕ) : Type 0 where
  pub set : SetData
  pub events : List Posted
  pub generated : IsInputOf sizes set events
  pub text : put ≡ canonical_input_text 1 set events

-- what `make` writes: that text and no other, and it is an input text
pub record IsMakeOf (sizes : Sizes) (put : List ℕ) : Type 0 where
  pub writes : WritesInput sizes put
  pub input : IsInputText 1 put writes.set writes.events
  pub only : (other : List ℕ) → WritesInput sizes other → other ≡ put
