-- What the run by counts makes of bytes. The bytes read are an input text of version 1 whose masks
-- nest, and the bytes written are the text of the run of its events. Of other bytes, a text of
-- version 2 and a text whose masks cross are refused with an answer of their own, and every other
-- text at its first faulty line.
use Rattle.std.specs.Prelude.{◌≡◌, ◌⊎◌, ℕ, List}
use Rattle.task_set.specs.TaskSet.{SetData, masks}
use Rattle.trace_reader.specs.declared.posted.Posted.{Posted}
use Rattle.trace_reader.specs.InputText.{IsInputText}
use Rattle.commands.specs.Refusal.{IsAnsweredInput, RefusesInput}
use Rattle.commands.specs.declared.status.Status.{Status}
use Rattle.commands.specs.declared.status.Status.TheVariants.{Version, Crossing, OutOfMemory}
use Rattle.nested_masks.specs.declared.fault.NestedFault.{NestedFault}
use Rattle.nested_masks.specs.declared.fault.NestedFault.TheVariants as fault
use Rattle.nested_masks.specs.Laminar.{IsLaminar, IsFirstCrossing}
use Rattle.nested_masks.specs.NestedText.{IsNestedText}

-- from the bytes of an input of version 1 to those of its run by counts: after every event the
-- linked tasks are the best placeable set of the ready ones
pub record IsNestedOf (read put : List ℕ) : Type 0 where
  pub set : SetData
  pub events : List Posted
  pub is_text : IsInputText 1 read set events
  pub laminar : IsLaminar (masks set)
  pub text : IsNestedText set events put

-- the bytes are an input text of version 1 whose masks nest
abbrev pub AcceptsNested : List ℕ → Type 0
AcceptsNested bytes = (set : SetData) × (events : List Posted) × IsInputText 1 bytes set events
    × IsLaminar (masks set)

-- the bytes are an input text of version 2
pub record IsAnsweredVersion (bytes : List ℕ) (status : Status) : Type 0 where
  pub set : SetData
  pub events : List Posted
  pub answer : status ≡ Version
  pub is_text : IsInputText 2 bytes set events

-- the bytes are an input text of version 1 in which the masks of two tasks cross; these are the
-- first two
pub record IsAnsweredCrossing (bytes : List ℕ) (status : Status) : Type 0 where
  pub set : SetData
  pub events : List Posted
  pub one : ℕ
  pub other : ℕ
  pub answer : status ≡ Crossing one other
  pub is_text : IsInputText 1 bytes set events
  pub first : IsFirstCrossing (masks set) one other

-- the bytes that the run by counts refuses, each with its answer
abbrev pub RefusesNested : List ℕ → Status → Type 0
RefusesNested bytes status = IsAnsweredInput (RefusesInput bytes) status
    ⊎ (IsAnsweredVersion bytes status ⊎ IsAnsweredCrossing bytes status)

-- the answer for masks that cross, or out of memory
abbrev pub status_of_nested : NestedFault → Status
status_of_nested (fault.Crossing one other) = Crossing one other
status_of_nested fault.OutOfMemory = OutOfMemory
