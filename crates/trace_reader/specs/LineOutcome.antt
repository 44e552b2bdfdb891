-- What the fields of a line come to, by what is expected: something else is expected then, or the
-- line has a fault, the first of its kinds in their order. Tasks and events stand first as a line
-- names them: a task by the bytes of its name, and a mask by those of its list.
use Rattle.std.specs.Prelude.{◌≡◌, ℕ, ◌<◌, List, [], ◌∷◌, ◌++◌, length, codes}
use Rattle.affinity_mask.specs.ListText.{IsListText}
use Rattle.affinity_mask.specs.ListFault.{IsListFault}
use Rattle.task_set.specs.TaskSet.{SetData, with_task}
use Rattle.task_set.specs.Refusal.{new_task, CanAdd, IsRefusal, IsNameOf, IsLeastOutside}
use Rattle.task_set.specs.declared.event.Event.{Event}
use Rattle.task_set.specs.declared.event.Event.TheVariants as event
use Rattle.text_fields.specs.Number.{IsNumberWithin}
use Rattle.text_fields.specs.EventText.{IsAboutSet}
use Rattle.text_fields.specs.Choice.{IsOnly, IsChoice, IsReading, IsJudging, IsAllowing}
use Rattle.text_fields.specs.Machine.{Outcome, Leads, Fails}
use Rattle.text_fields.specs.Form.{Fields, AnyField, One, First, When, Row, NoRow}
use Rattle.trace_reader.specs.declared.posted.Posted.{Posted}
use Rattle.trace_reader.specs.declared.fault.InputKind.{InputKind}
use Rattle.trace_reader.specs.declared.fault.InputKind.TheVariants.{BadHeader, BadProcessors}
use Rattle.trace_reader.specs.declared.fault.InputKind.TheVariants.{BadTask, BadMask, TaskRefused}
use Rattle.trace_reader.specs.declared.fault.InputKind.TheVariants.{BadEvent, UnknownTask}
use Rattle.trace_reader.specs.declared.fault.InputKind.TheVariants.{ManyEvents, AfterEnd}
use Rattle.trace_reader.specs.declared.fault.InputKind.TheVariants.{OutsideAffinity}
use Rattle.trace_reader.specs.InputText.{IsHeader, IsProcessorsLine, IsTaskForm, IsProcessorNumber}
use Rattle.trace_reader.specs.InputText.{end_line}
use Rattle.trace_reader.specs.Progress.{Progress, HeaderExpected, ProcessorsExpected, Listed, Ended}

-- ---- the lines
abbrev pub itself : List ℕ → List ℕ
itself field = field

-- a task, whose mask is the text of a list
pub record NamedTask : Type 0 where
  pub name : List ℕ
  pub priority : ℕ
  pub list : List ℕ

-- the line of such a task
abbrev pub IsNamedTask : Fields → NamedTask → Type 0
IsNamedTask fields task = IsTaskForm fields task.name task.priority task.list

-- an event, whose task is a name, and whose mask is the text of a list
pub data NamedEvent : Type 0 where
  Arrive : List ℕ → NamedEvent
  Depart : List ℕ → NamedEvent
  Tick : ℕ → NamedEvent
  Affinity : List ℕ → List ℕ → NamedEvent
  Offline : ℕ → NamedEvent
  Online : ℕ → NamedEvent

pub record NamedLine : Type 0 where
  pub stream : ℕ
  pub event : NamedEvent

abbrev pub named_line : ℕ → NamedEvent → NamedLine
named_line stream event = record { stream = stream; event = event }

-- the fields after the stream, in this version on m processors
abbrev pub IsNamedEvent : ℕ → ℕ → Fields → NamedEvent → Type 0
IsNamedEvent version m =
    Row (codes "arrive") (One Arrive AnyField)
    (Row (codes "depart") (One Depart AnyField)
    (Row (codes "tick") (One Tick (IsNumberWithin 1 1000000))
    (Row (codes "affinity") (When (version ≡ 2) (First Affinity AnyField (One itself AnyField)))
    (Row (codes "offline") (When (version ≡ 2) (One Offline (IsProcessorNumber m)))
    (Row (codes "online") (When (version ≡ 2) (One Online (IsProcessorNumber m))) NoRow)))))

-- a stream from 0 to 15, and an event
abbrev pub IsNamedLine : ℕ → ℕ → Fields → NamedLine → Type 0
IsNamedLine version m = First named_line (IsNumberWithin 0 15) (IsNamedEvent version m)

-- the first field is `task`
abbrev pub BeginsTask : Fields → Type 0
BeginsTask fields = (rest : Fields) × (fields ≡ codes "task" ∷ rest)

-- tasks may still be listed, and the line is for one
abbrev pub IsForTask : List Posted → Fields → Type 0
IsForTask events fields = (events ≡ []) × BeginsTask fields

-- the event changes a mask, and p is the least number of the new one that is no processor
abbrev pub HasOutside : SetData → Event → ℕ → Type 0
HasOutside set (event.Affinity t mask) p = IsLeastOutside set.processors mask p
HasOutside set _ p = ⊥

-- ---- what they come to
abbrev pub LineOutcome : Type 0
LineOutcome = Outcome Progress InputKind

-- the task can be added, or the task set refuses it
abbrev pub IsAdded : ℕ → SetData → NamedTask → ℕ → LineOutcome → Type 0
IsAdded version set task mask =
    let next = new_task task.name task.priority mask in
    IsAllowing (CanAdd set next) (IsRefusal set next)
    (IsOnly (Leads (Listed version (with_task set next) [])))
    (λ fault. IsOnly (Fails (TaskRefused fault)))

-- the list of a task is a mask, or has a fault
abbrev pub IsMaskOutcome : ℕ → SetData → NamedTask → LineOutcome → Type 0
IsMaskOutcome version set task =
    IsJudging (IsListText task.list) (IsListFault task.list) (IsAdded version set task)
    (λ fault. IsOnly (Fails (BadMask fault)))

-- the line of a task
abbrev pub IsTaskOutcome : ℕ → SetData → Fields → LineOutcome → Type 0
IsTaskOutcome version set fields =
    IsReading (IsNamedTask fields) (IsMaskOutcome version set) (IsOnly (Fails BadTask))

-- there is room for the event, and its mask is of the processors
abbrev pub IsPlaced : ℕ → SetData → List Posted → ℕ → Event → LineOutcome → Type 0
IsPlaced version set events stream event =
    IsChoice (length events < 20000)
    (IsAllowing (IsAboutSet set event) (HasOutside set event)
    (IsOnly (Leads (Listed version set (events ++ record { stream = stream; event = event } ∷ []))))
    (λ p. IsOnly (Fails (OutsideAffinity p))))
    (IsOnly (Fails ManyEvents))

-- the task of this name, or there is none
abbrev pub IsKnownTask : SetData → List ℕ → (ℕ → LineOutcome → Type 0) → LineOutcome → Type 0
IsKnownTask set name Then = IsReading (λ t. IsNameOf set t name) Then (IsOnly (Fails UnknownTask))

-- what is named is looked up: the list first, and then the name
abbrev pub IsLookedUp : SetData → (Event → LineOutcome → Type 0) → NamedEvent → LineOutcome → Type 0
IsLookedUp set Then (Arrive name) = IsKnownTask set name (λ t. Then (event.Arrive t))
IsLookedUp set Then (Depart name) = IsKnownTask set name (λ t. Then (event.Depart t))
IsLookedUp set Then (Tick units) = Then (event.Tick units)
IsLookedUp set Then (Affinity name list) =
    IsJudging (IsListText list) (IsListFault list)
    (λ mask. IsKnownTask set name (λ t. Then (event.Affinity t mask)))
    (λ fault. IsOnly (Fails (BadMask fault)))
IsLookedUp set Then (Offline p) = Then (event.Offline p)
IsLookedUp set Then (Online p) = Then (event.Online p)

-- the line of an event
abbrev pub IsEventOutcome : ℕ → SetData → List Posted → Fields → LineOutcome → Type 0
IsEventOutcome version set events fields =
    IsReading (IsNamedLine version set.processors fields)
    (λ line. IsLookedUp set (IsPlaced version set events line.stream) line.event)
    (IsOnly (Fails BadEvent))

-- what the fields of a line come to, by what is expected
abbrev pub IsFieldsOutcome : Progress → Fields → LineOutcome → Type 0
IsFieldsOutcome HeaderExpected fields =
    IsReading (λ version. IsHeader version fields)
    (λ version. IsOnly (Leads (ProcessorsExpected version)))
    (IsOnly (Fails BadHeader))
IsFieldsOutcome (ProcessorsExpected version) fields =
    IsReading (λ m. IsProcessorsLine m fields)
    (λ m. IsOnly (Leads (Listed version (record { processors = m; tasks = [] }) [])))
    (IsOnly (Fails BadProcessors))
IsFieldsOutcome (Listed version set events) fields =
    IsChoice (fields ≡ end_line) (IsOnly (Leads (Ended version set events)))
    (IsChoice (IsForTask events fields) (IsTaskOutcome version set fields)
    (IsEventOutcome version set events fields))
IsFieldsOutcome (Ended version set events) fields = IsOnly (Fails AfterEnd)
