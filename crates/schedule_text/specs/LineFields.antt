-- Private: what the fields of a line say, and their faults, for the contracts of this crate's own
-- functions.
use Rattle.std.specs.Prelude.{◌≡◌, ◌≢◌, ℕ, ◌<◌, ◌^◌, ◌⊎◌, List, [], ◌∷◌, ◌++◌, length, codes}
use Rattle.std.specs.Prelude.{Result, Ok, Err}
use Rattle.std.specs.List.{cons_option}
use Rattle.affinity_mask.specs.ProcSet.{empty}
use Rattle.affinity_mask.specs.Number.{canonical_number}
use Rattle.task_set.specs.TaskSet.{TaskData, SetData, with_task}
use Rattle.task_set.specs.Refusal.{CanAdd, IsNewName, IsRefusal}
use Rattle.task_set.specs.declared.context.Context.{Context}
use Rattle.task_set.specs.declared.fault.TaskFault.{TaskFault}
use Rattle.task_set.specs.declared.event.Event.{Event}
use Rattle.strong_apa.specs.declared.reply.Came.{Came}
use Rattle.strong_apa.specs.declared.reply.Gone.{Gone}
use Rattle.strong_apa.specs.declared.reply.Reply.{Reply}
use Rattle.strong_apa.specs.declared.reply.Entry.{Entry}
use Rattle.strong_apa.specs.Reply.{came_chains, came_sets, came_tasks, IsReplyOfVersion}
use Rattle.text_fields.specs.LineText.{task_fields}
use Rattle.text_fields.specs.EventText.{event_fields, IsAboutSet}
use Rattle.schedule_text.specs.ScheduleText.{came_fields, gone_fields, reply_fields, context_fields}
use Rattle.schedule_text.specs.ScheduleText.{AreTasksOf, IsReplyOf}
use Rattle.schedule_text.specs.Schedule.{IsOfProcessors, AreOfProcessors, HasProcessors}
use Rattle.schedule_text.specs.Schedule.{IsScheduled, IsContextOf}
use Rattle.task_set.specs.Event.{HasUnits, IsOfVersion}
use Rattle.schedule_text.specs.LineForms.{IsField, HasFields}
use Rattle.schedule_text.specs.declared.fault.TextKind.{TextKind}
use Rattle.schedule_text.specs.declared.fault.TextKind.TheVariants.{BadLine, TaskRefused}
use Rattle.schedule_text.specs.declared.fault.TextKind.TheVariants.{UnknownTask}

-- the fields of an entry
abbrev pub entry_fields : SetData → Entry → List (List ℕ)
entry_fields set entry =
    canonical_number entry.caller ∷ (event_fields set entry.event ++ reply_fields set entry.reply)

-- ---- tasks and contexts

-- the words before the values of a context
abbrev pub AreContextWords : List ℕ → List ℕ → List ℕ → List ℕ → List ℕ → Type 0
AreContextWords units stints moves last trail =
    (units ≡ codes "units") × (stints ≡ codes "stints") × (moves ≡ codes "moves")
    × (last ≡ codes "last") × (trail ≡ codes "trail")

-- the fields are those of the context of the task with this number
pub record IsContextFields (set : SetData) (t : ℕ) (fields : List (List ℕ))
    (context : Context) : Type 0
  where
    pub of_task : IsContextOf t context
    pub each_field : fields ≡ context_fields set context

-- the fields are those of a task
pub record IsTaskFields (fields : List (List ℕ)) (task : TaskData) : Type 0 where
  pub name : IsField task.name
  pub priority : task.priority < 2 ^ 32
  pub some : task.mask ≢ empty
  pub processors : IsOfProcessors task.mask
  pub each_field : fields ≡ task_fields task

-- the task of the fields was added
pub record IsAdded (fields : List (List ℕ)) (set next : SetData) : Type 0 where
  pub task : TaskData
  pub form : IsTaskFields fields task
  pub allowed : CanAdd set task
  pub last : next ≡ with_task set task

-- the fault of the fields of a task
abbrev pub IsTaskFault : SetData → List (List ℕ) → TextKind → Type 0
IsTaskFault set fields kind =
    ((kind ≡ BadLine) × ((task : TaskData) → IsTaskFields fields task → ⊥))
    ⊎ ((task : TaskData) × (fault : TaskFault) × (kind ≡ TaskRefused fault)
    × IsTaskFields fields task × IsRefusal set task fault)

-- the field is no name of a task, as it is no field or a new name
abbrev pub IsNameFault : SetData → List ℕ → TextKind → Type 0
IsNameFault set field kind =
    ((kind ≡ BadLine) × (IsField field → ⊥))
    ⊎ ((kind ≡ UnknownTask) × IsField field × IsNewName set field)

-- ---- parts of an entry, and their faults

-- the fault of what has a form of which only some is known
abbrev pub IsPartFault : Type 0 → Type 0 → TextKind → Type 0
IsPartFault Form Known kind =
    ((kind ≡ BadLine) × (Form → ⊥)) ⊎ ((kind ≡ UnknownTask) × Form × (Known → ⊥))

-- it is said of some tasks, whose names may be any fields
abbrev pub IsSaid : {X : Type 0} → (SetData → X → Type 0) → Type 0
IsSaid {X} Says = (tasks : SetData) × (x : X) × HasFields tasks × Says tasks x

-- the fault of what may be said of the set
abbrev pub IsSaidFault : {X : Type 0} → (SetData → X → Type 0) → SetData → TextKind → Type 0
IsSaidFault {X} Says set kind = IsPartFault (IsSaid Says) ((x : X) × Says set x) kind

-- of two faults the one that is reported: that of a form comes before an unknown name
abbrev pub first_reported : TextKind → TextKind → TextKind
first_reported UnknownTask other = other
first_reported kind other = kind

-- two parts that were read, or the fault that is reported
abbrev pub both_of : {A B : Type 0} → Result A TextKind → Result B TextKind
    → Result (A × B) TextKind
both_of (Ok a) (Ok b) = Ok (a, b)
both_of (Ok a) (Err kind) = Err kind
both_of (Err kind) (Ok b) = Err kind
both_of (Err kind) (Err other) = Err (first_reported kind other)

-- the fields are those of the result of an arrival of the set
pub record IsCameFields (fields : List (List ℕ)) (set : SetData) (result : Came) : Type 0 where
  pub about : AreTasksOf set (came_tasks result)
  pub processors : AreOfProcessors (came_chains result) (came_sets result)
  pub each_field : fields ≡ came_fields set result

-- the six fields of a result that a task was displaced
abbrev pub displaced_fields : List ℕ → List ℕ → List ℕ → List (List ℕ)
displaced_fields chain name processors =
    codes "displaced" ∷ chain ∷ codes "out" ∷ name ∷ codes "reach" ∷ processors ∷ []

-- the fields say who of the set came in
pub record IsGoneFields (fields : List (List ℕ)) (set : SetData) (gone : Gone) : Type 0 where
  pub about : AreTasksOf set (cons_option gone.entered [])
  pub processors : AreOfProcessors (gone.chain ∷ []) (gone.back ∷ [])
  pub each_field : fields ≡ gone_fields set gone

-- the five fields of who came in, by its words
abbrev pub gone_words : List ℕ → List ℕ → List ℕ → List (List ℕ)
gone_words chain name processors =
    chain ∷ codes "enters" ∷ name ∷ codes "back" ∷ processors ∷ []

-- the fields are those of a reply of a version and of the set
pub record IsReplyFields (version : ℕ) (fields : List (List ℕ)) (set : SetData)
    (reply : Reply) : Type 0
  where
    pub about : IsReplyOf set reply
    pub of_version : IsReplyOfVersion version reply
    pub processors : HasProcessors reply
    pub each_field : fields ≡ reply_fields set reply

-- the fields are those of an event of a version and of the set, which has m processors
pub record IsEventFields (version m : ℕ) (fields : List (List ℕ)) (set : SetData)
    (event : Event) : Type 0
  where
    pub processors : set.processors ≡ m
    pub about : IsAboutSet set event
    pub of_version : IsOfVersion version event
    pub units : HasUnits event
    pub each_field : fields ≡ event_fields set event

-- the faults of a result of an arrival, of who came in, of a reply and of an event
abbrev pub IsCameFault : List (List ℕ) → SetData → TextKind → Type 0
IsCameFault fields set kind = IsSaidFault (IsCameFields fields) set kind

abbrev pub IsGoneFault : List (List ℕ) → SetData → TextKind → Type 0
IsGoneFault fields set kind = IsSaidFault (IsGoneFields fields) set kind

abbrev pub IsReplyFault : ℕ → List (List ℕ) → SetData → TextKind → Type 0
IsReplyFault version fields set kind = IsSaidFault (IsReplyFields version fields) set kind

abbrev pub IsEventFault : ℕ → List (List ℕ) → SetData → TextKind → Type 0
IsEventFault version fields set kind =
    IsSaidFault (IsEventFields version set.processors fields) set kind

-- the word of no event of the first version
abbrev pub IsNoFirstWord : List ℕ → Type 0
IsNoFirstWord word = (word ≢ codes "arrive") × (word ≢ codes "depart") × (word ≢ codes "tick")

-- five fields and those after the word `then`, which comes next
pub record IsGoneThen (fields gone arrival : List (List ℕ)) : Type 0 where
  pub five : length gone ≡ 5
  pub each_field : fields ≡ gone ++ codes "then" ∷ arrival

-- an event has three fields where the first is `affinity`, and two otherwise
abbrev pub IsEventSize : List (List ℕ) → Type 0
IsEventSize [] = ⊥
IsEventSize (word ∷ more) =
    ((word ≡ codes "affinity") × (length more ≡ 2))
    ⊎ ((word ≢ codes "affinity") × (length more ≡ 1))

-- the fields of an event and those after it
pub record IsEventThen (fields event reply : List (List ℕ)) : Type 0 where
  pub size : IsEventSize event
  pub each_field : fields ≡ event ++ reply

-- ---- entries

-- they are those of an entry of a version and of the set
pub record IsEntryFields (version : ℕ) (fields : List (List ℕ)) (set : SetData)
    (entry : Entry) : Type 0
  where
    pub scheduled : IsScheduled version set entry
    pub each_field : fields ≡ entry_fields set entry

-- they are those of a stream, of an event of some tasks on m processors, and of a reply of some
-- tasks
pub record IsSomeEntry (version m : ℕ) (fields : List (List ℕ)) : Type 0 where
  pub stream : ℕ
  pub event : List (List ℕ)
  pub reply : List (List ℕ)
  pub caller : stream < 16
  pub is_event : IsSaid (IsEventFields version m event)
  pub is_reply : IsSaid (IsReplyFields version reply)
  pub each_field : fields ≡ canonical_number stream ∷ (event ++ reply)

-- the fault of an entry
abbrev pub IsEntryFault : ℕ → List (List ℕ) → SetData → TextKind → Type 0
IsEntryFault version fields set kind =
    IsPartFault (IsSomeEntry version set.processors fields)
    ((entry : Entry) × IsEntryFields version fields set entry) kind
