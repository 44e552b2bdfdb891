-- Schedules. A schedule has a version of the format, a valid set of tasks, at most 20,000 entries
-- and one context for each task, in the order of the tasks; each entry is on a stream below 16, its
-- event and its reply are of the version, a tick has from 1 to 1,000,000 units, what it is about is
-- of the set, and its chains and its sets are of processors below 64.
use Rattle.std.specs.Prelude.{◌≡◌, ℕ, ◌<◌, ◌≤◌, ◌^◌, List, length, All, IfSome, slice_index_or}
use Rattle.affinity_mask.specs.ProcSet.{all_below, Within}
use Rattle.text_fields.specs.LineText.{PrioritiesFit}
use Rattle.task_set.specs.TaskSet.{SetData, IsTaskSet}
use Rattle.task_set.specs.declared.context.Context.{Context}
use Rattle.task_set.specs.Event.{HasUnits}
use Rattle.strong_apa.specs.declared.reply.Reply.{Reply}
use Rattle.strong_apa.specs.declared.reply.Entry.{Entry}
use Rattle.strong_apa.specs.Reply.{chains_of, sets_of}
use Rattle.text_fields.specs.Version.{IsVersion}
use Rattle.schedule_text.specs.ScheduleText.{IsEntryOf, IsEntryOfVersion}
use Rattle.schedule_text.specs.declared.schedule.Schedule.TheInside.{Inside}

-- what contracts see of a schedule
pub record ScheduleData : Type 0 where
  pub version : ℕ
  pub set : SetData
  pub entries : List Entry
  pub contexts : List Context

-- at most 64 processors in a list
abbrev pub IsProcessorList : List ℕ → Type 0
IsProcessorList chain = (length chain ≤ 64) × All (λ p. p < 64) chain

-- a set of processors
abbrev pub IsOfProcessors : ℕ → Type 0
IsOfProcessors X = Within X (all_below 64)

-- chains and sets of processors
abbrev pub AreOfProcessors : List (List ℕ) → List ℕ → Type 0
AreOfProcessors chains sets = All IsProcessorList chains × All IsOfProcessors sets

-- the chains and the sets of a reply are of processors
abbrev pub HasProcessors : Reply → Type 0
HasProcessors reply = AreOfProcessors (chains_of reply) (sets_of reply)

-- an entry of a version about the set, with the numbers of the format
pub record IsScheduled (version : ℕ) (set : SetData) (entry : Entry) : Type 0 where
  pub caller : entry.caller < 16
  pub tasks : IsEntryOf set entry
  pub of_version : IsEntryOfVersion version entry
  pub units : HasUnits entry.event
  pub processors : HasProcessors entry.reply

-- the context of the task with this number, with the numbers of the format
pub record IsContextOf (t : ℕ) (context : Context) : Type 0 where
  pub task : context.task ≡ t
  pub units : context.units < 2 ^ 64
  pub stints : context.stints < 2 ^ 64
  pub moves : context.moves < 2 ^ 64
  pub last : IfSome context.last (λ p. p < 64)
  pub trail : context.trail < 2 ^ 64

-- each context is that of the task whose number is its place
abbrev pub AreInOrder : List Context → Type 0
AreInOrder contexts =
    (t : ℕ) (context : Context) → t < length contexts
    → IsContextOf t (slice_index_or contexts t context)

-- tasks with the priorities of the format
pub record IsScheduleSet (set : SetData) : Type 0 where
  pub valid : IsTaskSet set
  pub priorities : PrioritiesFit set

-- what holds of each schedule
pub record IsSchedule (schedule : ScheduleData) : Type 0 where
  pub known : IsVersion schedule.version
  pub tasks : IsScheduleSet schedule.set
  pub few : length schedule.entries ≤ 20000
  pub each_entry : All (IsScheduled schedule.version schedule.set) schedule.entries
  pub one_each : length schedule.contexts ≡ length schedule.set.tasks
  pub in_order : AreInOrder schedule.contexts

-- the stored parts
abbrev pub schedule_view : Inside → ScheduleData
schedule_view a =
    record {
      version = a.version;
      set = a.set;
      entries = a.entries.items;
      contexts = a.contexts.items;
    }

-- the invariant of the fields
abbrev pub IsStored : Inside → Type 0
IsStored a = IsSchedule (schedule_view a)
