-- What a line comes to, by its fields and by what is expected: something else is expected then, or
-- the line has a fault. A text is cut into lines that a line feed ends; bytes after the last one,
-- and an early end, are a fault.
use Rattle.std.specs.Prelude.{◌≡◌, ℕ, ◌<◌, ◌==◌, List, [], ◌∷◌, ◌++◌, length, codes, if◌then◌else◌}
use Rattle.task_set.specs.TaskSet.{TaskData, SetData, with_task}
use Rattle.task_set.specs.Refusal.{CanAdd, IsRefusal}
use Rattle.task_set.specs.declared.context.Context.{Context}
use Rattle.strong_apa.specs.declared.reply.Entry.{Entry}
use Rattle.text_fields.specs.Choice.{IsOnly, IsChoice, IsReading, IsJudging, IsAllowing}
use Rattle.text_fields.specs.Machine.{Outcome, Leads, Fails}
use Rattle.text_fields.specs.LineText.{line}
use Rattle.schedule_text.specs.Schedule.{ScheduleData}
use Rattle.schedule_text.specs.Prefix.{Progress, HeaderExpected, ProcessorsExpected, TasksExpected}
use Rattle.schedule_text.specs.Prefix.{EntriesExpected, ContextsExpected, Ended}
use Rattle.schedule_text.specs.Fields.{spaced_fields_of, IsNumberAfter}
use Rattle.schedule_text.specs.LineForms.{IsCountForm}
use Rattle.schedule_text.specs.LineFields.{IsTaskFields, IsEntryFields, IsEntryFault}
use Rattle.schedule_text.specs.LineFields.{IsContextFields}
use Rattle.schedule_text.specs.declared.fault.TextKind.{TextKind}
use Rattle.schedule_text.specs.declared.fault.TextKind.TheVariants.{BadLine, TaskRefused, Short}
use Rattle.schedule_text.specs.declared.fault.TextKind.TheVariants.{AfterEnd}

abbrev pub LineOutcome : Type 0
LineOutcome = Outcome Progress TextKind

-- a word and a number, which says what is expected
abbrev pub IsNumberOutcome : List ℕ → ℕ → ℕ → (ℕ → Progress) → List (List ℕ) → LineOutcome
    → Type 0
IsNumberOutcome word least most next fields =
    IsReading (IsNumberAfter word least most fields) (λ n. IsOnly (Leads (next n)))
    (IsOnly (Fails BadLine))

-- the task can be added, or the task set refuses it
abbrev pub IsAddOutcome : ℕ → SetData → TaskData → LineOutcome → Type 0
IsAddOutcome version set task =
    IsAllowing (CanAdd set task) (IsRefusal set task)
    (IsOnly (Leads (TasksExpected version (with_task set task))))
    (λ fault. IsOnly (Fails (TaskRefused fault)))

-- how many entries there are, or a task
abbrev pub IsTaskOutcome : ℕ → SetData → List (List ℕ) → LineOutcome → Type 0
IsTaskOutcome version set fields =
    IsReading (IsNumberAfter (codes "history") 0 20000 fields)
    (λ count. IsOnly (Leads (EntriesExpected version set count [])))
    (IsReading (IsTaskFields fields) (IsAddOutcome version set) (IsOnly (Fails BadLine)))

-- one more entry
abbrev pub IsEntryOutcome : ℕ → SetData → ℕ → List Entry → List (List ℕ) → LineOutcome → Type 0
IsEntryOutcome version set count entries fields =
    IsJudging (IsEntryFields version fields set) (IsEntryFault version fields set)
    (λ entry. IsOnly (Leads (EntriesExpected version set count (entries ++ entry ∷ []))))
    (λ kind. IsOnly (Fails kind))

-- one more context
abbrev pub IsContextOutcome : ℕ → SetData → List Entry → List Context → List (List ℕ) → LineOutcome
    → Type 0
IsContextOutcome version set entries contexts fields =
    IsReading (IsContextFields set (length contexts) fields)
    (λ context. IsOnly (Leads (ContextsExpected version set entries (contexts ++ context ∷ []))))
    (IsOnly (Fails BadLine))

-- a line without its line feed
abbrev pub IsOutcome : Progress → List ℕ → LineOutcome → Type 0
IsOutcome HeaderExpected text =
    IsNumberOutcome (codes "schedule") 1 2 ProcessorsExpected (spaced_fields_of text)
IsOutcome (ProcessorsExpected version) text =
    IsNumberOutcome (codes "processors") 1 64
    (λ m. TasksExpected version (record { processors = m; tasks = [] })) (spaced_fields_of text)
IsOutcome (TasksExpected version set) text = IsTaskOutcome version set (spaced_fields_of text)
IsOutcome (EntriesExpected version set count entries) text =
    IsChoice (length entries < count)
    (IsEntryOutcome version set count entries (spaced_fields_of text))
    (IsChoice (IsCountForm set text) (IsOnly (Leads (ContextsExpected version set entries [])))
    (IsOnly (Fails BadLine)))
IsOutcome (ContextsExpected version set entries contexts) text =
    IsChoice (length contexts < length set.tasks)
    (IsContextOutcome version set entries contexts (spaced_fields_of text))
    (IsChoice (text ≡ codes "end") (IsOnly (Leads (Ended version set entries contexts)))
    (IsOnly (Fails BadLine)))
IsOutcome (Ended version set entries contexts) text = IsOnly (Fails AfterEnd)

-- ---- lines

-- a line that a line feed ends, or the bytes after the last one
pub data Piece : Type 0 where
  Line : List ℕ → Piece
  Unended : List ℕ → Piece

-- its bytes
abbrev pub piece_bytes : Piece → List ℕ
piece_bytes (Line text) = line text
piece_bytes (Unended text) = text

-- one more byte, which is no line feed
abbrev pub onto_piece : ℕ → List Piece → List Piece
onto_piece byte [] = Unended (byte ∷ []) ∷ []
onto_piece byte (Line text ∷ rest) = Line (byte ∷ text) ∷ rest
onto_piece byte (Unended text ∷ rest) = Unended (byte ∷ text) ∷ rest

abbrev pub pieces_of : List ℕ → List Piece
pieces_of [] = []
pieces_of (byte ∷ rest) =
    if byte == 10 then Line [] ∷ pieces_of rest else onto_piece byte (pieces_of rest)

-- the fault of a text that stops there
abbrev pub kind_of_more : Progress → TextKind
kind_of_more (Ended version set entries contexts) = AfterEnd
kind_of_more _ = Short

abbrev pub IsPieceOutcome : Progress → Piece → LineOutcome → Type 0
IsPieceOutcome expected (Line text) = IsOutcome expected text
IsPieceOutcome expected (Unended text) = IsOnly (Fails (kind_of_more expected))

-- what the end comes to
abbrev pub IsEndOutcome : Progress → Outcome ScheduleData TextKind → Type 0
IsEndOutcome (Ended version set entries contexts) =
    IsOnly (Leads (record { version = version; set = set; entries = entries; contexts = contexts }))
IsEndOutcome _ = IsOnly (Fails Short)
