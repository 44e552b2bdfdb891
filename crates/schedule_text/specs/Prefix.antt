-- Prefixes of a schedule: the text so far, and what is expected after it.
use Rattle.std.specs.Prelude.{ℕ, ◌≤◌, List, [], ◌++◌, length, codes, All}
use Rattle.std.specs.List.{flat_map}
use Rattle.affinity_mask.specs.Number.{canonical_number}
use Rattle.task_set.specs.TaskSet.{SetData}
use Rattle.task_set.specs.declared.context.Context.{Context}
use Rattle.strong_apa.specs.declared.reply.Entry.{Entry}
use Rattle.text_fields.specs.LineText.{line, processors_line, task_line}
use Rattle.text_fields.specs.Version.{IsVersion}
use Rattle.schedule_text.specs.ScheduleText.{entry_line, context_line, header, schedule_text}
use Rattle.schedule_text.specs.Schedule.{ScheduleData, IsScheduled, AreInOrder, IsScheduleSet}
use Rattle.schedule_text.specs.Schedule.{IsSchedule}

-- what is expected after a prefix of a schedule: the header, which says the version, and in a
-- version the processors, tasks or the history, entries or the number of contexts, contexts or the
-- end, or nothing
pub data Progress : Type 0 where
  HeaderExpected : Progress
  ProcessorsExpected : ℕ → Progress
  TasksExpected : ℕ → SetData → Progress
  EntriesExpected : ℕ → SetData → ℕ → List Entry → Progress
  ContextsExpected : ℕ → SetData → List Entry → List Context → Progress
  Ended : ℕ → SetData → List Entry → List Context → Progress

-- nothing after a whole schedule
abbrev pub whole : ScheduleData → Progress
whole schedule = Ended schedule.version schedule.set schedule.entries schedule.contexts

-- the text of tasks
abbrev pub tasks_text : ℕ → SetData → List ℕ
tasks_text version set =
    line (header version) ++ processors_line set ++ flat_map task_line set.tasks

-- of tasks, and of so many entries, of which these are the first
abbrev pub history_text : ℕ → SetData → ℕ → List Entry → List ℕ
history_text version set count entries =
    tasks_text version set ++ line (codes "history " ++ canonical_number count)
    ++ flat_map (entry_line set) entries

-- of tasks, entries, and the first contexts
abbrev pub contexts_text : ℕ → SetData → List Entry → List Context → List ℕ
contexts_text version set entries contexts =
    history_text version set (length entries) entries
    ++ line (codes "contexts " ++ canonical_number (length set.tasks))
    ++ flat_map (context_line set) contexts

-- the text of a prefix
abbrev pub text_so_far : Progress → List ℕ
text_so_far HeaderExpected = []
text_so_far (ProcessorsExpected version) = line (header version)
text_so_far (TasksExpected version set) = tasks_text version set
text_so_far (EntriesExpected version set count entries) = history_text version set count entries
text_so_far (ContextsExpected version set entries contexts) =
    contexts_text version set entries contexts
text_so_far (Ended version set entries contexts) = schedule_text version set entries contexts

-- it is a prefix of some schedule
abbrev pub IsPrefix : Progress → Type 0
IsPrefix HeaderExpected = Unit {0}
IsPrefix (ProcessorsExpected version) = IsVersion version
IsPrefix (TasksExpected version set) = IsScheduleSet set × IsVersion version
IsPrefix (EntriesExpected version set count entries) =
    IsScheduleSet set × IsVersion version × (count ≤ 20000) × (length entries ≤ count)
    × All (IsScheduled version set) entries
IsPrefix (ContextsExpected version set entries contexts) =
    IsScheduleSet set × IsVersion version × (length entries ≤ 20000)
    × All (IsScheduled version set) entries × (length contexts ≤ length set.tasks)
    × AreInOrder contexts
IsPrefix (Ended version set entries contexts) =
    IsSchedule (record { version = version; set = set; entries = entries; contexts = contexts })

-- it is a whole schedule
abbrev pub IsWholePrefix : Progress → Type 0
IsWholePrefix (Ended version set entries contexts) = IsPrefix (Ended version set entries contexts)
IsWholePrefix _ = ⊥
