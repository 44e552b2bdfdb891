-- The text of each prefix of a schedule is read without fault.
use Rattle.std.proofs.Common.{◌≡◌, ℕ, ◌+◌, ◌<◌, ◌≤◌, ◌^◌, true, inl, inr, List, [], ◌∷◌, ◌++◌, length, All, Contains, refl, sym, subst}
use Rattle.std.proofs.Common.{arith, append_assoc, append-nil, length-append}
use Rattle.std.specs.Prelude.{codes}
use Rattle.std.proofs.lemmas.List.{get_or_at}
use Rattle.std.proofs.lemmas.List.Elements.{All-weaker}
use Rattle.affinity_mask.specs.Number.{canonical_number}
use Rattle.task_set.specs.TaskSet.{TaskData, SetData, IsTaskSet}
use Rattle.task_set.specs.declared.context.Context.{Context}
use Rattle.strong_apa.specs.declared.reply.Entry.{Entry}
use Rattle.text_fields.specs.LineText.{line, task_fields}
use Rattle.text_fields.specs.Version.{IsVersion}
use Rattle.text_fields.proofs.Addable.{can_add_next}
use Rattle.text_fields.proofs.Words.{clash}
use Rattle.schedule_text.specs.ScheduleText.{header, context_fields, spaced}
use Rattle.schedule_text.specs.Schedule.{ScheduleData, IsScheduled, IsContextOf, AreInOrder, IsScheduleSet, IsSchedule}
use Rattle.schedule_text.specs.Prefix.{Progress, whole, HeaderExpected, ProcessorsExpected, TasksExpected, EntriesExpected}
use Rattle.schedule_text.specs.Prefix.{ContextsExpected, text_so_far, IsPrefix}
use Rattle.schedule_text.specs.Fields.{spaced_fields_of}
use Rattle.schedule_text.specs.LineFields.{entry_fields, IsTaskFields}
use Rattle.schedule_text.specs.LineOutcome.{IsTaskOutcome}
use Rattle.schedule_text.specs.Reading.{Says}
use Rattle.schedule_text.proofs.Bridges.{task_back, entry_back, context_back, number_said}
use Rattle.schedule_text.proofs.Fields.{mask_processors}
use Rattle.schedule_text.proofs.Names.{name_field}
use Rattle.schedule_text.proofs.SoFar.{IsReadTo, read_start, read_more}
use Rattle.schedule_text.proofs.Spaces.{EachByte, IsNoFeed, is_high, high_no_feed, none_from_no_feed, names_no_feed, name_high, word_bytes}
use Rattle.schedule_text.proofs.Spaces.{joined_bytes, word_number_bytes, task_bytes, entry_bytes, context_bytes}
use Rattle.schedule_text.proofs.Stages.{at_fields}

-- its text is read without fault, whatever follows
pub record IsReached (expected : Progress) : Type 0 where
  pub number : ℕ
  pub read : (rest : List ℕ) → IsReadTo (text_so_far expected ++ rest) rest number expected

-- and so is one more line
more : (expected : Progress) (text : List ℕ) (next : Progress) → IsReached expected → Says expected text next
    → (Contains text 10 → ⊥) → IsReached next
more expected text next reached says none = record { number = reached.number + 1; read = by }
  where
    by : (rest : List ℕ) → IsReadTo (text_so_far next ++ rest) rest (reached.number + 1) next
    by rest =
        let is = read_more (text_so_far expected ++ (line text ++ rest)) (line text ++ rest) text rest reached.number expected next
        (reached.read (line text ++ rest)) (append_assoc text (10 ∷ []) rest, none) says in
        subst (λ (bytes : List ℕ). IsReadTo bytes rest (reached.number + 1) next) is.order is

-- ---- lines have no line feed

spaced_no_feed : (fields : List (List ℕ)) → EachByte IsNoFeed fields → Contains (spaced fields) 10 → ⊥
spaced_no_feed fields all = none_from_no_feed (spaced fields) (joined_bytes IsNoFeed high_no_feed 32 fields refl all)

-- a word and a number
number_no_feed : (word : List ℕ) (n : ℕ) → is_high word ≡ true → n < 2 ^ 64
    → Contains (word ++ 32 ∷ canonical_number n) 10 → ⊥
number_no_feed word n high small =
    spaced_no_feed (word ∷ canonical_number n ∷ []) (word_number_bytes IsNoFeed high_no_feed word n high small)

-- ---- tasks

-- the line of a task of a valid set
task_reached : (version m : ℕ) (before rest : List TaskData) (added : TaskData)
    → IsScheduleSet (record { processors = m; tasks = before ++ added ∷ rest })
    → IsReached (TasksExpected version (record { processors = m; tasks = before }))
    → IsReached (TasksExpected version (record { processors = m; tasks = before ++ added ∷ [] }))
task_reached version m before rest added set reached =
    let can = can_add_next m before rest added set.valid in
    let within : length before < length (before ++ added ∷ rest) = omega (arith, length-append before (added ∷ rest)) in
    let priority = rw (get_or_at before added rest added (length before) refl) at
    (set.priorities (length before) added within) in
    let processors = mask_processors m added.mask set.valid.processors.1 can.mask in
    let fields : IsTaskFields (task_fields added) added = record {
      name = name_field added.name can.name;
      priority = priority;
      some = can.mask.some;
      processors = processors;
      each_field = refl;
    } in
    more (TasksExpected version (record { processors = m; tasks = before })) (spaced (task_fields added))
    (TasksExpected version (record { processors = m; tasks = before ++ added ∷ [] })) reached
    (at_fields (IsTaskOutcome version (record { processors = m; tasks = before })) (task_fields added)
    (spaced_fields_of (spaced (task_fields added))) _ (sym (task_back added fields))
    (inr (λ count history. clash history.each_field refl, inl (added, fields, inl (can, refl)))))
    (spaced_no_feed (task_fields added) (task_bytes IsNoFeed high_no_feed added
    (All-weaker (λ (b : ℕ). 44 ≤ b) IsNoFeed high_no_feed added.name (name_high added.name can.name))
    priority can.mask.some processors))

tasks_reached : (version m : ℕ) (before tasks : List TaskData)
    → IsScheduleSet (record { processors = m; tasks = before ++ tasks })
    → IsReached (TasksExpected version (record { processors = m; tasks = before }))
    → IsReached (TasksExpected version (record { processors = m; tasks = before ++ tasks }))
tasks_reached version m before [] set reached =
    subst (λ (tasks : List TaskData). IsReached (TasksExpected version (record { processors = m; tasks = tasks })))
    (sym (append-nil before)) reached
tasks_reached version m before (added ∷ tasks) set reached =
    let regroup = append_assoc before (added ∷ []) tasks in
    rw regroup at (tasks_reached version m (before ++ added ∷ []) tasks (rw regroup set)
    (task_reached version m before tasks added set reached))

-- the line of the header, and those up to the tasks
header_reached : (version : ℕ) → IsVersion version → IsReached (ProcessorsExpected version)
header_reached version known =
    let high = known.1 in
    more HeaderExpected (header version) (ProcessorsExpected version)
    (record { number = 1; read = λ rest. read_start rest })
    (inl (version, number_said (codes "schedule") 1 2 version refl (omega arith) known, refl))
    (number_no_feed (codes "schedule") version refl (omega arith))

to_tasks : (version : ℕ) (set : SetData) → IsVersion version → IsScheduleSet set → IsReached (TasksExpected version set)
to_tasks version set known tasks =
    let range = tasks.valid.processors in
    let few = range.1 in
    tasks_reached version set.processors [] set.tasks tasks
    (more (ProcessorsExpected version) (codes "processors " ++ canonical_number set.processors)
    (TasksExpected version (record { processors = set.processors; tasks = [] })) (header_reached version known)
    (inl (set.processors, number_said (codes "processors") 1 64 set.processors refl (omega arith) range, refl))
    (number_no_feed (codes "processors") set.processors refl (omega arith)))

-- ---- entries

entries_reached : (version : ℕ) (set : SetData) (count : ℕ) (before entries : List Entry) → IsTaskSet set
    → length (before ++ entries) ≤ count → All (IsScheduled version set) (before ++ entries)
    → IsReached (EntriesExpected version set count before) → IsReached (EntriesExpected version set count (before ++ entries))
entries_reached version set count before [] valid few each reached =
    subst (λ (entries : List Entry). IsReached (EntriesExpected version set count entries)) (sym (append-nil before)) reached
entries_reached version set count before (entry ∷ entries) valid few each reached =
    let regroup = append_assoc before (entry ∷ []) entries in
    let within : length before < length (before ++ entry ∷ entries) = omega
    (arith, length-append before (entry ∷ entries)) in
    let scheduled : IsScheduled version set entry = rw (get_or_at before entry entries entry (length before) refl) at
    (each (length before) entry within) in
    rw regroup at (entries_reached version set count (before ++ entry ∷ []) entries valid (rw regroup few) (rw regroup each)
    (more (EntriesExpected version set count before) (spaced (entry_fields set entry))
    (EntriesExpected version set count (before ++ entry ∷ [])) reached
    (inl (
      omega (arith, few, within),
      inl (entry, record { scheduled = scheduled; each_field = entry_back version set entry valid scheduled }, refl),
    ))
    (spaced_no_feed (entry_fields set entry) (entry_bytes IsNoFeed high_no_feed version set entry valid.processors.1
    (names_no_feed set valid) scheduled))))

to_entries : (version : ℕ) (set : SetData) (count : ℕ) (entries : List Entry)
    → IsPrefix (EntriesExpected version set count entries) → IsReached (EntriesExpected version set count entries)
to_entries version set count entries prefix =
    let few = prefix.2 in
    entries_reached version set count [] entries prefix.0.valid prefix.3 prefix.4
    (more (TasksExpected version set) (codes "history " ++ canonical_number count) (EntriesExpected version set count [])
    (to_tasks version set prefix.1 prefix.0)
    (inl (count, number_said (codes "history") 0 20000 count refl (omega arith) (omega arith, few), refl))
    (number_no_feed (codes "history") count refl (omega arith)))

-- ---- contexts

contexts_reached : (version : ℕ) (set : SetData) (entries : List Entry) (before contexts : List Context) → IsTaskSet set
    → length (before ++ contexts) ≤ length set.tasks → AreInOrder (before ++ contexts)
    → IsReached (ContextsExpected version set entries before)
    → IsReached (ContextsExpected version set entries (before ++ contexts))
contexts_reached version set entries before [] valid few each reached =
    subst (λ (contexts : List Context). IsReached (ContextsExpected version set entries contexts))
    (sym (append-nil before)) reached
contexts_reached version set entries before (context ∷ contexts) valid few each reached =
    let regroup = append_assoc before (context ∷ []) contexts in
    let within : length before < length (before ++ context ∷ contexts) = omega
    (arith, length-append before (context ∷ contexts)) in
    let of_task : IsContextOf (length before)
    context = rw (get_or_at before context contexts context (length before) refl) at
    (each (length before) context within) in
    let room : length before < length set.tasks = omega (arith, few, within) in
    rw regroup at (contexts_reached version set entries (before ++ context ∷ []) contexts valid (rw regroup few)
    (rw regroup each)
    (more (ContextsExpected version set entries before) (spaced (context_fields set context))
    (ContextsExpected version set entries (before ++ context ∷ [])) reached
    (inl (
      room,
      inl (
        context,
        record { of_task = of_task; each_field = context_back set (length before) context valid room of_task },
        refl,
      ),
    ))
    (spaced_no_feed (context_fields set context)
    (context_bytes IsNoFeed high_no_feed set (length before) context (names_no_feed set valid) room of_task))))

to_contexts : (version : ℕ) (set : SetData) (entries : List Entry) (contexts : List Context)
    → IsPrefix (ContextsExpected version set entries contexts) → IsReached (ContextsExpected version set entries contexts)
to_contexts version set entries contexts prefix =
    let count = prefix.0.valid.count in
    contexts_reached version set entries [] contexts prefix.0.valid prefix.4 prefix.5
    (more (EntriesExpected version set (length entries) entries) (codes "contexts " ++ canonical_number (length set.tasks))
    (ContextsExpected version set entries [])
    (to_entries version set (length entries) entries (prefix.0, prefix.1, prefix.2, omega arith, prefix.3))
    (inr (λ room. omega (arith, room), inl (refl, refl)))
    (number_no_feed (codes "contexts") (length set.tasks) refl (omega arith)))

-- ---- each whole schedule

pub schedule_reached : (schedule : ScheduleData) → IsSchedule schedule → IsReached (whole schedule)
schedule_reached s valid =
    let full = valid.one_each in
    more (ContextsExpected s.version s.set s.entries s.contexts) (codes "end") (whole s)
    (to_contexts s.version s.set s.entries s.contexts
    (valid.tasks, valid.known, valid.few, valid.each_entry, omega arith, valid.in_order))
    (inr (λ room. omega (arith, room, full), inl (refl, refl)))
    (none_from_no_feed (codes "end") (word_bytes IsNoFeed high_no_feed (codes "end") refl))
