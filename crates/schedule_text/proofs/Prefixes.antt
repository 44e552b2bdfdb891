-- A line leads from a prefix of a schedule to the next prefix, whose text has the line more.
use Rattle.std.proofs.Common.{◌≡◌, ℕ, ◌<◌, ◌≤◌, ◌^◌, inl, inr, List, [], ◌∷◌, ◌++◌, length, refl, sym, ap, ◌∙◌, subst, arith, append-nil}
use Rattle.std.proofs.Common.{length-append}
use Rattle.std.specs.Prelude.{codes}
use Rattle.std.specs.List.{flat_map}
use Rattle.std.proofs.lemmas.Bool.{cases_lt}
use Rattle.std.proofs.lemmas.List.{get_or_append_left, get_or_at, flat_map_more}
use Rattle.std.proofs.lemmas.List.Elements.{All-nil, All-push}
use Rattle.affinity_mask.specs.Number.{canonical_number}
use Rattle.task_set.specs.TaskSet.{TaskData, with_task, IsMask}
use Rattle.task_set.specs.Name.{IsName}
use Rattle.task_set.proofs.Added.{IsTaskSet-push}
use Rattle.task_set.specs.declared.context.Context.{Context}
use Rattle.text_fields.specs.LineText.{line, processors_line, task_line}
use Rattle.text_fields.specs.Machine.{Leads, Fails}
use Rattle.schedule_text.specs.ScheduleText.{entry_line, context_line, header, schedule_text}
use Rattle.schedule_text.specs.Schedule.{IsScheduled, IsContextOf, AreInOrder, IsScheduleSet}
use Rattle.schedule_text.specs.Prefix.{Progress, HeaderExpected, ProcessorsExpected, TasksExpected, EntriesExpected, ContextsExpected}
use Rattle.schedule_text.specs.Prefix.{Ended, tasks_text, history_text, contexts_text, text_so_far, IsPrefix}
use Rattle.schedule_text.specs.LineOutcome.{LineOutcome}
use Rattle.schedule_text.specs.Reading.{Says}
use Rattle.schedule_text.specs.declared.fault.TextKind.{TextKind}
use Rattle.schedule_text.proofs.Bridges.{number_text_back, task_text, entry_text, context_text}

-- ---- more of a list

-- one more line of a list
more_lines : {A : Type 0} (f : A → List ℕ) (before : List ℕ) (xs : List A) (x : A) (text : List ℕ) → f x ≡ text
    → before ++ flat_map f (xs ++ x ∷ []) ≡ (before ++ flat_map f xs) ++ text
more_lines f before xs x text is =
    sym (flat_map_more f before xs x) ∙ ap (λ (last : List ℕ). (before ++ flat_map f xs) ++ last) is

-- one more context in order
in_order_more : (contexts : List Context) (context : Context) → AreInOrder contexts
    → IsContextOf (length contexts) context → AreInOrder (contexts ++ context ∷ [])
in_order_more contexts context before last = λ t d within. elim (cases_lt t (length contexts)) [
  | inl below ↦ rw (get_or_append_left contexts (context ∷ []) d t below) (before t d below)
  | inr above ↦ (
      let same : t ≡ length contexts = omega (arith, length-append contexts (context ∷ [])) in
      rw (same, get_or_at contexts context [] d (length contexts) refl) last)
]

no_tasks : (m : ℕ) → (1 ≤ m) × (m ≤ 64) → IsScheduleSet (record { processors = m; tasks = [] })
no_tasks m range = record {
  valid = record {
    processors = range;
    count = omega arith;
    names = All-nil (λ (task : TaskData). IsName task.name);
    differ = λ i j d less within. absurd (omega (arith, within));
    masks = All-nil (λ (task : TaskData). IsMask m task.mask);
  };
  priorities = All-nil (λ (task : TaskData). task.priority < 2 ^ 32);
}

-- ---- a line that leads on

-- it makes a prefix of the next prefix, whose text has this line more
pub record IsNext (expected : Progress) (text : List ℕ) (next : Progress) : Type 0 where
  pub prefix : IsPrefix next
  pub is_text : text_so_far next ≡ text_so_far expected ++ line text

at_next : (expected : Progress) (text : List ℕ) (next last : Progress) → ◌≡◌ {A = LineOutcome} (Leads next) (Leads last)
    → IsNext expected text last → IsNext expected text next
at_next expected text next last e is = subst (IsNext expected text) (let same : last ≡ next = cc in same) is

pub not_failed : {A : Type 0} (next : Progress) (kind : TextKind) → ◌≡◌ {A = LineOutcome} (Leads next) (Fails kind) → A
not_failed next kind e = cc

-- what is not less is all of it
pub all_there : (n m : ℕ) → n ≤ m → (n < m → ⊥) → n ≡ m
all_there n m few full = elim (cases_lt n m) [ inl less ↦ absurd (full less) | inr more ↦ omega arith ]

pub leads_next : (expected : Progress) (text : List ℕ) (next : Progress) → IsPrefix expected → Says expected text next
    → IsNext expected text next
unfolding schedule_text
leads_next HeaderExpected text next prefix (inl (version, f, e)) =
    at_next HeaderExpected text next (ProcessorsExpected version) e record {
      prefix = f.range;
      is_text = ap line (sym (number_text_back (codes "schedule") text version f.each_field));
    }
leads_next (ProcessorsExpected version) text next prefix (inl (m, f, e)) =
    at_next (ProcessorsExpected version) text next (TasksExpected version (record { processors = m; tasks = [] })) e record {
      prefix = (no_tasks m f.range, prefix);
      is_text = append-nil (line (header version) ++ line (codes "processors " ++ canonical_number m))
          ∙ ap (λ (last : List ℕ). line (header version) ++ line last)
          (sym (number_text_back (codes "processors") text m f.each_field));
    }
leads_next (TasksExpected version set) text next prefix (inl (count, f, e)) =
    at_next (TasksExpected version set) text next (EntriesExpected version set count []) e record {
      prefix = (prefix.0, prefix.1, f.range.1, omega arith, All-nil (IsScheduled version set));
      is_text = append-nil (tasks_text version set ++ line (codes "history " ++ canonical_number count))
          ∙ ap (λ (end : List ℕ). tasks_text version set ++ line end)
          (sym (number_text_back (codes "history") text count f.each_field));
    }
leads_next (TasksExpected version set) text next prefix (inr (none, inl (added, f, inl (can, e)))) =
    at_next (TasksExpected version set) text next (TasksExpected version (with_task set added)) e record {
      prefix = (
        record {
          valid = IsTaskSet-push set added prefix.0.valid can;
          priorities = All-push (λ (task : TaskData). task.priority < 2 ^ 32) set.tasks added prefix.0.priorities f.priority;
        },
        prefix.1,
      );
      is_text = more_lines task_line (line (header version) ++ processors_line set) set.tasks added (line text)
          (sym (task_text text added f));
    }
leads_next (EntriesExpected version set count entries) text next prefix (inl (room, inl (entry, f, e))) =
    at_next (EntriesExpected version set count entries) text next (EntriesExpected version set count (entries ++ entry ∷ [])) e record {
      prefix = (
        prefix.0,
        prefix.1,
        prefix.2,
        omega (arith, length-append entries (entry ∷ [])),
        All-push (IsScheduled version set) entries entry prefix.4 f.scheduled,
      );
      is_text = more_lines (entry_line set) (tasks_text version set ++ line (codes "history " ++ canonical_number count))
          entries entry (line text) (sym (entry_text version set text entry f));
    }
leads_next (EntriesExpected version set count entries) text next prefix (inr (full, inl (form, e))) =
    let same = all_there (length entries) count prefix.3 full in
    at_next (EntriesExpected version set count entries) text next (ContextsExpected version set entries []) e record {
      prefix = (
        prefix.0,
        prefix.1,
        (let few = prefix.2 in omega arith),
        prefix.4,
        omega arith,
        λ t d within. absurd (omega (arith, within)),
      );
      is_text = append-nil (history_text version set (length entries) entries
          ++ line (codes "contexts " ++ canonical_number (length set.tasks)))
          ∙ ap (λ (end : List ℕ). history_text version set (length entries) entries ++ line end) (sym form)
          ∙ ap (λ (n : ℕ). history_text version set n entries ++ line text) same;
    }
leads_next (ContextsExpected version set entries contexts) text next prefix (inl (room, inl (context, f, e))) =
    at_next (ContextsExpected version set entries contexts) text next
    (ContextsExpected version set entries (contexts ++ context ∷ [])) e record {
      prefix = (
        prefix.0,
        prefix.1,
        prefix.2,
        prefix.3,
        omega (arith, length-append contexts (context ∷ [])),
        in_order_more contexts context prefix.5 f.of_task,
      );
      is_text = more_lines (context_line set) (history_text version set (length entries) entries
          ++ line (codes "contexts " ++ canonical_number (length set.tasks))) contexts context (line text)
          (sym (context_text set (length contexts) text context f));
    }
leads_next (ContextsExpected version set entries contexts) text next prefix (inr (full, inl (form, e))) =
    let same = all_there (length contexts) (length set.tasks) prefix.4 full in
    at_next (ContextsExpected version set entries contexts) text next (Ended version set entries contexts) e record {
      prefix = record {
        known = prefix.1;
        tasks = prefix.0;
        few = prefix.2;
        each_entry = prefix.3;
        one_each = same;
        in_order = prefix.5;
      };
      is_text = ap (λ (n : ℕ). history_text version set (length entries) entries
          ++ line (codes "contexts " ++ canonical_number n) ++ flat_map (context_line set) contexts
          ++ line (codes "end")) same
          ∙ ap (λ (end : List ℕ). contexts_text version set entries contexts ++ line end) (sym form);
    }
leads_next HeaderExpected text next prefix (inr (none, e)) = not_failed next _ e
leads_next (ProcessorsExpected version) text next prefix (inr (none, e)) = not_failed next _ e
leads_next (TasksExpected version set) text next prefix (inr (none, inl (added, f, inr (fault, refused, e)))) = not_failed next _ e
leads_next (TasksExpected version set) text next prefix (inr (none, inr (bad, e))) = not_failed next _ e
leads_next (EntriesExpected version set count entries) text next prefix (inl (room, inr (kind, fault, e))) = not_failed next _ e
leads_next (EntriesExpected version set count entries) text next prefix (inr (full, inr (differs, e))) = not_failed next _ e
leads_next (ContextsExpected version set entries contexts) text next prefix (inl (room, inr (none, e))) = not_failed next _ e
leads_next (ContextsExpected version set entries contexts) text next prefix (inr (full, inr (differs, e))) = not_failed next _ e
leads_next (Ended version set entries contexts) text next prefix e = not_failed next _ e
