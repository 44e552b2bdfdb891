-- Each line has one outcome.
use Rattle.std.proofs.Common.{◌≡◌, ℕ, ◌<◌, ◌^◌, ◌⊎◌, inl, inr, List, [], ◌∷◌, ◌++◌, length, refl, sym, ap, ◌∙◌, subst, arith, lit<}
use Rattle.std.specs.Prelude.{codes}
use Rattle.std.proofs.lemmas.Bool.{cases_lt}
use Rattle.affinity_mask.specs.Number.{canonical_number}
use Rattle.task_set.specs.TaskSet.{TaskData, SetData, IsTaskSet}
use Rattle.task_set.specs.Refusal.{new_task}
use Rattle.task_set.specs.declared.context.Context.{Context}
use Rattle.task_set.proofs.Refusals.{CanAdd-IsRefusal, same_refusal}
use Rattle.strong_apa.specs.declared.reply.Entry.{Entry}
use Rattle.text_fields.specs.Choice.{IsDecided}
use Rattle.text_fields.specs.EventText.{name_of}
use Rattle.text_fields.proofs.Addable.{can_add_decided}
use Rattle.text_fields.proofs.Choices.{only, choice, reading, judging, allowing}
use Rattle.text_fields.proofs.Decisions.{bytes_decided}
use Rattle.text_fields.proofs.Words.{head_same, tail_same}
use Rattle.schedule_text.specs.Schedule.{IsContextOf}
use Rattle.schedule_text.specs.Prefix.{Progress, HeaderExpected, ProcessorsExpected, TasksExpected, EntriesExpected, ContextsExpected}
use Rattle.schedule_text.specs.Prefix.{Ended, IsPrefix}
use Rattle.schedule_text.specs.LineForms.{IsField}
use Rattle.schedule_text.specs.Fields.{spaced_fields_of, IsNumberAfter}
use Rattle.schedule_text.specs.LineFields.{IsTaskFields, IsContextFields}
use Rattle.schedule_text.specs.LineOutcome.{IsNumberOutcome, IsAddOutcome, IsTaskOutcome, IsEntryOutcome, IsContextOutcome, IsOutcome}
use Rattle.schedule_text.proofs.Decisions.{both_decided, field_decided, number_field_decided, list_field_decided, last_field_decided}
use Rattle.schedule_text.proofs.Tasks.{task_form, task_list}
use Rattle.schedule_text.proofs.Contexts.{AreSaid, context_said, context_named, context_from_said, context_once, wide, wide_below}
use Rattle.schedule_text.proofs.EntriesDecided.{entry_decided}
use Rattle.schedule_text.proofs.Once.{number_after_once, task_once, entry_once, entry_no_fault, entry_fault_once}

-- ---- tasks

-- a number after a word, or not
number_after_decided : (word : List ℕ) (least most : ℕ) (fields : List (List ℕ)) → most < 2 ^ 64
    → ((n : ℕ) × IsNumberAfter word least most fields n)
    ⊎ ((n : ℕ) → IsNumberAfter word least most fields n → ⊥)
number_after_decided word least most [] small = inr (λ n f. let e = f.each_field in cc)
number_after_decided word least most (a ∷ []) small = inr (λ n f. absurd (omega (arith, ap length f.each_field)))
number_after_decided word least most (a ∷ b ∷ []) small = elim (bytes_decided a word) [
  | inr differs ↦ inr (λ n f. differs (head_same f.each_field))
  | inl same ↦ elim (number_field_decided least most b small) [
    | inl found ↦ inl (found.0, record { range = found.1.range; each_field = both same found.1.is_text })
    | inr none ↦ inr (λ n f. none n (record { range = f.range; is_text = head_same (tail_same f.each_field) }))
  ]
]
  where
    both : {a b x y : List ℕ} → a ≡ b → x ≡ y → a ∷ x ∷ [] ≡ b ∷ y ∷ []
    both one two = cc
number_after_decided word least most (a ∷ b ∷ c ∷ more) small =
    inr (λ n f. absurd (omega (arith, ap length f.each_field)))

task_fields_decided : (fields : List (List ℕ)) → ((added : TaskData) × IsTaskFields fields added)
    ⊎ ((added : TaskData) → IsTaskFields fields added → ⊥)
task_fields_decided [] = inr (λ added f. let e = f.each_field in cc)
task_fields_decided (a ∷ []) = inr (λ added f. absurd (omega (arith, ap length f.each_field)))
task_fields_decided (a ∷ b ∷ []) = inr (λ added f. absurd (omega (arith, ap length f.each_field)))
task_fields_decided (a ∷ b ∷ c ∷ []) = inr (λ added f. absurd (omega (arith, ap length f.each_field)))
task_fields_decided (a ∷ b ∷ c ∷ d ∷ []) = elim (bytes_decided a (codes "task")) [
  | inr differs ↦ inr (λ added f. differs (head_same f.each_field))
  | inl same ↦ elim (field_decided b) [
    | inr bad ↦ inr (λ added f. bad (subst IsField (sym (head_same (tail_same f.each_field))) f.name))
    | inl field ↦ elim (number_field_decided 0 4294967295 c (lit< tt)) [
      | inr none ↦ inr (λ added f. let small = f.priority in none added.priority
          (record { range = (omega arith, omega arith); is_text = head_same (tail_same (tail_same f.each_field)) }))
      | inl priority ↦ elim (list_field_decided d) [
        | inr none ↦ inr (λ added f. none added.mask (task_list (a ∷ b ∷ c ∷ d ∷ []) a b c d added refl f))
        | inl mask ↦ inl (
          new_task b priority.0 mask.0,
          task_form (a ∷ b ∷ c ∷ d ∷ []) a b c d b priority.0
              mask.0 refl refl same field priority.1 mask.1,
        )
      ]
    ]
  ]
]
task_fields_decided (a ∷ b ∷ c ∷ d ∷ e ∷ more) = inr (λ added f. absurd (omega (arith, ap length f.each_field)))

-- ---- contexts

-- eleven fields, or another number of them
eleven_decided : (fields : List (List ℕ))
    → ((a : List ℕ) × (b : List ℕ) × (c : List ℕ) × (d : List ℕ) × (e : List ℕ) × (f : List ℕ) × (g : List ℕ)
    × (h : List ℕ) × (i : List ℕ) × (j : List ℕ) × (k : List ℕ)
    × (fields ≡ a ∷ b ∷ c ∷ d ∷ e ∷ f ∷ g ∷ h ∷ i ∷ j ∷ k ∷ [])) ⊎ (length fields ≡ 11 → ⊥)
eleven_decided (a ∷ b ∷ c ∷ d ∷ e ∷ f ∷ g ∷ h ∷ i ∷ j ∷ k ∷ []) = inl (a, b, c, d, e, f, g, h, i, j, k, refl)
eleven_decided fields = inr (λ same. omega (arith, same))

-- the numbers of a context, or one that is none
context_numbers : (t : ℕ) (units stints moves last trail : List ℕ)
    → ((context : Context) × (IsContextOf t context × AreSaid units stints moves last trail context))
    ⊎ ((context : Context) → IsContextOf t context → AreSaid units stints moves last trail context → ⊥)
context_numbers t units stints moves last trail = elim (number_field_decided 0 18446744073709551615 units (lit< tt)) [
  | inr none ↦ inr (λ context of said. none context.units (wide units context.units of.units said.units_are))
  | inl u ↦ elim (number_field_decided 0 18446744073709551615 stints (lit< tt)) [
    | inr none ↦ inr (λ context of said. none context.stints (wide stints context.stints of.stints said.stints_are))
    | inl s ↦ elim (number_field_decided 0 18446744073709551615 moves (lit< tt)) [
      | inr none ↦ inr (λ context of said. none context.moves (wide moves context.moves of.moves said.moves_are))
      | inl m ↦ elim (last_field_decided last) [
        | inr none ↦ inr (λ context of said. none context.last (record { processor = of.last; is_text = said.last_is }))
        | inl l ↦ elim (number_field_decided 0 18446744073709551615 trail (lit< tt)) [
          | inr none ↦ inr (λ context of said. none context.trail (wide trail context.trail of.trail said.trail_is))
          | inl r ↦ inl (
            record { task = t; units = u.0; stints = s.0; moves = m.0; last = l.0; trail = r.0 },
            (
              record {
                task = refl;
                units = wide_below u.0 u.1.range.1;
                stints = wide_below s.0 s.1.range.1;
                moves = wide_below m.0 m.1.range.1;
                last = l.1.processor;
                trail = wide_below r.0 r.1.range.1;
              },
              record {
                units_are = u.1.is_text;
                stints_are = s.1.is_text;
                moves_are = m.1.is_text;
                last_is = l.1.is_text;
                trail_is = r.1.is_text;
              },
            ),
          )
        ]
      ]
    ]
  ]
]

context_decided : (set : SetData) (t : ℕ) (fields : List (List ℕ)) → ((context : Context) × IsContextFields set t fields context)
    ⊎ ((context : Context) → IsContextFields set t fields context → ⊥)
context_decided set t fields = elim (eleven_decided fields) [
  | inr other ↦ inr (λ context is. other (ap length is.each_field))
  | inl (a, b, c, d, e, f, g, h, i, j, k, eleven) ↦ elim (both_decided (bytes_decided a (name_of set t))
      (both_decided (bytes_decided b (codes "units")) (both_decided (bytes_decided d (codes "stints"))
      (both_decided (bytes_decided f (codes "moves")) (both_decided (bytes_decided h (codes "last"))
      (bytes_decided j (codes "trail"))))))) [
        | inr differ ↦ inr (λ context is.
            let named = context_named set context fields a b c d e f g h i j k eleven is.each_field in
            let words = named.1 in
            differ (named.0 ∙ ap (name_of set) is.of_task.task, (words.0, (words.1, (words.2, (words.3, words.4))))))
        | inl named ↦ elim (context_numbers t c e g i k) [
          | inr none ↦ inr (λ context is. none context is.of_task
              (context_said set context fields a b c d e f g h i j k eleven is.each_field))
          | inl found ↦ inl (
            found.0,
            record {
              of_task = found.1.0;
              each_field = context_from_said set found.0 fields a b c d e f g h i j k eleven
                  (named.0 ∙ ap (name_of set) (sym found.1.0.task))
                  (named.1.0, named.1.1.0, named.1.1.1.0, named.1.1.1.1.0, named.1.1.1.1.1) found.1.1;
            },
          )
        ]
      ]
]

-- ---- one line

less_decided : (m n : ℕ) → (m < n) ⊎ (m < n → ⊥)
less_decided m n = elim (cases_lt m n) [ inl less ↦ inl less | inr more ↦ inr (λ less. omega (arith, less, more)) ]

-- a number after a word has one outcome
number_outcome : (word : List ℕ) (least most : ℕ) (next : ℕ → Progress) (fields : List (List ℕ)) → most < 2 ^ 64
    → IsDecided (IsNumberOutcome word least most next fields)
number_outcome word least most next fields small =
    reading (number_after_decided word least most fields small) (number_after_once word least most fields small)
    (λ n f. only _) (only _)

add_outcome : (version : ℕ) (set : SetData) (added : TaskData) → IsTaskSet set → IsDecided (IsAddOutcome version set added)
add_outcome version set added valid =
    allowing (can_add_decided set added valid) (λ fault other is also. same_refusal set added fault other valid is also)
    (λ fault can refused. CanAdd-IsRefusal set added fault can refused) (λ can. only _) (λ fault refused. only _)

task_outcome : (version : ℕ) (set : SetData) (fields : List (List ℕ)) → IsTaskSet set → IsDecided (IsTaskOutcome version set fields)
task_outcome version set fields valid =
    reading (number_after_decided (codes "history") 0 20000 fields (lit< tt))
    (number_after_once (codes "history") 0 20000 fields (lit< tt)) (λ count f. only _)
    (reading (task_fields_decided fields) (task_once fields) (λ added f. add_outcome version set added valid) (only _))

entry_outcome : (version : ℕ) (set : SetData) (count : ℕ) (entries : List Entry) (fields : List (List ℕ)) → IsTaskSet set
    → IsDecided (IsEntryOutcome version set count entries fields)
entry_outcome version set count entries fields valid =
    judging (entry_decided version set fields valid) (λ one other is also. entry_once version set fields one other valid is also)
    (entry_fault_once version set fields) (entry_no_fault version set fields valid) (λ entry f. only _) (λ kind f. only _)

context_outcome : (version : ℕ) (set : SetData) (entries : List Entry) (contexts : List Context) (fields : List (List ℕ))
    → IsDecided (IsContextOutcome version set entries contexts fields)
context_outcome version set entries contexts fields =
    reading (context_decided set (length contexts) fields) (λ one other is also.
    context_once set (length contexts) one other is.of_task also.of_task (sym is.each_field ∙ also.each_field))
    (λ context f. only _) (only _)

-- a line has one outcome
pub line_decided : (expected : Progress) (text : List ℕ) → IsPrefix expected → IsDecided (IsOutcome expected text)
line_decided HeaderExpected text prefix =
    number_outcome (codes "schedule") 1 2 ProcessorsExpected (spaced_fields_of text) (lit< tt)
line_decided (ProcessorsExpected version) text prefix =
    number_outcome (codes "processors") 1 64 (λ m. TasksExpected version (record { processors = m; tasks = [] }))
    (spaced_fields_of text) (lit< tt)
line_decided (TasksExpected version set) text prefix = task_outcome version set (spaced_fields_of text) prefix.0.valid
line_decided (EntriesExpected version set count entries) text prefix =
    choice (less_decided (length entries) count)
    (λ room. entry_outcome version set count entries (spaced_fields_of text) prefix.0.valid)
    (λ full. choice (bytes_decided text (codes "contexts " ++ canonical_number (length set.tasks)))
    (λ form. only _) (λ differs. only _))
line_decided (ContextsExpected version set entries contexts) text prefix =
    choice (less_decided (length contexts) (length set.tasks))
    (λ room. context_outcome version set entries contexts (spaced_fields_of text))
    (λ full. choice (bytes_decided text (codes "end")) (λ is. only _) (λ differs. only _))
line_decided (Ended version set entries contexts) text prefix = only _
