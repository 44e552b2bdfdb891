-- The fields of each line come to one outcome.
use Rattle.std.proofs.Common.{◌≡◌, ℕ, zero, suc, ◌<◌, ◌≤◌, ◌⊎◌, List, [], ◌∷◌, length, codes, sym, ap, ◌∙◌, subst, inl, inr, refl, arith}
use Rattle.std.proofs.lemmas.Bool.{cases_eq, cases_lt}
use Rattle.affinity_mask.proofs.TextCases.{text_list_or_fault}
use Rattle.affinity_mask.proofs.ListTexts.{list_text-one_set, list_text-one_fault, list_text-no_fault}
use Rattle.task_set.specs.TaskSet.{SetData, IsTaskSet}
use Rattle.task_set.specs.Refusal.{IsNameOf, IsLeastOutside, new_task}
use Rattle.task_set.proofs.Refusals.{CanAdd-IsRefusal, same_refusal}
use Rattle.task_set.specs.declared.event.Event.{Event}
use Rattle.task_set.specs.declared.event.Event.TheVariants as event
use Rattle.text_fields.specs.Number.{IsNumberWithin}
use Rattle.text_fields.specs.EventText.{IsAboutSet}
use Rattle.text_fields.specs.Choice.{IsDecided, IsOnly, IsReading}
use Rattle.text_fields.specs.Machine.{Leads, Fails}
use Rattle.text_fields.specs.Form.{Fields, IsExact, AnyField, One, First, Row, NoRow}
use Rattle.text_fields.proofs.Choices.{only, choice, reading, judging, allowing}
use Rattle.text_fields.proofs.Decisions.{bytes_decided, number_within_decided}
use Rattle.text_fields.proofs.Addable.{name_decided, can_add_decided}
use Rattle.text_fields.proofs.NamedTasks.{same_name, name_not_new}
use Rattle.text_fields.proofs.Forms.{exact-same, any_field, exact-one, exact-first, exact-when, exact-row, no_row, begins_decided}
use Rattle.trace_reader.specs.declared.posted.Posted.{Posted}
use Rattle.trace_reader.specs.declared.fault.InputKind.{InputKind}
use Rattle.trace_reader.specs.InputText.{IsProcessorNumber, IsEventFields, end_line}
use Rattle.trace_reader.specs.Progress.{Progress, HeaderExpected, ProcessorsExpected, Listed, Ended, Expects}
use Rattle.trace_reader.specs.LineOutcome.{itself, NamedTask, IsNamedTask, NamedEvent, Arrive, Depart, Tick, Affinity, Offline, Online}
use Rattle.trace_reader.specs.LineOutcome.{NamedLine, named_line, IsNamedEvent, IsNamedLine, IsForTask, HasOutside, LineOutcome, IsAdded}
use Rattle.trace_reader.specs.LineOutcome.{IsTaskOutcome, IsPlaced, IsKnownTask, IsLookedUp, IsEventOutcome, IsFieldsOutcome}
use Rattle.trace_reader.specs.Reading.{IsExpected}
use Rattle.trace_reader.proofs.AboutSet.{about_decided}
use Rattle.trace_reader.proofs.Rows.{IsNamed, of_rows}

-- ---- the fields
number_within : (least most : ℕ) → IsExact (IsNumberWithin least most)
number_within least most = record { once = λ text n k is also. sym is.0.1 ∙ also.0.1; decided = number_within_decided least most }

processor_decided : (m : ℕ) (number : List ℕ) → ((p : ℕ) × IsProcessorNumber m number p)
    ⊎ ((p : ℕ) → IsProcessorNumber m number p → ⊥)
processor_decided zero number = inr (λ p within. let below : p < 0 = within.1 in omega arith)
processor_decided (suc n) number = elim (number_within_decided 0 n number) [
  | inl found ↦ (
      let most : found.0 ≤ n = found.1.2 in
      inl (found.0, (found.1.0, omega arith)))
  | inr none ↦ inr (λ p within. let below : p < suc n = within.1 in none p (within.0, omega arith, omega arith))
]

processor : (m : ℕ) → IsExact (IsProcessorNumber m)
processor m = record { once = λ text p q is also. sym is.0.1 ∙ also.0.1; decided = processor_decided m }

-- ---- the lines
abbrev same_number : ℕ → ℕ
same_number n = n

-- a word and a number between two bounds
worded : (word : List ℕ) (least most : ℕ)
    → IsExact (λ (fields : Fields) (n : ℕ). (number : List ℕ) × (fields ≡ word ∷ number ∷ []) × IsNumberWithin least most number n)
worded word least most = exact-same to from (exact-row word (exact-one same_number (number_within least most)) no_row)
  where
    IsWorded : Fields → ℕ → Type 0
    IsWorded = Row word (One same_number (IsNumberWithin least most)) NoRow

    to : (fields : Fields) (n : ℕ) → IsWorded fields n → (number : List ℕ) × (fields ≡ word ∷ number ∷ [])
        × IsNumberWithin least most number n
    to fields n (inl (rest, e, (text, k, e', is, made))) = (text, cc, subst (IsNumberWithin least most text) (sym made) is)
    to fields n (inr (_, none)) = absurd none

    from : (fields : Fields) (n : ℕ) → (number : List ℕ) × (fields ≡ word ∷ number ∷ []) × IsNumberWithin least most number n
        → IsWorded fields n
    from fields n (text, e, is) = rw e (inl (text ∷ [], refl, (text, n, refl, is, refl)))

abbrev with_priority : ℕ → List ℕ → ℕ × List ℕ
with_priority priority list = (priority, list)

abbrev named_task : List ℕ → ℕ × List ℕ → NamedTask
named_task name rest = record { name = name; priority = rest.0; list = rest.1 }

named_tasks : IsExact IsNamedTask
named_tasks = exact-same to from
    (exact-row (codes "task") (exact-first named_task any_field
    (exact-first with_priority (number_within 0 4294967295) (exact-one itself any_field))) no_row)
  where
    IsRow : Fields → NamedTask → Type 0
    IsRow = Row (codes "task") (First named_task AnyField (First with_priority (IsNumberWithin 0 4294967295) (One itself AnyField))) NoRow

    to : (fields : Fields) (task : NamedTask) → IsRow fields task → IsNamedTask fields task
    to fields task (inl (
      rest,
      e,
      (
        f,
        r,
        name,
        both,
        e1,
        any1,
        (number, r2, priority, list, e2, is, (g, same, e3, any3, made3), made2),
        made1,
      ),
    )) =
        rw (made1, made2) (record { number = number; each_field = cc; value = is })
    to fields task (inr (_, none)) = absurd none

    from : (fields : Fields) (task : NamedTask) → IsNamedTask fields task → IsRow fields task
    from fields task form = rw form.each_field (inl (
      _,
      refl,
      (
        _,
        _,
        task.name,
        (task.priority, task.list),
        refl,
        refl,
        (form.number, _, task.priority, task.list, refl, form.value, (_, task.list, refl, refl, refl), refl),
        refl,
      ),
    ))

named_event : (version m : ℕ) → IsExact (IsNamedEvent version m)
named_event version m =
    let second = cases_eq version 2 in
    exact-row (codes "arrive") (exact-one Arrive any_field)
    (exact-row (codes "depart") (exact-one Depart any_field)
    (exact-row (codes "tick") (exact-one Tick (number_within 1 1000000))
    (exact-row (codes "affinity") (exact-when second (exact-first Affinity any_field (exact-one itself any_field)))
    (exact-row (codes "offline") (exact-when second (exact-one Offline (processor m)))
    (exact-row (codes "online") (exact-when second (exact-one Online (processor m))) no_row)))))

named : (version m : ℕ) → IsExact (IsNamedLine version m)
named version m = exact-first named_line (number_within 0 15) (named_event version m)

-- ---- what they come to
worded_outcome : (word : List ℕ) (least most : ℕ) (fields : Fields) (next : ℕ → Progress) (kind : InputKind)
    → IsDecided (IsReading (λ n. (number : List ℕ) × (fields ≡ word ∷ number ∷ []) × IsNumberWithin least most number n)
    (λ n. IsOnly (Leads (next n))) (IsOnly (Fails kind)))
worded_outcome word least most fields next kind =
    let form = worded word least most in
    reading (form.decided fields) (form.once fields) (λ n is. only _) (only _)

added : (version : ℕ) (set : SetData) (task : NamedTask) (mask : ℕ) → IsTaskSet set → IsDecided (IsAdded version set task mask)
added version set task mask valid =
    let next = new_task task.name task.priority mask in
    allowing (can_add_decided set next valid) (λ fault other is also. same_refusal set next fault other valid is also)
    (λ fault can is. CanAdd-IsRefusal set next fault can is) (λ can. only _) (λ fault is. only _)

task_outcome : (version : ℕ) (set : SetData) (fields : List (List ℕ)) → IsTaskSet set → IsDecided (IsTaskOutcome version set fields)
task_outcome version set fields valid =
    let form = named_tasks in
    reading (form.decided fields) (form.once fields)
    (λ task is. judging (text_list_or_fault task.list) (list_text-one_set task.list) (list_text-one_fault task.list)
    (list_text-no_fault task.list) (λ mask is_list. added version set task mask valid) (λ fault bad. only _)) (only _)

least_once : (m mask p q : ℕ) → IsLeastOutside m mask p → IsLeastOutside m mask q → p ≡ q
least_once m mask p q one two =
    let low : p ≤ q = one.least q two.member two.outside in
    let high : q ≤ p = two.least p one.member one.outside in
    omega arith

outside_once : (set : SetData) (e : Event) (p q : ℕ) → HasOutside set e p → HasOutside set e q → p ≡ q
outside_once set (event.Affinity t mask) p q one two = least_once set.processors mask p q one two
outside_once set _ p q one two = absurd one

about_not_outside : (set : SetData) (e : Event) (p : ℕ) → IsAboutSet set e → HasOutside set e p → ⊥
about_not_outside set (event.Affinity t mask) p about outside =
    let below = about.1.below p outside.member in
    let from : set.processors ≤ p = outside.outside in
    omega arith
about_not_outside set _ p about outside = outside

lt_decided : (a b : ℕ) → (a < b) ⊎ (a < b → ⊥)
lt_decided a b = elim (cases_lt a b) [ inl below ↦ inl below | inr from ↦ inr (λ below. omega arith) ]

placed : (version : ℕ) (set : SetData) (events : List Posted) (stream : ℕ) (rest : List (List ℕ)) (e : Event)
    → IsEventFields set rest e → IsDecided (IsPlaced version set events stream e)
placed version set events stream rest e says =
    choice (lt_decided (length events) 20000)
    (λ room. allowing (about_decided set rest e says) (outside_once set e) (λ p about outside. about_not_outside set e p about outside)
    (λ about. only _) (λ p outside. only _)) (λ full. only _)

known_name_decided : (set : SetData) (name : List ℕ) → ((t : ℕ) × IsNameOf set t name) ⊎ ((t : ℕ) → IsNameOf set t name → ⊥)
known_name_decided set name = elim (name_decided set name) [
  | inl found ↦ inl found
  | inr new ↦ inr (λ t is. name_not_new set t name name refl is new)
]

known : (set : SetData) (name : List ℕ) (Then : ℕ → LineOutcome → Type 0) → IsTaskSet set
    → ((t : ℕ) → IsNameOf set t name → IsDecided (Then t)) → IsDecided (IsKnownTask set name Then)
known set name Then valid then =
    reading (known_name_decided set name) (λ t u is also. same_name set valid t u name name refl is also) then (only _)

looked_up : (version : ℕ) (set : SetData) (Then : Event → LineOutcome → Type 0) (rest : List (List ℕ)) → IsTaskSet set
    → ((e : Event) → IsEventFields set rest e → IsDecided (Then e))
    → (named : NamedEvent) → IsNamed version set.processors rest named → IsDecided (IsLookedUp set Then named)
looked_up version set Then rest valid then (Arrive name) e = known set name _ valid (λ t is. then (event.Arrive t) (name, e, is))
looked_up version set Then rest valid then (Depart name) e = known set name _ valid (λ t is. then (event.Depart t) (name, e, is))
looked_up version set Then rest valid then (Tick n) says = then (event.Tick n) says
looked_up version set Then rest valid then (Affinity name list) (second, e) =
    judging (text_list_or_fault list) (list_text-one_set list) (list_text-one_fault list) (list_text-no_fault list)
    (λ mask is_list. known set name _ valid (λ t is. then (event.Affinity t mask) (name, list, e, is, is_list))) (λ fault is. only _)
looked_up version set Then rest valid then (Offline p) (second, says) = then (event.Offline p) says
looked_up version set Then rest valid then (Online p) (second, says) = then (event.Online p) says

event_outcome : (version : ℕ) (set : SetData) (events : List Posted) (fields : List (List ℕ)) → IsTaskSet set
    → IsDecided (IsEventOutcome version set events fields)
event_outcome version set events fields valid =
    let form = named version set.processors in
    reading (form.decided fields) (form.once fields) (λ line is. by line is) (only _)
  where
    by : (line : NamedLine) → IsNamedLine version set.processors fields line
        → IsDecided (IsLookedUp set (IsPlaced version set events line.stream) line.event)
    by line (text, rest, stream, e, same, number, says, made) =
        looked_up version set (IsPlaced version set events line.stream) rest valid
        (λ e says. placed version set events line.stream rest e says) line.event
        (of_rows version set.processors rest line.event
        (subst (λ (l : NamedLine). IsNamedEvent version set.processors rest l.event) (sym made) says))

end_decided : (fields : List (List ℕ)) → (fields ≡ end_line) ⊎ (fields ≡ end_line → ⊥)
end_decided (word ∷ []) = elim (bytes_decided word (codes "end")) [
  | inl same ↦ inl (ap (λ (first : List ℕ). first ∷ []) same)
  | inr differs ↦ inr (λ e. differs (cc))
]
end_decided fields = inr (λ e. cc)

for_task_decided : (events : List Posted) (fields : List (List ℕ)) → IsForTask events fields ⊎ (IsForTask events fields → ⊥)
for_task_decided [] fields = elim (begins_decided (codes "task") fields) [
  | inl begins ↦ inl (refl, begins)
  | inr other ↦ inr (λ task. other task.1)
]
for_task_decided (first ∷ events) fields = inr (λ task. let e = task.0 in cc)

-- the set that was listed so far is valid
abbrev IsValidProgress : Progress → Type 0
IsValidProgress HeaderExpected = Unit {0}
IsValidProgress (ProcessorsExpected version) = Unit {0}
IsValidProgress (Listed version set events) = IsTaskSet set
IsValidProgress (Ended version set events) = IsTaskSet set

expects_valid : (said : List (List (List ℕ))) (expected : Progress) → Expects said expected → IsValidProgress expected
expects_valid said HeaderExpected expects = tt
expects_valid said (ProcessorsExpected version) expects = tt
expects_valid said (Listed version set events) expects = expects.valid
expects_valid said (Ended version set events) expects = expects.2.valid

-- what a line comes to is decided
valid_decided : (expected : Progress) (fields : List (List ℕ)) → IsValidProgress expected → IsDecided (IsFieldsOutcome expected fields)
valid_decided HeaderExpected fields valid = worded_outcome (codes "apa") 1 2 fields _ _
valid_decided (ProcessorsExpected version) fields valid = worded_outcome (codes "processors") 1 64 fields _ _
valid_decided (Listed version set events) fields valid =
    choice (end_decided fields) (λ end. only _)
    (λ not_end. choice (for_task_decided events fields) (λ task. task_outcome version set fields valid)
    (λ other. event_outcome version set events fields valid))
valid_decided (Ended version set events) fields valid = only _

pub fields_decided : (expected : Progress) (fields : Fields) → IsExpected expected → IsDecided (IsFieldsOutcome expected fields)
fields_decided expected fields (said, expects) = valid_decided expected fields (expects_valid said expected expects)
