-- Each line comes to an outcome, and so each text is that of an input or is refused.
use Rattle.std.proofs.Common.{◌≡◌, ◌≢◌, ℕ, ◌-◌, ◌<◌, ◌≤◌, ◌⊎◌, true, List, [], ◌∷◌, codes, Option, Some, None, refl, sym, ap, subst, inl}
use Rattle.std.proofs.Common.{inr, arith}
use Rattle.std.proofs.lemmas.Bool.{cases_eq, cases_lt}
use Rattle.affinity_mask.proofs.TextCases.{text_list_or_fault}
use Rattle.task_set.specs.TaskSet.{SetData, IsTaskSet}
use Rattle.task_set.specs.Refusal.{new_task, IsNameOf}
use Rattle.text_fields.specs.Number.{IsNumberWithin}
use Rattle.text_fields.proofs.Addable.{can_add_decided, name_decided}
use Rattle.text_fields.proofs.NamedTasks.{same_name, name_not_new}
use Rattle.text_fields.proofs.Decisions.{bytes_decided, number_within_decided}
use Rattle.text_fields.specs.Choice.{IsDecided}
use Rattle.text_fields.proofs.Choices.{only, choice, reading, judging, allowing}
use Rattle.text_fields.specs.Lines.{lines_of}
use Rattle.affinity_mask.proofs.ListTexts.{list_text-one_set, list_text-one_fault, list_text-no_fault}
use Rattle.task_set.proofs.Refusals.{CanAdd-IsRefusal, same_refusal}
use Rattle.text_fields.proofs.LineRule.{lines_machine}
use Rattle.job_release.specs.JobFault.{job_kind}
use Rattle.text_fields.specs.Machine.{Outcome, Leads, Fails, IsMachine}
use Rattle.text_fields.proofs.TextLaws.{one_value, ends_valid}
use Rattle.job_release.specs.JobInput.{JobInputData, IsJobInput, total_jobs, without_tasks}
use Rattle.job_release.specs.JobText.{IsWorded, TaskLine, AreTimes, AreTimeFields, AreTimesOf, IsTaskForm, JobLine, IsDeadline, SaysJob}
use Rattle.job_release.specs.JobText.{IsJobForm, end_line, max_horizon, Progress, HeaderExpected, ProcessorsExpected, HorizonExpected}
use Rattle.job_release.specs.JobText.{Listed, Ended, BeginsTask, IsForTask, IsCountOutcome, IsAddOutcome, IsTaskOutcome, IsJobOutcome}
use Rattle.job_release.specs.JobText.{IsListedOutcome, IsWordedOutcome, IsOutcome, IsEndOutcome}
use Rattle.job_release.specs.TextLaws.{TextHasOneInput, TextIsOfValidInput}
use Rattle.job_release.specs.Reading.{IsSoundSoFar, IsVersion}
use Rattle.job_release.specs.declared.fault.JobKind.{JobKind}
use Rattle.job_release.specs.declared.fault.JobKind.TheVariants.{BadHeader, BadProcessors, BadHorizon, NoEnd}
use Rattle.job_release.specs.declared.input.Job.{Job}
use Rattle.job_release.specs.declared.input.JobTask.{JobTask}
use Rattle.job_release.proofs.Outcomes.{same_worded, same_line, same_job_line, outcome_valid, end_once}

-- ---- the forms of lines
worded_decided : (word : List ℕ) (least most : ℕ) (fields : List (List ℕ))
    → ((n : ℕ) × IsWorded word least most n fields) ⊎ ((n : ℕ) → IsWorded word least most n fields → ⊥)
worded_decided word least most (first ∷ number ∷ []) = elim (bytes_decided first word) [
  | inr differs ↦ inr (λ n is. let e = is.1 in differs (cc))
  | inl same ↦ elim (number_within_decided least most number) [
    | inl found ↦ inl (found.0, (number, ap (λ (text : List ℕ). text ∷ number ∷ []) same, found.1))
    | inr none ↦ inr (λ n is. let e = is.1 in none n (subst (λ (text : List ℕ). IsNumberWithin least most text n) (cc) is.2))
  ]
]
worded_decided word least most fields = inr (λ n is. let e = is.1 in cc)

times_decided : (offset period cost : List ℕ) → ((job : JobTask) × AreTimes offset period cost job)
    ⊎ ((job : JobTask) → AreTimes offset period cost job → ⊥)
times_decided offset period cost = elim (number_within_decided 0 1000000 offset) [
  | inr none ↦ inr (λ job times. none job.offset times.offset_is)
  | inl first ↦ elim (number_within_decided 1 1000000 period) [
    | inr none ↦ inr (λ job times. none job.period times.period_is)
    | inl every ↦ elim (number_within_decided 1 1000000 cost) [
      | inr none ↦ inr (λ job times. none job.cost times.cost_is)
      | inl each ↦ inl (
        record { offset = first.0; period = every.0; cost = each.0 },
        record { offset_is = first.1; period_is = every.1; cost_is = each.1 },
      )
    ]
  ]
]

-- three fields, or another number of them
other : (fields : List (List ℕ)) {job : JobTask} → AreTimeFields fields job
    → ((first every each : List ℕ) → fields ≡ first ∷ every ∷ each ∷ [] → ⊥) → ⊥
other fields (first, every, each, cut, are) never = never first every each cut

pub no_time_fields : (fields : List (List ℕ)) (offset period cost : List ℕ) → fields ≡ offset ∷ period ∷ cost ∷ []
    → ((job : JobTask) → AreTimes offset period cost job → ⊥)
    → (job : JobTask) → AreTimeFields fields job → ⊥
no_time_fields fields offset period cost same none job (first, every, each, cut, are) =
    let offsets : first ≡ offset = cc in
    let periods : every ≡ period = cc in
    let costs : each ≡ cost = cc in
    none job (rw (offsets, periods, costs) at are)

time_fields_decided : (fields : List (List ℕ)) → ((job : JobTask) × AreTimeFields fields job)
    ⊎ ((job : JobTask) → AreTimeFields fields job → ⊥)
time_fields_decided (offset ∷ period ∷ cost ∷ []) = elim (times_decided offset period cost) [
  | inl times ↦ inl (times.0, (offset, period, cost, refl, times.1))
  | inr none ↦ inr (no_time_fields _ offset period cost refl none)
]
time_fields_decided [] = inr (λ job are. other [] are (λ first every each cut. cc))
time_fields_decided (a ∷ []) = inr (λ job are. other (a ∷ []) are (λ first every each cut. cc))
time_fields_decided (a ∷ b ∷ []) = inr (λ job are. other (a ∷ b ∷ []) are (λ first every each cut. cc))
time_fields_decided (a ∷ b ∷ c ∷ d ∷ rest) = inr (λ job are. other (a ∷ b ∷ c ∷ d ∷ rest) are (λ first every each cut. cc))

nothing_decided : (fields : List (List ℕ)) → (fields ≡ []) ⊎ (fields ≡ [] → ⊥)
nothing_decided [] = inl refl
nothing_decided (first ∷ rest) = inr (λ e. cc)

pub no_times_of : (version : ℕ) (fields : List (List ℕ)) → ((job : JobTask) → version ≡ 1 → AreTimeFields fields job → ⊥)
    → (version ≡ 2 → fields ≡ [] → ⊥)
    → (times : Option JobTask) → AreTimesOf version fields times → ⊥
no_times_of version fields some none None are = none are.0 are.1
no_times_of version fields some none (Some job) are = some job are.0 are.1

times_of_decided : (version : ℕ) (fields : List (List ℕ)) → IsVersion version
    → ((times : Option JobTask) × AreTimesOf version fields times) ⊎ ((times : Option JobTask) → AreTimesOf version fields times → ⊥)
times_of_decided version fields within = elim (cases_eq version 1) [
  | inl first ↦ elim (time_fields_decided fields) [
    | inl found ↦ inl (Some found.0, (first, found.1))
    | inr fails ↦ inr (no_times_of version fields (λ job is are. fails job are) (λ is none. omega (arith, first, is)))
  ]
  | inr other ↦ elim (nothing_decided fields) [
    | inl none ↦ inl (None, (last_version version within other, none))
    | inr some ↦ inr (no_times_of version fields (λ job is are. other is) (λ is none. some none))
  ]
]
  where
    last_version : (version : ℕ) → IsVersion version → version ≢ 1 → version ≡ 2
    last_version version within other = let low = within.0 in let high = within.1 in grind arith

task_form_decided : (version : ℕ) (fields : List (List ℕ)) → IsVersion version
    → ((line : TaskLine) × IsTaskForm version fields line) ⊎ ((line : TaskLine) → IsTaskForm version fields line → ⊥)
task_form_decided version (word ∷ name ∷ priority ∷ list ∷ rest) within = elim (bytes_decided word (codes "task")) [
  | inr differs ↦ inr (λ line form. let e = form.each_field in differs (cc))
  | inl same ↦ elim (number_within_decided 0 4294967295 priority) [
    | inr none ↦ inr (λ line form. let e = form.each_field in
        none line.priority (subst (λ (text : List ℕ). IsNumberWithin 0 4294967295 text line.priority) (cc) form.priority_is))
    | inl urgency ↦ elim (times_of_decided version rest within) [
      | inr none ↦ inr (λ line form. let e = form.each_field in
          none line.times (subst (λ (fields : List (List ℕ)). AreTimesOf version fields line.times) (cc) form.times))
      | inl times ↦ inl (
        record { name = name; priority = urgency.0; list = list; times = times.0 },
        record {
          priority = priority;
          rest = rest;
          each_field = ap (λ (first : List ℕ). first ∷ name ∷ priority ∷ list ∷ rest) same;
          priority_is = urgency.1;
          times = times.1;
        },
      )
    ]
  ]
]
task_form_decided version fields within = inr (λ line form. let e = form.each_field in cc)

deadline_decided : (fields : List (List ℕ)) → ((deadline : Option ℕ) × IsDeadline fields deadline)
    ⊎ ((deadline : Option ℕ) → IsDeadline fields deadline → ⊥)
deadline_decided [] = inl (None, refl)
deadline_decided (number ∷ []) = elim (number_within_decided 1 10000000 number) [
  | inl found ↦ inl (Some found.0, (number, refl, found.1))
  | inr none ↦ inr (no_deadline number none)
]
  where
    no_deadline : (number : List ℕ) → ((n : ℕ) → IsNumberWithin 1 10000000 number n → ⊥) → (deadline : Option ℕ)
        → IsDeadline (number ∷ []) deadline → ⊥
    no_deadline number none None is = let e = is in cc
    no_deadline number none (Some n) is = let e = is.1 in none n (subst (λ (text : List ℕ). IsNumberWithin 1 10000000 text n) (cc) is.2)
deadline_decided (first ∷ second ∷ rest) = inr many
  where
    many : (deadline : Option ℕ) → IsDeadline (first ∷ second ∷ rest) deadline → ⊥
    many None is = let e = is in cc
    many (Some n) is = let e = is.1 in cc

says_job_decided : (horizon : ℕ) (release cost : List ℕ) (rest : List (List ℕ))
    → ((job : Job) × SaysJob horizon release cost rest job) ⊎ ((job : Job) → SaysJob horizon release cost rest job → ⊥)
says_job_decided horizon release cost rest = elim (number_within_decided 0 (horizon - 1) release) [
  | inr none ↦ inr (λ job says. none job.release says.release_is)
  | inl moment ↦ elim (number_within_decided 1 10000000 cost) [
    | inr none ↦ inr (λ job says. none job.cost says.cost_is)
    | inl units ↦ elim (deadline_decided rest) [
      | inr none ↦ inr (λ job says. none job.deadline says.deadline_is)
      | inl end ↦ inl (
        record { release = moment.0; cost = units.0; deadline = end.0 },
        record { release_is = moment.1; cost_is = units.1; deadline_is = end.1 },
      )
    ]
  ]
]

job_form_decided : (horizon : ℕ) (fields : List (List ℕ)) → ((line : JobLine) × IsJobForm horizon fields line)
    ⊎ ((line : JobLine) → IsJobForm horizon fields line → ⊥)
job_form_decided horizon (word ∷ name ∷ release ∷ cost ∷ rest) = elim (bytes_decided word (codes "job")) [
  | inr differs ↦ inr (λ line form. let e = form.each_field in differs (cc))
  | inl same ↦ elim (says_job_decided horizon release cost rest) [
    | inr none ↦ inr (λ line form.
        let e = form.each_field in
        let releases : form.release ≡ release = cc in
        let costs : form.cost ≡ cost = cc in
        let rests : form.rest ≡ rest = cc in
        none line.job (rw (releases, costs, rests) at form.job_is))
    | inl job ↦ inl (
      record { name = name; job = job.0 },
      record {
        release = release;
        cost = cost;
        rest = rest;
        each_field = ap (λ (first : List ℕ). first ∷ name ∷ release ∷ cost ∷ rest) same;
        job_is = job.1;
      },
    )
  ]
]
job_form_decided horizon fields = inr (λ line form. let e = form.each_field in cc)

begins_task_decided : (fields : List (List ℕ)) → BeginsTask fields ⊎ (BeginsTask fields → ⊥)
begins_task_decided [] = inr (λ begins. let e = begins.1 in cc)
begins_task_decided (word ∷ rest) = elim (bytes_decided word (codes "task")) [
  | inl same ↦ inl (rest, ap (λ (first : List ℕ). first ∷ rest) same)
  | inr differs ↦ inr (λ begins. let e = begins.1 in differs (cc))
]

for_task_decided : (input : JobInputData) (fields : List (List ℕ)) → IsForTask input fields ⊎ (IsForTask input fields → ⊥)
for_task_decided input fields = elim (cases_eq input.version 1) [
  | inl first ↦ inl (inl first)
  | inr other ↦ elim (cases_eq (total_jobs input.jobs) 0) [
    | inr some ↦ inr (not_for_task input fields other (λ none begins. some none))
    | inl none ↦ elim (begins_task_decided fields) [
      | inl begins ↦ inl (inr (none, begins))
      | inr fails ↦ inr (not_for_task input fields other (λ none begins. fails begins))
    ]
  ]
]
  where
    not_for_task : (input : JobInputData) (fields : List (List ℕ)) → input.version ≢ 1 → (total_jobs input.jobs ≡ 0 → BeginsTask fields → ⊥)
        → IsForTask input fields → ⊥
    not_for_task input fields other none (inl first) = other first
    not_for_task input fields other none (inr later) = none later.0 later.1

end_decided : (fields : List (List ℕ)) → (fields ≡ end_line) ⊎ (fields ≡ end_line → ⊥)
end_decided (word ∷ []) = elim (bytes_decided word (codes "end")) [
  | inl same ↦ inl (ap (λ (first : List ℕ). first ∷ []) same)
  | inr differs ↦ inr (λ e. differs (cc))
]
end_decided fields = inr (λ e. cc)

-- ---- what a line comes to
le_decided : (a b : ℕ) → (a ≤ b) ⊎ (a ≤ b → ⊥)
le_decided a b = elim (cases_lt b a) [
  | inl above ↦ inr (λ within. omega arith)
  | inr within ↦ inl within
]

worded : (word : List ℕ) (least most : ℕ) (fields : List (List ℕ)) (next : ℕ → Progress) (kind : JobKind)
    → IsDecided (IsWordedOutcome (λ n. IsWorded word least most n fields) next kind)
worded word least most fields next kind =
    reading (worded_decided word least most fields) (λ n k. same_worded word least most n k fields) (λ n is. only _) (only _)

counted : (input : JobInputData) (line : TaskLine) (mask : ℕ) → IsDecided (IsCountOutcome input line mask)
counted input line mask = choice (le_decided _ 4000) (λ few. only _) (λ many. only _)

added : (input : JobInputData) (line : TaskLine) (mask : ℕ) → IsTaskSet input.set → IsDecided (IsAddOutcome input line mask)
added input line mask valid =
    let task = new_task line.name line.priority mask in
    allowing (can_add_decided input.set task valid) (λ fault other is also. same_refusal input.set task fault other valid is also)
    (λ fault can is. CanAdd-IsRefusal input.set task fault can is) (λ can. counted input line mask) (λ fault is. only _)

listed_task : (input : JobInputData) (line : TaskLine) → IsTaskSet input.set → IsDecided (IsTaskOutcome input line)
listed_task input line valid =
    judging (text_list_or_fault line.list) (list_text-one_set line.list) (list_text-one_fault line.list) (list_text-no_fault line.list)
    (λ mask is. added input line mask valid) (λ fault is. only _)

known_name_decided : (set : SetData) (name : List ℕ) → ((t : ℕ) × IsNameOf set t name) ⊎ ((t : ℕ) → IsNameOf set t name → ⊥)
known_name_decided set name = elim (name_decided set name) [
  | inl found ↦ inl found
  | inr new ↦ inr (λ t named. name_not_new set t name name refl named new)
]

listed_job : (input : JobInputData) (line : JobLine) → IsTaskSet input.set → IsDecided (IsJobOutcome input line)
listed_job input line valid =
    reading (known_name_decided input.set line.name) (λ t u is also. same_name input.set valid t u line.name line.name refl is also)
    (λ t is. choice (le_decided _ _) (λ order. choice (lt_decided _ 4000) (λ room. only _) (λ many. only _)) (λ backward. only _)) (only _)
  where
    lt_decided : (a b : ℕ) → (a < b) ⊎ (a < b → ⊥)
    lt_decided a b = elim (cases_lt a b) [
      | inl below ↦ inl below
      | inr from ↦ inr (λ below. omega arith)
    ]

listed : (input : JobInputData) (fields : List (List ℕ)) → IsJobInput input → IsDecided (IsListedOutcome input fields)
listed input fields valid =
    choice (end_decided fields) (λ end. only _)
    (λ not_end. choice (for_task_decided input fields)
    (λ task. reading (task_form_decided input.version fields valid.version) (same_line input.version fields)
    (λ line is. listed_task input line valid.valid) (only _))
    (λ job. reading (job_form_decided input.horizon fields) (same_job_line input.horizon fields)
    (λ line is. listed_job input line valid.valid) (only _)))

fields_decided : (expected : Progress) (fields : List (List ℕ)) → IsSoundSoFar expected → IsDecided (IsOutcome expected fields)
fields_decided HeaderExpected fields valid = worded (codes "jobs") 1 2 fields ProcessorsExpected BadHeader
fields_decided (ProcessorsExpected version) fields valid = worded (codes "processors") 1 64 fields (HorizonExpected version) BadProcessors
fields_decided (HorizonExpected version m) fields valid =
    worded (codes "horizon") 1 (max_horizon version) fields (λ horizon. Listed (without_tasks version m horizon)) BadHorizon
fields_decided (Listed input) fields valid = listed input fields valid
fields_decided (Ended input) fields valid = only _

end_comes : (expected : Progress) → (outcome : Outcome JobInputData JobKind) × IsEndOutcome expected outcome
end_comes HeaderExpected = (Fails NoEnd, refl)
end_comes (ProcessorsExpected version) = (Fails NoEnd, refl)
end_comes (HorizonExpected version m) = (Fails NoEnd, refl)
end_comes (Listed input) = (Fails NoEnd, refl)
end_comes (Ended input) = (Leads input, refl)

-- ---- the machine
pub job_machine : IsMachine HeaderExpected IsSoundSoFar IsOutcome IsEndOutcome
job_machine = record {
  starts = tt;
  keeps = outcome_valid;
  one_outcome = λ expected fields outcome other valid. (let decided = fields_decided expected fields valid in decided.one outcome other);
  some_outcome = λ expected fields valid. (let decided = fields_decided expected fields valid in decided.some);
  one_end = end_once;
  some_end = λ expected valid. end_comes expected;
}

-- ---- the input of a text
input_at_end : (last : Progress) (input : JobInputData) → IsSoundSoFar last → IsEndOutcome last (Leads input) → IsJobInput input
input_at_end HeaderExpected input valid e = let f : ◌≡◌ {A = Outcome JobInputData JobKind} (Leads input) (Fails NoEnd) = e in cc
input_at_end (ProcessorsExpected version) input valid e =
    let f : ◌≡◌ {A = Outcome JobInputData JobKind} (Leads input) (Fails NoEnd) = e in cc
input_at_end (HorizonExpected version m) input valid e =
    let f : ◌≡◌ {A = Outcome JobInputData JobKind} (Leads input) (Fails NoEnd) = e in cc
input_at_end (Listed other) input valid e = let f : ◌≡◌ {A = Outcome JobInputData JobKind} (Leads input) (Fails NoEnd) = e in cc
input_at_end (Ended other) input valid e = let same : input ≡ other = cc in subst IsJobInput (sym same) valid

pub text_has_one_input : TextHasOneInput
text_has_one_input = one_value (lines_machine 4096 true job_kind job_machine) lines_of

pub text_is_of_valid_input : TextIsOfValidInput
text_is_of_valid_input bytes input is =
    let last = ends_valid (lines_machine 4096 true job_kind job_machine) lines_of bytes input is in
    input_at_end last.0 input last.1 last.2
