-- A line comes to one outcome, which leads from an input to an input; so a text has one answer.
use Rattle.std.proofs.Common.{◌≡◌, ℕ, ◌<◌, ◌≤◌, List, length, Option, Some, None, nat_eq, refl, sym, ap, ◌∙◌, subst, inl, inr, arith}
use Rattle.std.specs.Option.{IfSome}
use Rattle.std.proofs.lemmas.Bool.{cases_Bool}
use Rattle.std.proofs.lemmas.List.Elements.{All-nil}
use Rattle.task_set.specs.Name.{IsName}
use Rattle.task_set.specs.TaskSet.{TaskData, IsMask}
use Rattle.task_set.specs.Refusal.{new_task}
use Rattle.text_fields.specs.Number.{IsNumberOf}
use Rattle.text_fields.proofs.NamedTasks.{named_task}
use Rattle.job_release.specs.JobInput.{JobInputData, IsJobInput, IsJobTask, IsJob, AreJobs, without_tasks, with_jobs, with_job}
use Rattle.job_release.specs.JobText.{IsWorded, TaskLine, AreTimes, AreTimesOf, IsTaskForm, JobLine, IsDeadline, SaysJob, IsJobForm}
use Rattle.job_release.specs.JobText.{max_horizon, Progress, HeaderExpected, ProcessorsExpected, HorizonExpected, Listed, Ended}
use Rattle.job_release.specs.JobText.{LineOutcome, jobs_of_times, IsAddOutcome, IsTaskLineOutcome, IsOrderOutcome, IsJobLineOutcome}
use Rattle.job_release.specs.JobText.{IsListedOutcome, IsWordedOutcome, IsOutcome, IsEndOutcome}
use Rattle.text_fields.specs.Machine.{Outcome, Leads, Fails}
use Rattle.job_release.specs.Reading.{IsSoundSoFar, IsVersion}
use Rattle.job_release.specs.declared.fault.JobKind.{JobKind}
use Rattle.job_release.specs.declared.fault.JobKind.TheVariants.{BadMask, TaskRefused}
use Rattle.job_release.specs.declared.input.Job.{Job}
use Rattle.job_release.specs.declared.input.JobTask.{JobTask}
use Rattle.job_release.proofs.Inputs.{valid_with_jobs, valid_with_job, jobs_of_times_valid}

-- ---- one outcome
same_number : (text other : List ℕ) (n k : ℕ) → text ≡ other → IsNumberOf text n → IsNumberOf other k → n ≡ k
same_number text other n k same one another = let e = one.1 in let e' = another.1 in cc

pub same_worded : (word : List ℕ) (least most n k : ℕ) (fields : List (List ℕ)) → IsWorded word least most n fields
    → IsWorded word least most k fields → n ≡ k
same_worded word least most n k fields one two =
    let e = one.1 in let e' = two.1 in
    let numbers : one.0 ≡ two.0 = cc in
    same_number one.0 two.0 n k numbers one.2.0 two.2.0

-- the fields of a task line say one line
same_job_task : (offset period cost offset' period' cost' : List ℕ) (job other : JobTask) → offset ≡ offset' → period ≡ period'
    → cost ≡ cost'
    → AreTimes offset period cost job → AreTimes offset' period' cost' other → job ≡ other
same_job_task offset period cost offset' period' cost' job other same_offset same_period same_cost one two =
    let offsets = same_number offset offset' job.offset other.offset same_offset one.offset_is.0 two.offset_is.0 in
    let periods = same_number period period' job.period other.period same_period one.period_is.0 two.period_is.0 in
    let costs = same_number cost cost' job.cost other.cost same_cost one.cost_is.0 two.cost_is.0 in
    let made : ℕ → ℕ → ℕ → JobTask = λ first every each. record { offset = first; period = every; cost = each } in
    let same : made job.offset job.period job.cost ≡ made other.offset other.period other.cost = rw (offsets, periods, costs) refl in
    same

same_times : (version : ℕ) (fields rest : List (List ℕ)) (times other : Option JobTask) → fields ≡ rest → AreTimesOf version fields times
    → AreTimesOf version rest other
    → times ≡ other
same_times version fields rest None None same one two = refl
same_times version fields rest None (Some job) same one two = let e = one.0 in let e' = two.0 in absurd (omega arith)
same_times version fields rest (Some job) None same one two = let e = one.0 in let e' = two.0 in absurd (omega arith)
same_times version fields rest (Some job) (Some other) same (is, (offset, period, cost, cut, one))
    (is', (offset', period', cost', cut', two)) =
    ap Some (same_job_task offset period cost offset' period' cost' job other (cc) (cc) (cc) one two)

pub same_line : (version : ℕ) (fields : List (List ℕ)) (line other : TaskLine) → IsTaskForm version fields line
    → IsTaskForm version fields other → line ≡ other
same_line version fields line other one two =
    let e = one.each_field in let e' = two.each_field in
    let names : line.name ≡ other.name = cc in
    let lists : line.list ≡ other.list = cc in
    let priorities = same_number one.priority two.priority line.priority other.priority (cc) one.priority_is.0 two.priority_is.0 in
    let times = same_times version one.rest two.rest line.times other.times (cc) one.times two.times in
    let made : List ℕ → ℕ → List ℕ → Option JobTask → TaskLine =
    λ name priority list times. record { name = name; priority = priority; list = list; times = times } in
    let same : made line.name line.priority line.list line.times ≡ made other.name other.priority other.list other.times =
    rw (names, priorities, lists, times) refl in
    same

-- the fields of a job line say one line
same_deadline : (fields rest : List (List ℕ)) (deadline other : Option ℕ) → fields ≡ rest → IsDeadline fields deadline
    → IsDeadline rest other → deadline ≡ other
same_deadline fields rest None None same one two = refl
same_deadline fields rest None (Some n) same one (number, cut, is) = cc
same_deadline fields rest (Some n) None same (number, cut, is) two = cc
same_deadline fields rest (Some n) (Some k) same (number, cut, is) (text, cut', is') = ap Some (same_number number text n k (cc) is.0 is'.0)

pub same_job_line : (horizon : ℕ) (fields : List (List ℕ)) (line other : JobLine) → IsJobForm horizon fields line
    → IsJobForm horizon fields other → line ≡ other
same_job_line horizon fields line other one two =
    let e = one.each_field in let e' = two.each_field in
    let names : line.name ≡ other.name = cc in
    let job = one.job_is in let job' = two.job_is in
    let releases = same_number one.release two.release line.job.release other.job.release (cc) job.release_is.0 job'.release_is.0 in
    let costs = same_number one.cost two.cost line.job.cost other.job.cost (cc) job.cost_is.0 job'.cost_is.0 in
    let deadlines = same_deadline one.rest two.rest line.job.deadline other.job.deadline (cc) job.deadline_is job'.deadline_is in
    let made : List ℕ → ℕ → ℕ → Option ℕ → JobLine =
    λ name release cost deadline. record { name = name; job = record { release = release; cost = cost; deadline = deadline } } in
    let same : made line.name line.job.release line.job.cost line.job.deadline
    ≡ made other.name other.job.release other.job.cost other.job.deadline =
    rw (names, releases, costs, deadlines) refl in
    same

-- ---- a line leads from an input to an input
within_horizon : (version horizon : ℕ) → horizon ≤ max_horizon version → horizon ≤ 10000000
within_horizon version horizon within = elim (cases_Bool (nat_eq version 1)) [
  | inl first ↦ (let most : horizon ≤ 1000000 = rw first at within in omega arith)
  | inr last ↦ rw last at within
]

valid_without_tasks : (version m horizon : ℕ) → IsVersion version → (1 ≤ m) × (m ≤ 64) → (1 ≤ horizon) × (horizon ≤ max_horizon version)
    → IsJobInput (without_tasks version m horizon)
valid_without_tasks version m horizon one_or_two processors within = record {
  valid = record {
    processors = processors;
    count = omega arith;
    names = All-nil (λ (task : TaskData). IsName task.name);
    differ = λ i j d lt below. absurd (omega arith);
    masks = All-nil (λ (task : TaskData). IsMask m task.mask);
  };
  version = one_or_two;
  horizon = (within.0, within_horizon version horizon within.1);
  one_each = refl;
  each_jobs = All-nil (AreJobs horizon);
  few = omega arith;
}

times_valid : (offset period cost : List ℕ) (job : JobTask) → AreTimes offset period cost job → IsJobTask job
times_valid offset period cost job times = record {
  offset = times.offset_is.2;
  period = (times.period_is.1, times.period_is.2);
  cost = (times.cost_is.1, times.cost_is.2);
}

pub each_times_valid : (version : ℕ) (fields : List (List ℕ)) (times : Option JobTask) → AreTimesOf version fields times
    → IfSome times IsJobTask
each_times_valid version fields None are = tt
each_times_valid version fields (Some job) (is, (offset, period, cost, cut, are)) = times_valid offset period cost job are

deadline_valid : (fields : List (List ℕ)) (deadline : Option ℕ) → IsDeadline fields deadline
    → IfSome deadline (λ d. (1 ≤ d) × (d ≤ 10000000))
deadline_valid fields None is = tt
deadline_valid fields (Some n) (number, cut, is) = (is.1, is.2)

pub job_valid : (horizon : ℕ) (release cost : List ℕ) (rest : List (List ℕ)) (job : Job) → 1 ≤ horizon
    → SaysJob horizon release cost rest job → IsJob horizon job
job_valid horizon release cost rest job some says = record {
  release = (let below = says.release_is.2 in omega arith);
  cost = (says.cost_is.1, says.cost_is.2);
  deadline = deadline_valid rest job.deadline says.deadline_is;
}

-- the progress to which an outcome leads
same_next : (one two : Progress) → ◌≡◌ {A = LineOutcome} (Leads one) (Leads two) → one ≡ two
same_next one two e = cc

lead_valid : (next found : Progress) → ◌≡◌ {A = LineOutcome} (Leads next) (Leads found) → IsSoundSoFar found → IsSoundSoFar next
lead_valid next found e valid = subst IsSoundSoFar (sym (same_next next found e)) valid

fails_not_leads : {A : Type 0} (next : Progress) (kind : JobKind) → ◌≡◌ {A = LineOutcome} (Leads next) (Fails kind) → A
fails_not_leads next kind e = cc

add_valid : (input : JobInputData) (fields : List (List ℕ)) (line : TaskLine) (mask : ℕ) (next : Progress) → IsJobInput input
    → IsTaskForm input.version fields line → IsAddOutcome input line mask (Leads next) → IsSoundSoFar next
add_valid input fields line mask next valid form (inr refused) = fails_not_leads next (TaskRefused refused.0) refused.2
add_valid input fields line mask next valid form (inl (can, inr many)) = fails_not_leads next _ many.1
add_valid input fields line mask next valid form (inl (can, inl few)) =
    let task = new_task line.name line.priority mask in
    let jobs = jobs_of_times input.horizon line.times in
    lead_valid next (Listed (with_jobs input task jobs)) few.1
    (valid_with_jobs input task jobs valid can
    (jobs_of_times_valid input.horizon line.times valid.horizon.1 (each_times_valid input.version form.rest line.times form.times))
    few.0)

task_line_valid : (input : JobInputData) (fields : List (List ℕ)) (next : Progress) → IsJobInput input
    → IsTaskLineOutcome input fields (Leads next) → IsSoundSoFar next
task_line_valid input fields next valid (inl (line, form, inr bad)) = fails_not_leads next (BadMask bad.0) bad.2
task_line_valid input fields next valid (inl (line, form, inl task)) = add_valid input fields line task.0 next valid form task.2
task_line_valid input fields next valid (inr none) = fails_not_leads next _ none.1

order_valid : (input : JobInputData) (t : ℕ) (job : Job) (next : Progress) → IsJobInput input → t < length input.set.tasks
    → IsJob input.horizon job
    → IsOrderOutcome input t job (Leads next) → IsSoundSoFar next
order_valid input t job next valid within is (inr backward) = fails_not_leads next _ backward.1
order_valid input t job next valid within is (inl (order, inr many)) = fails_not_leads next _ many.1
order_valid input t job next valid within is (inl (order, inl room)) =
    lead_valid next (Listed (with_job input t job)) room.1 (valid_with_job input t job valid within is order room.0)

job_line_valid : (input : JobInputData) (fields : List (List ℕ)) (next : Progress) → IsJobInput input
    → IsJobLineOutcome input fields (Leads next) → IsSoundSoFar next
job_line_valid input fields next valid (inr none) = fails_not_leads next _ none.1
job_line_valid input fields next valid (inl (line, form, inr unknown)) = fails_not_leads next _ unknown.1
job_line_valid input fields next valid (inl (line, form, inl (t, named, order))) =
    order_valid input t line.job next valid (named_task input.set t line.name named).0
    (job_valid input.horizon form.release form.cost form.rest line.job valid.horizon.0 form.job_is) order

listed_valid : (input : JobInputData) (fields : List (List ℕ)) (next : Progress) → IsJobInput input
    → IsListedOutcome input fields (Leads next) → IsSoundSoFar next
listed_valid input fields next valid (inl end) = lead_valid next (Ended input) end.1 valid
listed_valid input fields next valid (inr (not_end, inl task)) = task_line_valid input fields next valid task.1
listed_valid input fields next valid (inr (not_end, inr job)) = job_line_valid input fields next valid job.1

worded_valid : (Is : ℕ → Type 0) (to : ℕ → Progress) (kind : JobKind) (next : Progress) → ((n : ℕ) → Is n → IsSoundSoFar (to n))
    → IsWordedOutcome Is to kind (Leads next) → IsSoundSoFar next
worded_valid Is to kind next valid (inl found) = lead_valid next (to found.0) found.2 (valid found.0 found.1)
worded_valid Is to kind next valid (inr none) = fails_not_leads next kind none.1

pub outcome_valid : (expected : Progress) (fields : List (List ℕ)) (next : Progress) → IsSoundSoFar expected
    → IsOutcome expected fields (Leads next) → IsSoundSoFar next
outcome_valid HeaderExpected fields next valid comes = worded_valid _ _ _ next (λ n is. (is.2.1, is.2.2)) comes
outcome_valid (ProcessorsExpected version) fields next valid comes = worded_valid _ _ _ next (λ n is. (valid, is.2.1, is.2.2)) comes
outcome_valid (HorizonExpected version m) fields next valid comes =
    worded_valid _ _ _ next (λ n is. valid_without_tasks version m n valid.0 (valid.1, valid.2) (is.2.1, is.2.2)) comes
outcome_valid (Listed input) fields next valid comes = listed_valid input fields next valid comes
outcome_valid (Ended input) fields next valid comes = fails_not_leads next _ comes

-- ---- one outcome of the end
pub end_once : (expected : Progress) (outcome other : Outcome JobInputData JobKind) → IsSoundSoFar expected → IsEndOutcome expected outcome
    → IsEndOutcome expected other → outcome ≡ other
end_once HeaderExpected outcome other valid one two = one ∙ sym two
end_once (ProcessorsExpected version) outcome other valid one two = one ∙ sym two
end_once (HorizonExpected version m) outcome other valid one two = one ∙ sym two
end_once (Listed input) outcome other valid one two = one ∙ sym two
end_once (Ended input) outcome other valid one two = one ∙ sym two
