-- The history of a run of jobs can be written, and a checker accepts each entry of it and has its contexts.
use Rattle.std.proofs.Common.{◌≡◌, ℕ, zero, suc, ◌+◌, ◌<◌, ◌≤◌, ◌^◌, List, [], ◌∷◌, ◌++◌, length, get_or, take, All, Some, sym, ap, ◌∙◌}
use Rattle.std.proofs.Common.{subst, inl, inr, arith}
use Rattle.std.specs.Prelude.{slice_get, slice_index}
use Rattle.std.proofs.lemmas.Bool.{cases_lt}
use Rattle.std.proofs.lemmas.List.{take_more, take_all, get_or-map}
use Rattle.std.proofs.lemmas.Option.{slice_get_within, get_or_from_slice_get}
use Rattle.task_set.specs.TaskSet.{SetData, TaskData, priorities}
use Rattle.task_set.specs.Event.{IsOfVersion}
use Rattle.task_set.specs.declared.context.Context.{Context}
use Rattle.task_set.specs.declared.event.Event.{Event}
use Rattle.task_set.specs.declared.event.Event.TheVariants.{Arrive, Depart, Tick, Affinity, Offline, Online}
use Rattle.strong_apa.specs.declared.reply.Entry.{Entry}
use Rattle.strong_apa.specs.History.{effect_of, state_after}
use Rattle.strong_apa.specs.Passing.{Passes, IsPassingFrom}
use Rattle.strong_apa.specs.State.{State, start_of}
use Rattle.strong_apa.specs.Dispatch.{contexts_of}
use Rattle.text_fields.specs.LineText.{PrioritiesFit}
use Rattle.job_release.specs.Driven.{IsJobEvent, RunsJobs}
use Rattle.job_release.specs.JobInput.{JobInputData, IsJobInput}
use Rattle.job_release.specs.JobRun.{CanBeWritten}
use Rattle.reach_certificate.specs.Checker.{CheckerData}
use Rattle.schedule_text.specs.Schedule.{ScheduleData, IsSchedule}
use Rattle.schedule_text.specs.ScheduleText.{IsEntryOf, IsEntryOfVersion}
use Rattle.commands.specs.Checking.{HasFollowed}
use Rattle.commands.specs.ScheduleLaws.{IsWritableHistory}
use Rattle.commands.specs.Valid.{schedule_of}
use Rattle.commands.proofs.LegalSchedules.{legal_is_valid}

-- ---- the history of a run
-- the first version has the events of jobs
of_first : (event : Event) → IsJobEvent event → IsOfVersion 1 event
of_first (Arrive t) is = tt
of_first (Depart t) is = tt
of_first (Tick units) is = tt
of_first (Affinity t mask) is = absurd is
of_first (Offline p) is = absurd is
of_first (Online p) is = absurd is

pub run_is_writable : (input : JobInputData) (history : List Entry) → IsJobInput input → PrioritiesFit input.set
    → length history ≤ 20000 → RunsJobs input history → CanBeWritten history → IsWritableHistory 1 input.set history
run_is_writable input history valid fit few runs writable = record {
  known = (omega arith, omega arith);
  tasks = record { valid = valid.valid; priorities = fit };
  few = few;
  posted = λ k d within. (
    (let caller = writable.callers k d within in omega arith),
    writable.units k d within,
    of_first (get_or history k d).event (runs.events k d within),
  );
  legal = runs.legal;
}

-- ---- what can be written of a schedule
pub entries_known : (schedule : ScheduleData) → IsSchedule schedule → All (IsEntryOf schedule.set) schedule.entries
entries_known schedule ok k d within = (ok.each_entry k d within).tasks

pub entries_of_version : (schedule : ScheduleData) → IsSchedule schedule → All (IsEntryOfVersion schedule.version) schedule.entries
entries_of_version schedule ok k d within = (ok.each_entry k d within).of_version

pub contexts_known : (schedule : ScheduleData) → IsSchedule schedule
    → All (λ (context : Context). context.task < length schedule.set.tasks) schedule.contexts
contexts_known schedule ok t context within =
    let task = (ok.in_order t context within).task in
    let each = ok.one_each in
    omega (arith, task, each, within)

-- ---- the checker
-- entry n of a history whose replies pass passes after those before it
passes_at : (s : State) (entries : List Entry) (n : ℕ) (entry : Entry) → IsPassingFrom s entries → slice_get entries n ≡ Some entry
    → Passes (state_after s (take n entries)) entry.event entry.reply
passes_at s [] n entry passing there =
    absurd (let none : List Entry = [] in let lt : n < 0 = slice_get_within none n entry there in omega arith)
passes_at s (first ∷ rest) zero entry passing there =
    let same : first ≡ entry = get_or_from_slice_get (first ∷ rest) 0 entry entry there in
    subst (λ (e : Entry). Passes s e.event e.reply) same passing.0
passes_at s (first ∷ rest) (suc n) entry passing there = passes_at (effect_of s first) rest n entry passing.1 there

-- it has followed so many entries of such a history: the next one passes
pub next_passes : (set : SetData) (history : List Entry) (n : ℕ) (entry : Entry) (checker : CheckerData) → IsWritableHistory 1 set history
    → slice_get history n ≡ Some entry → HasFollowed (schedule_of 1 set history) n checker → Passes checker.links entry.event entry.reply
next_passes set history n entry checker writable there followed =
    let passing = (legal_is_valid 1 set history writable).1.passing in
    subst (λ (s : State). Passes s entry.event entry.reply) (sym followed.links)
    (passes_at (start_of set) history n entry passing there)

-- its contexts after all entries are those of the history
pub contexts_after : (set : SetData) (history : List Entry) (checker : CheckerData)
    → HasFollowed (schedule_of 1 set history) (length history) checker → checker.contexts ≡ contexts_of set history
contexts_after set history checker followed = followed.contexts ∙ ap (contexts_of set) (take_all (length history) history (omega arith))

-- one context more
pub contexts_more : (contexts : List Context) (t : ℕ) (context : Context) → slice_get contexts t ≡ Some context
    → take (t + 1) contexts ≡ take t contexts ++ context ∷ []
contexts_more contexts t context there =
    take_more contexts t context (slice_get_within contexts t context there)
    ∙ ap (λ (c : Context). take t contexts ++ c ∷ []) (get_or_from_slice_get contexts t context context there)

-- ---- priorities
-- one priority more that fits
pub priorities_more : (set : SetData) (t priority : ℕ) → t < length set.tasks → priority ≡ slice_index (priorities set) t
    → priority < 2 ^ 32
    → ((k : ℕ) (task : TaskData) → k < t → (get_or set.tasks k task).priority < 2 ^ 32)
    → (k : ℕ) (task : TaskData) → k < t + 1 → (get_or set.tasks k task).priority < 2 ^ 32
priorities_more set t priority within is small before k task below = elim (cases_lt k t) [
  | inl earlier ↦ before k task earlier
  | inr last ↦ (
      let here : t ≡ k = omega arith in
      let same : priority ≡ (get_or set.tasks t task).priority =
      is ∙ get_or-map (λ (one : TaskData). one.priority) set.tasks t task 0 within in
      subst (λ (n : ℕ). (get_or set.tasks n task).priority < 2 ^ 32) here (omega arith))
]
