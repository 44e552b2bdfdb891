-- The best set of each moment follows from what is ready, and what is ready from the service so far. So the service is a function of
-- the input, and so is the text.
use Rattle.std.proofs.Common.{◌≡◌, ℕ, zero, suc, ◌+◌, ◌<◌, ◌≤◌, Bool, true, false, List, [], ◌∷◌, length, take, nat_le, Option, All, refl}
use Rattle.std.proofs.Common.{sym, ap, ◌∙◌, subst, inl, inr, arith}
use Rattle.std.specs.List.{flat_map, range_with_len}
use Rattle.std.proofs.lemmas.Bool.{cases_Bool, cases_lt}
use Rattle.std.proofs.lemmas.List.{length-map}
use Rattle.std.proofs.lemmas.List.Elements.{All-head, All-tail, All-take}
use Rattle.task_set.specs.Event.{IsOfVersion}
use Rattle.task_set.specs.TaskSet.{TaskData}
use Rattle.task_set.specs.declared.event.Event.{Event}
use Rattle.task_set.specs.declared.event.Event.TheVariants.{Arrive, Depart, Tick, Affinity, Offline, Online}
use Rattle.strong_apa.specs.declared.reply.Entry.{Entry}
use Rattle.strong_apa.specs.State.{State, IsState, HasSameTasks, HasSameMasks, start_of, task_count, is_ready, is_linked}
use Rattle.strong_apa.specs.History.{state_after, effect_of}
use Rattle.strong_apa.specs.Placement.{TaskTest, IsBest}
use Rattle.strong_apa.proofs.BestOnce.{best_is_unique}
use Rattle.strong_apa.proofs.Histories.{IsState-state_at}
use Rattle.strong_apa.proofs.SameTasks.{same_tasks-history, same_count, reply_keeps_masks}
use Rattle.strong_apa.proofs.Unique.{ready_number}
use Rattle.strong_apa.proofs.Counts.{count_below-more, count_below-same}
use Rattle.strong_apa.proofs.SameBest.{IsBest-same}
use Rattle.job_release.specs.Jobs.{job_at, goal_of}
use Rattle.job_release.specs.JobInput.{JobInputData, IsJobInput, jobs_at}
use Rattle.text_fields.specs.EventText.{name_of}
use Rattle.job_release.specs.Driven.{RunsJobs, RunsTheBest, IsJobEvent}
use Rattle.job_release.specs.JobsText.{first_upto, job_line, line_of_job, lines_of_task, jobs_text}
use Rattle.job_release.specs.Laws.{InputHasOneService, InputHasOneText}
use Rattle.job_release.specs.Moments.{Timeline, changes_by, state_of_moment, service_of}
use Rattle.job_release.proofs.Moments.{no_service, state_by_entries}

-- ---- what stays in a run
of_first_version : (event : Event) → IsJobEvent event → IsOfVersion 1 event
of_first_version (Arrive t) is = tt
of_first_version (Depart t) is = tt
of_first_version (Tick units) is = tt
of_first_version (Affinity t mask) is = absurd is
of_first_version (Offline p) is = absurd is
of_first_version (Online p) is = absurd is

same_masks : (s : State) (history : List Entry) → All (λ (entry : Entry). IsJobEvent entry.event) history
    → HasSameMasks s (state_after s history)
same_masks s [] events = record { masks = refl; online = refl }
same_masks s (first ∷ rest) events =
    let here = reply_keeps_masks s first.event first.reply
    (of_first_version first.event (All-head (λ (entry : Entry). IsJobEvent entry.event) first rest events)) in
    let later = same_masks (effect_of s first) rest (All-tail (λ (entry : Entry). IsJobEvent entry.event) first rest events) in
    record { masks = later.masks ∙ here.masks; online = later.online ∙ here.online }

pub same_answer : (a b : Bool) → (a ≡ true → b ≡ true) → (b ≡ true → a ≡ true) → a ≡ b
same_answer true true to from = refl
same_answer true false to from = sym (to refl)
same_answer false true to from = from refl
same_answer false false to from = refl

-- ---- a run at a moment
module _ (input : JobInputData) (valid : IsJobInput input) where
  abbrev pub start : State
  start = start_of input.set

  module _ (history : List Entry) (runs : RunsJobs input history) (x : ℕ) where
    pub tasks_at : HasSameTasks start (state_of_moment start history x)
    tasks_at = same_tasks-history start (changes_by x 0 history)

    pub masks_at : HasSameMasks start (state_of_moment start history x)
    masks_at =
        let prefix = state_by_entries start history x 0 in
        subst (HasSameMasks start) (sym prefix.2)
        (same_masks start (take prefix.0 history) (All-take (λ (entry : Entry). IsJobEvent entry.event) prefix.0 history runs.events))

    -- what is best at the moment is best at the start
    pub best_at_start : (ready : TaskTest) → ((t : ℕ) → is_ready (state_of_moment start history x) t ≡ ready t)
        → RunsTheBest (state_of_moment start history x) → IsBest start ready (is_linked (state_of_moment start history x))
    best_at_start ready agree best =
        let now = state_of_moment start history x in
        IsBest-same start now tasks_at masks_at (is_ready now) ready (is_linked now) (is_linked now) agree (λ t. refl) best

    -- only a task of the input is ready
    pub none_beyond : (t : ℕ) → length input.jobs ≤ t → is_ready (state_of_moment start history x) t ≡ false
    none_beyond t beyond = elim (cases_Bool (is_ready (state_of_moment start history x) t)) [
      | inr absent ↦ absent
      | inl ready ↦ (
          let prefix = state_by_entries start history x 0 in
          let ok : IsState (state_of_moment start history x) = subst IsState (sym prefix.2)
          (IsState-state_at input.set history prefix.0 valid.valid runs.legal) in
          let below = ready_number (state_of_moment start history x) ok t ready in
          let count = same_count start (state_of_moment start history x) tasks_at in
          let all : task_count start ≡ length input.set.tasks = length-map input.set.tasks (λ (task : TaskData). task.priority) in
          let each = valid.one_each in
          absurd (omega arith))
    ]

  module _ (one other : List Entry) (runs : RunsJobs input one) (also : RunsJobs input other) where
    -- after the same service the same tasks are ready
    one_ready : (x : ℕ) → x < input.horizon → ((t : ℕ) → t < length input.jobs → service_of (state_of_moment start one) t x
        ≡ service_of (state_of_moment start other) t x)
        → (t : ℕ) → is_ready (state_of_moment start one x) t ≡ is_ready (state_of_moment start other x) t
    one_ready x below same t = elim (cases_lt t (length input.jobs)) [
      | inr beyond ↦ none_beyond one runs x t beyond ∙ sym (none_beyond other also x t beyond)
      | inl number ↦ (
          let service = same t number in
          let here = runs.served.ready t x number below in
          let there = also.served.ready t x number below in
          same_answer _ _ (λ ready. there.1 (let less = here.0 ready in omega arith))
          (λ ready. here.1 (let less = there.0 ready in omega arith)))
    ]

    -- and the same tasks are linked
    one_linked : (x : ℕ) → x < input.horizon → ((t : ℕ) → is_ready (state_of_moment start one x) t
        ≡ is_ready (state_of_moment start other x) t)
        → (t : ℕ) → is_linked (state_of_moment start one x) t ≡ is_linked (state_of_moment start other x) t
    one_linked x below agree t =
        let ready = is_ready (state_of_moment start other x) in
        best_is_unique start ready (is_linked (state_of_moment start one x)) (is_linked (state_of_moment start other x)) numbers
        (best_at_start one runs x ready agree (runs.best x below)) (best_at_start other also x ready (λ u. refl) (also.best x below)) t
      where
        numbers : (u : ℕ) → is_ready (state_of_moment start other x) u ≡ true → u < task_count start
        numbers u is = elim (cases_lt u (length input.jobs)) [
          | inl number ↦ (
              let all : task_count start ≡ length input.set.tasks = length-map input.set.tasks (λ (task : TaskData). task.priority) in
              let each = valid.one_each in
              omega arith)
          | inr beyond ↦ absurd (let none = none_beyond other also x u beyond in cc)
        ]

    one_service : (x : ℕ) → x ≤ input.horizon → (t : ℕ) → t < length input.jobs → service_of (state_of_moment start one) t x
        ≡ service_of (state_of_moment start other) t x
    one_service zero within t number = no_service (state_of_moment start one) t ∙ sym (no_service (state_of_moment start other) t)
    one_service (suc x) within t number =
        let before = one_service x (omega arith) in
        let linked = one_linked x (omega arith) (one_ready x (omega arith) before) t in
        elim (cases_Bool (is_linked (state_of_moment start one x) t)) [
          | inl here ↦
              count_below-more (λ y. is_linked (state_of_moment start one y) t) x here ∙ ap (λ (n : ℕ). suc n) (before t number)
              ∙ sym (count_below-more (λ y. is_linked (state_of_moment start other y) t) x (sym linked ∙ here))
          | inr here ↦
              count_below-same (λ y. is_linked (state_of_moment start one y) t) x here ∙ before t number
              ∙ sym (count_below-same (λ y. is_linked (state_of_moment start other y) t) x (sym linked ∙ here))
        ]

-- ---- the text
pub same_first : (test other : ℕ → Bool) (n : ℕ) → ((x : ℕ) → x ≤ n → test x ≡ other x) → first_upto test n ≡ first_upto other n
unfolding first_upto
same_first test other zero agree = rw (agree 0 (omega arith)) refl
same_first test other (suc n) agree = rw (same_first test other n (λ x within. agree x (omega arith)), agree (suc n) (omega arith)) refl

same_pieces : (f g : ℕ → List ℕ) (a n : ℕ) → ((k : ℕ) → k < a + n → f k ≡ g k) → flat_map f (range_with_len a n)
    ≡ flat_map g (range_with_len a n)
same_pieces f g a zero agree = refl
same_pieces f g a (suc n) agree =
    rw (agree a (omega arith), same_pieces f g (a + 1) n (λ k below. agree k (omega arith))) refl

one_line : (input : JobInputData) (one other : Timeline) (t k : ℕ)
    → ((x : ℕ) → x ≤ input.horizon → service_of one t x ≡ service_of other t x)
    → line_of_job input one t k ≡ line_of_job input other t k
one_line input one other t k same =
    let jobs = jobs_at input.jobs t in
    ap (λ (finish : Option ℕ). job_line (name_of input.set t) k (job_at jobs k).release finish)
    (same_first (λ x. nat_le (goal_of jobs k) (service_of one t x)) (λ x. nat_le (goal_of jobs k) (service_of other t x)) input.horizon
    (λ x within. ap (nat_le (goal_of jobs k)) (same x within)))

pub input_has_one_service : InputHasOneService
input_has_one_service input one other t x valid runs also number within = one_service input valid one other runs also x within t number

pub input_has_one_text : InputHasOneText
unfolding jobs_text
input_has_one_text input one other valid runs also =
    let each = valid.one_each in
    let first = state_of_moment (start_of input.set) one in
    let second = state_of_moment (start_of input.set) other in
    let lines : (t : ℕ) → t < 0 + length input.set.tasks → lines_of_task input first t ≡ lines_of_task input second t =
    λ t below. same_pieces (line_of_job input first t) (line_of_job input second t) 0 (length (jobs_at input.jobs t))
    (λ k counted. one_line input first second t k (λ x within. one_service input valid one other runs also x within t (omega arith))) in
    rw (same_pieces (lines_of_task input first) (lines_of_task input second) 0 (length input.set.tasks) lines) refl
