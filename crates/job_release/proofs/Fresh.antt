-- Rows before anything has happened.
use Rattle.std.proofs.Common.{◌≡◌, ℕ, suc, ◌+◌, ◌<◌, ◌≤◌, Bool, true, false, List, [], ◌∷◌, ◌++◌, length, take, drop, refl, sym, ap, ◌∙◌}
use Rattle.std.proofs.Common.{subst, inl, inr, arith, length-append}
use Rattle.std.proofs.lemmas.Bool.{cases_lt, true≢false}
use Rattle.std.proofs.lemmas.Grind.{common_steps}
use Rattle.std.proofs.lemmas.List.{get_or_append_left, get_or_at, length-map}
use Rattle.std.proofs.lemmas.List.Elements.{All-nil}
use Rattle.std.proofs.lemmas.List.Sums.{get_or-le-sum_by}
use Rattle.task_set.specs.TaskSet.{TaskData}
use Rattle.task_set.specs.Event.{HasUnits}
use Rattle.strong_apa.specs.State.{IsState, task_count, is_ready}
use Rattle.strong_apa.proofs.Start.{none_ready}
use Rattle.job_release.specs.JobInput.{JobInputData, IsJobInput, AreJobs, jobs_at}
use Rattle.job_release.specs.declared.input.Job.{Job}
use Rattle.job_release.specs.Driving.{AreCausedUpTo, turn_of, DriverData, AreFresh, IsFresh, IsRowAt, IsDriving, jobs_of, job_row_at}
use Rattle.job_release.specs.Driving.{settled}
use Rattle.job_release.specs.Moments.{Timeline}
use Rattle.job_release.specs.Scheduler.{SchedulerData, IsNewFor}
use Rattle.job_release.specs.declared.row.JobRow.{JobRow}
use Rattle.job_release.proofs.Causes.{no_cause_yet}
use Rattle.job_release.proofs.Moments.{no_service}
use Rattle.job_release.proofs.Moves.{no_place, no_moves}

-- ---- the list of rows
pub fresh_none : (jobs : List (List Job)) (rows : List JobRow) → rows ≡ [] → AreFresh jobs 0 rows
fresh_none jobs rows none = record { count = ap length none; each = λ t d below. absurd (omega arith) }

pub fresh_more : (jobs : List (List Job)) (n : ℕ) (rows : List JobRow) (row : JobRow) → AreFresh jobs n rows → IsFresh (jobs_at jobs n) row
    → AreFresh jobs (n + 1) (rows ++ row ∷ [])
fresh_more jobs n rows row before fresh = record {
  count = length-append rows (row ∷ []) ∙ ap (λ (k : ℕ). k + 1) before.count;
  each = λ t d below. elim (cases_lt t n) [
    | inl earlier ↦ (
        let count = before.count in
        let P : JobRow → Type 0 = λ r. IsFresh (jobs_at jobs t) r in
        subst P (sym (get_or_append_left rows (row ∷ []) d t (omega arith))) (before.each t d earlier))
    | inr from ↦ (
        let count = before.count in
        let last : length rows ≡ t = omega arith in
        let here : n ≡ t = omega arith in
        let P : JobRow → Type 0 = λ r. IsFresh (jobs_at jobs t) r in
        let Q : ℕ → Type 0 = λ k. IsFresh (jobs_at jobs k) row in
        subst P (sym (get_or_at rows row [] d t last)) (subst Q here fresh))
  ];
}

pub fresh_jobs : (jobs : List (List Job)) (rows : List JobRow) → length rows ≡ length jobs
    → ((t : ℕ) (d : JobRow) → t < length rows → (job_row_at rows t d).jobs.items ≡ jobs_at jobs t) → jobs_of rows ≡ jobs
fresh_jobs [] [] count each = refl
fresh_jobs [] (row ∷ rows) count each = absurd (omega arith)
fresh_jobs (list ∷ jobs) [] count each = absurd (omega arith)
fresh_jobs (list ∷ jobs) (row ∷ rows) count each =
    let here : row.jobs.items ≡ list = each 0 row (omega arith) in
    let rest = fresh_jobs jobs rows (omega arith) (λ t d within. each (suc t) d (omega arith)) in
    ap (λ (l : List Job). l ∷ jobs_of rows) here ∙ ap (λ (others : List (List Job)). list ∷ others) rest

-- ---- a fresh row
pub fresh_row : (states : Timeline) (horizon t : ℕ) (jobs : List Job) (row : JobRow) (flag : Bool) → IsFresh jobs row → AreJobs horizon jobs
    → length jobs ≤ 4000 → flag ≡ false
    → IsRowAt states horizon flag 0 (settled 0) t row
fresh_row states horizon t jobs row flag fresh valid few absent =
    let released = fresh.released in
    let service = fresh.service in
    let asked = fresh.asked in
    let done : length row.finishes.items ≡ 0 = ap length fresh.finishes in
    let listed = fresh.jobs in
    record {
      sizes = record { few = omega arith; listed = omega arith; asked = rw done asked; fits = omega arith };
      jobs = rw listed valid;
      count = rw listed few;
      past = λ x below. absurd (omega arith);
      past_service = λ x below. absurd (omega arith);
      past_linked = λ x below. absurd (omega arith);
      service = service ∙ sym (no_service states t);
      finishes = λ k d below. absurd (omega arith);
      unfinished = λ x below within. absurd (omega arith);
      due_before = λ k below. absurd (omega arith);
      due_next = λ within. omega arith;
      low = omega arith;
      high = λ work. absurd (omega arith);
      idle = λ all. service ∙ sym asked;
      rested = λ slack. absurd (omega arith);
      ready = (λ h. absurd (true≢false (sym h ∙ absent)), λ work. absurd (omega arith));
      place = fresh.place ∙ sym (no_place states t);
      moves = fresh.moves ∙ sym (no_moves states t);
    }

-- ---- a driver at moment 0
-- no event has come at the first moment, and no task has a cause to depart
nothing_caused : (count turn : ℕ) (jobs : List (List Job)) (states : Timeline) → turn ≤ count → AreCausedUpTo count 0 turn jobs [] states
nothing_caused count turn jobs states few t x false within upto turns =
    (λ comes. absurd comes, λ cause. absurd (no_cause_yet states t (jobs_at jobs t) x upto cause))
nothing_caused count turn jobs states few t x true within upto turns = absurd (let early = turns (omega arith) in omega arith)

pub driving_fresh : (input : JobInputData) (scheduler : SchedulerData) (rows : List JobRow) → IsJobInput input → IsState scheduler.now
    → IsNewFor input.set scheduler → AreFresh input.jobs (length input.jobs) rows
    → let driver : DriverData = record { scheduler = scheduler; rows = rows; horizon = input.horizon; moment = 0 } in
    IsDriving driver driver (length rows) (settled 0) (settled 0)
driving_fresh input scheduler rows valid state new fresh =
    let count = fresh.count in
    let jobs = fresh_jobs input.jobs rows count (λ t d within. (fresh.each t d (omega arith)).jobs) in
    let tasks : task_count scheduler.now ≡ length input.set.tasks = ap task_count new.now
    ∙ length-map input.set.tasks (λ (task : TaskData). task.priority) in
    let absent : (t : ℕ) → is_ready scheduler.now t ≡ false = λ t. rw new.now (none_ready (length input.set.tasks) t) in
    let few : (t : ℕ) → t < length rows → length (jobs_at input.jobs t) ≤ 4000 =
    λ t within. let most =
    get_or-le-sum_by (λ (list : List Job). length list) input.jobs t [] (omega arith) in let total = valid.few in omega arith in
    let at : (t : ℕ) (d : JobRow) → t < length rows → IsRowAt scheduler.states input.horizon (is_ready scheduler.now t) 0 (settled 0) t
    (job_row_at rows t d) =
    λ t d within. fresh_row scheduler.states input.horizon t (jobs_at input.jobs t) (job_row_at rows t d) (is_ready scheduler.now t)
    (fresh.each t d (omega arith)) (valid.each_jobs t [] (omega arith)) (few t within) (absent t) in
    let horizon = valid.horizon in
    let room = new.room in
    record {
      begins = refl;
      horizon = refl;
      same_jobs = refl;
      state = state;
      at_moment = new.elapsed;
      within = omega arith;
      horizon_fits = horizon.1;
      one_each = count ∙ valid.one_each ∙ sym tasks;
      few = rw jobs valid.few;
      rows_moved = λ t d below within. at t d within;
      rows_left = λ t d from within. absurd (omega arith);
      timed = rw new.events refl;
      in_order = rw new.events tt;
      units = rw new.events (All-nil HasUnits);
      turn = rw new.events (omega arith);
      caused = rw new.events (nothing_caused (length rows) (turn_of (settled 0) (settled 0) (length rows) (length rows)) (jobs_of rows)
          scheduler.states (omega arith));
      room = omega arith;
      room_before = λ before. omega arith;
    }

-- ---- a list that is written over as a whole
pub written_over : (rows old : List JobRow) (n : ℕ) → length rows ≡ length old → n ≡ length old → take n (rows ++ drop (length rows) old)
    ≡ rows
written_over rows old n count len = grind (arith, common_steps)
