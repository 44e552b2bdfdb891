-- What a driver leaves at the horizon.
use Rattle.std.proofs.Common.{◌≡◌, ℕ, suc, ◌+◌, ◌^◌, ◌<◌, ◌≤◌, ◌↔◌, Bool, true, false, List, [], ◌∷◌, length, sum_by, All, refl, sym, ap}
use Rattle.std.proofs.Common.{◌∙◌, subst, inl, inr, arith}
use Rattle.std.proofs.lemmas.Bool.{cases_lt, cases_eq}
use Rattle.std.proofs.lemmas.List.{get_or-map, length-map}
use Rattle.std.specs.List.{range_with_len}
use Rattle.std.proofs.lemmas.List.Sums.{sum_by-cons, sum_by-le}
use Rattle.strong_apa.specs.State.{is_ready}
use Rattle.job_release.specs.EventCauses.{AreAskedFor, AreCaused, ComesAt, HasCauseToChange, IsAskedAt}
use Rattle.job_release.specs.EventOrder.{AreInOrder, event_of}
use Rattle.job_release.specs.JobInput.{JobInputData, jobs_at}
use Rattle.job_release.specs.declared.input.Job.{Job}
use Rattle.job_release.specs.Driven.{ServesJobs, IsReadyWhileWorkIsLeft, GetsNoMore}
use Rattle.job_release.specs.Driving.{DriverData, IsDriving, IsRowAt, settled, jobs_of, job_row_at, done_of, moves_in}
use Rattle.job_release.specs.Moments.{Timeline, service_of}
use Rattle.job_release.specs.Moves.{moves_of, moves_of_all}
use Rattle.job_release.specs.RunView.{RowIsKept}
use Rattle.job_release.specs.declared.row.JobRow.{JobRow}
use Rattle.job_release.proofs.Causes.{earlier_is}
use Rattle.job_release.proofs.Demands.{asked_upto, demand_is, job_valid}
use Rattle.job_release.proofs.EventOrders.{not_come}
use Rattle.job_release.proofs.Moves.{moves_within}
use Rattle.job_release.proofs.NextMoments.{some_row}
use Rattle.job_release.proofs.RowSteps.{is_short}

-- ---- the row of a task at the end
pub row_at_end : (states : Timeline) (horizon moment t : ℕ) (flag : Bool) (row : JobRow) → moment ≡ horizon
    → IsRowAt states horizon flag moment (settled moment) t row → RowIsKept states horizon t row
row_at_end states horizon moment t flag row whole at = record {
  finishes = λ k d below. let one = at.finishes k d below in let within = one.within in
      record { within = omega arith; got = one.got; least = one.least };
  unfinished = λ k from inside x within.
      let goals = asked_upto row.jobs.items (done_of row + 1) (k + 1) (omega arith) in
      elim (cases_lt x moment) [
        | inl before ↦ (let short = at.unfinished x before (omega arith) in omega (arith, goals, short))
        | inr end ↦ (
            let last : x ≡ moment = omega arith in
            let service = at.service in
            let short = is_short states horizon flag moment t (settled moment) row at (omega arith) (omega arith) in
            let same : service_of states t x ≡ service_of states t moment = ap (service_of states t) last in
            omega (arith, goals, same, service, short))
      ];
  moves = at.moves ∙ ap (moves_of states t) whole;
}

-- ---- the moments at the end
pub serves_jobs : (input : JobInputData) (from now : DriverData) → jobs_of from.rows ≡ input.jobs → now.moment ≡ input.horizon
    → IsDriving from now (length now.rows) (settled now.moment) (settled now.moment) → ServesJobs input now.scheduler.states
serves_jobs input from now begins whole driving =
    let listed : jobs_of now.rows ≡ input.jobs = driving.same_jobs ∙ begins in
    let count : length input.jobs ≡ length now.rows = sym (ap length listed) ∙ length-map now.rows (λ (row : JobRow). row.jobs.items) in
    let d : (t : ℕ) → t < length now.rows → JobRow = λ t within. some_row now.rows t within in
    let jobs_are : (t : ℕ) (within : t < length now.rows) → (job_row_at now.rows t (d t within)).jobs.items ≡ jobs_at input.jobs t =
    λ t within. sym (get_or-map (λ (row : JobRow). row.jobs.items) now.rows t (d t within) [] within)
    ∙ ap (λ (js : List (List Job)). jobs_at js t) listed in
    record {
      ready = λ t x within below.
          let fits : t < length now.rows = omega (arith, count) in
          let at = driving.rows_moved t (d t fits) fits fits in
          let P : List Job → Type 0 = λ jobs. IsReadyWhileWorkIsLeft now.scheduler.states t jobs x in
          subst P (jobs_are t fits) (at.past x (omega arith));
      no_more = λ t x within below.
          let fits : t < length now.rows = omega (arith, count) in
          let at = driving.rows_moved t (d t fits) fits fits in
          let P : List Job → Type 0 = λ jobs. GetsNoMore now.scheduler.states t jobs x in
          subst P (jobs_are t fits) (at.past_service x (omega arith));
      only_ready = λ t x within below.
          let fits : t < length now.rows = omega (arith, count) in
          (driving.rows_moved t (d t fits) fits fits).past_linked x (omega arith);
    }

-- ---- the events at the end
-- no job of the task is released at the horizon
none_at_end : (states : Timeline) (horizon moment t : ℕ) (flag : Bool) (row : JobRow) → moment ≡ horizon
    → IsRowAt states horizon flag moment (settled moment) t row → IsAskedAt states t row.jobs.items moment → ⊥
none_at_end states horizon moment t flag row whole at cause =
    let jobs = row.jobs.items in
    let listed = at.sizes.listed in
    let all : length jobs ≤ row.released = elim (cases_lt row.released (length jobs)) [
      | inl more ↦ absurd (let due = at.due_next more in let early = (job_valid horizon jobs at.jobs row.released more).release in
          omega arith)
      | inr none ↦ none
    ] in
    let earlier = earlier_is jobs row.released moment listed (λ k below. let due = at.due_before k below in omega arith)
    (λ k from within. absurd (omega arith)) in
    let now = demand_is jobs row.released moment listed (λ k below. let due = at.due_before k below in omega arith)
    (λ k from within. absurd (omega arith)) in
    let more = cause.1 in
    omega (arith, earlier, now, more)

caused_at_end : (input : JobInputData) (from now : DriverData) → jobs_of from.rows ≡ input.jobs → now.moment ≡ input.horizon
    → now.horizon ≡ input.horizon
    → IsDriving from now (length now.rows) (settled now.moment) (settled now.moment)
    → AreCaused input now.scheduler.events now.scheduler.states
caused_at_end input from now begins whole same_horizon driving t x flag within upto =
    let listed : jobs_of now.rows ≡ input.jobs = driving.same_jobs ∙ begins in
    let count : length input.jobs ≡ length now.rows = sym (ap length listed) ∙ length-map now.rows (λ (row : JobRow). row.jobs.items) in
    let fits : t < length now.rows = omega (arith, count) in
    let P : List (List Job) → Type 0 = λ jobs. ComesAt now.scheduler.events (event_of t flag) x ↔ HasCauseToChange now.scheduler.states t
    (jobs_at jobs t) flag x in
    subst P listed (at_end flag x (omega arith) fits)
  where
    at_last : (t : ℕ) → t < length now.rows → ComesAt now.scheduler.events (event_of t true)
        now.moment ↔ HasCauseToChange now.scheduler.states t (jobs_at (jobs_of now.rows) t) true now.moment
    at_last t fits =
        let d = some_row now.rows t fits in
        let own : jobs_at (jobs_of now.rows) t ≡ (job_row_at now.rows t d).jobs.items = get_or-map (λ (row : JobRow). row.jobs.items)
        now.rows t d [] fits in
        let Q : List Job → Type 0 = λ jobs. IsAskedAt now.scheduler.states t jobs now.moment in
        let so_far = driving.turn in (
          λ comes. absurd (not_come (length now.rows) 0 now.scheduler.events t true driving.in_order (omega arith)
              (subst (ComesAt now.scheduler.events (event_of t true)) (sym driving.timed) comes)),
          λ cause. absurd (none_at_end now.scheduler.states now.horizon now.moment t (is_ready now.scheduler.now t)
              (job_row_at now.rows t d) (whole ∙ sym same_horizon) (driving.rows_moved t d fits fits) (subst Q own cause)),
        )

    at_end : (flag : Bool) (x : ℕ) → x ≤ now.moment → t < length now.rows
        → ComesAt now.scheduler.events (event_of t flag) x ↔ HasCauseToChange now.scheduler.states t (jobs_at (jobs_of now.rows) t) flag x
    at_end false x upto fits = driving.caused t x false fits upto (λ same. omega arith)
    at_end true x upto fits = elim (cases_eq x now.moment) [
      | inr before ↦ driving.caused t x true fits upto (λ same. absurd (before same))
      | inl same ↦ (
          let R : ℕ → Type 0 = λ y. ComesAt now.scheduler.events (event_of t true) y ↔ HasCauseToChange now.scheduler.states t
          (jobs_at (jobs_of now.rows) t) true y in
          subst R (sym same) (at_last t fits))
    ]

pub asked_at_end : (input : JobInputData) (from now : DriverData) → jobs_of from.rows ≡ input.jobs → now.moment ≡ input.horizon
    → now.horizon ≡ input.horizon
    → IsDriving from now (length now.rows) (settled now.moment) (settled now.moment)
    → AreAskedFor input now.scheduler.events now.scheduler.states
asked_at_end input from now begins whole same_horizon driving =
    let listed : jobs_of now.rows ≡ input.jobs = driving.same_jobs ∙ begins in
    let count : length now.rows ≡ length input.jobs = sym (length-map now.rows (λ (row : JobRow). row.jobs.items)) ∙ ap length listed in
    record {
      order = subst (λ (n : ℕ). AreInOrder n 0 now.scheduler.events) count driving.in_order;
      caused = caused_at_end input from now begins whole same_horizon driving;
    }

-- ---- the moves at the end
moves_from : (states : Timeline) (horizon k : ℕ) (rows : List JobRow)
    → ((t : ℕ) (d : JobRow) → t < length rows → (job_row_at rows t d).moves ≡ moves_of states (k + t) horizon)
    → sum_by moves_in rows ≡ sum_by (λ t. moves_of states t horizon) (range_with_len k (length rows))
moves_from states horizon k [] each = refl
moves_from states horizon k (row ∷ rows) each =
    let here : row.moves ≡ moves_of states (k + 0) horizon = each 0 row (omega arith) in
    let first : k + 0 ≡ k = omega arith in
    let same = ap (λ (t : ℕ). moves_of states t horizon) first in
    let rest = moves_from states horizon (k + 1) rows
    (λ t d within. each (suc t) d (omega arith) ∙ ap (λ (n : ℕ). moves_of states n horizon) (next t)) in
    omega (
      arith,
      sum_by-cons moves_in row rows,
      sum_by-cons (λ t. moves_of states t horizon) k (range_with_len (k + 1) (length rows)),
      here,
      same,
      rest,
    )
  where
    next : (t : ℕ) → k + suc t ≡ k + 1 + t
    next t = omega arith

pub moves_of_rows : (states : Timeline) (horizon : ℕ) (rows : List JobRow)
    → ((t : ℕ) (d : JobRow) → t < length rows → RowIsKept states horizon t (job_row_at rows t d))
    → sum_by moves_in rows ≡ moves_of_all states (length (jobs_of rows)) horizon
moves_of_rows states horizon rows kept =
    moves_from states horizon 0 rows (λ t d within. (kept t d within).moves ∙ ap (λ (n : ℕ). moves_of states n horizon) (from_zero t))
    ∙ ap (λ (n : ℕ). moves_of_all states n horizon) (sym (length-map rows (λ (row : JobRow). row.jobs.items)))
  where
    from_zero : (t : ℕ) → t ≡ 0 + t
    from_zero t = omega arith

-- they are not many
pub moves_fit : (states : Timeline) (horizon : ℕ) (rows : List JobRow) → horizon ≤ 10000000 → length rows ≤ 1024
    → ((t : ℕ) (d : JobRow) → t < length rows → RowIsKept states horizon t (job_row_at rows t d))
    → sum_by moves_in rows < 2 ^ 64
moves_fit states horizon rows within few kept =
    let each : All (λ (row : JobRow). moves_in row ≤ 10000000) rows = λ t d inside. let moves = (kept t d inside).moves in
    let rarely = moves_within states t horizon in omega (arith, moves, rarely) in
    let most = sum_by-le moves_in 10000000 rows each in
    omega (arith, most)
