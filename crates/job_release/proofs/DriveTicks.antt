-- Time passes: it leads from a moment to the next one at which something is to be done.
use Rattle.std.proofs.Common.{◌≡◌, ℕ, suc, ◌+◌, ◌*◌, ◌-◌, ◌^◌, ◌<◌, ◌≤◌, Bool, true, false, List, [], ◌∷◌, ◌++◌, length, get_or, All, refl}
use Rattle.std.proofs.Common.{sym, ap, ◌∙◌, subst, inl, inr, arith}
use Rattle.std.proofs.lemmas.List.{get_or-map}
use Rattle.std.proofs.lemmas.List.Elements.{All-push}
use Rattle.task_set.specs.Event.{HasUnits}
use Rattle.task_set.specs.declared.event.Event.{Event}
use Rattle.task_set.specs.declared.event.Event.TheVariants.{Tick}
use Rattle.strong_apa.specs.State.{State, IsState, is_ready, is_linked}
use Rattle.strong_apa.proofs.Linked.{task_on-linked, place_in}
use Rattle.job_release.specs.Jobs.{goal_of}
use Rattle.job_release.specs.EventCauses.{HasCauseToChange}
use Rattle.job_release.specs.EventOrder.{own_turn}
use Rattle.job_release.specs.JobInput.{jobs_at}
use Rattle.job_release.specs.declared.input.Job.{Job}
use Rattle.job_release.specs.Driving.{AreCausedUpTo, turn_of, DriverData, IsDriving, IsRowAt, grown, supplied, job_row_at, work_of, jobs_of}
use Rattle.job_release.specs.Driving.{done_of, HasCost, BeginsAt, IsNextMoment, IsDueAt, RunFits, JobRowsRun, JobRowRuns}
use Rattle.job_release.specs.Moves.{place_of}
use Rattle.job_release.specs.Scheduler.{SchedulerData, TimePasses}
use Rattle.job_release.specs.declared.row.JobRow.{JobRow}
use Rattle.job_release.specs.WeakRuns.{elapsed_at}
use Rattle.job_release.proofs.Causes.{causes_after}
use Rattle.job_release.proofs.EventOrders.{order_push, turn_push}
use Rattle.job_release.proofs.Moments.{service_within}
use Rattle.job_release.proofs.Moves.{moves_within}
use Rattle.job_release.proofs.NextMoments.{some_row}
use Rattle.job_release.proofs.RowSteps.{Agree, row_kept, row_ran, no_cause}
use Rattle.job_release.proofs.WeakHistories.{elapsed_push}
use Rattle.job_release.proofs.WorkSums.{sum_of_less, sum_of_one_less, work_least, work_without, work_with_release, work_with_finish}

-- rows of the same jobs
same_jobs : (xs ys : List JobRow) → length ys ≡ length xs
    → ((t : ℕ) (d : JobRow) → t < length xs → (get_or ys t d).jobs ≡ (get_or xs t d).jobs) → jobs_of ys ≡ jobs_of xs
same_jobs [] [] count each = refl
same_jobs [] (y ∷ ys) count each = absurd (omega arith)
same_jobs (x ∷ xs) [] count each = absurd (omega arith)
same_jobs (x ∷ xs) (y ∷ ys) count each =
    let here : y.jobs.items ≡ x.jobs.items = ap (λ jobs. jobs.items) (each 0 x (omega arith)) in
    let rest = same_jobs xs ys (omega arith) (λ t d within. each (suc t) d (omega arith)) in
    ap (λ (list : List Job). list ∷ jobs_of ys) here ∙ ap (λ (others : List (List Job)). x.jobs.items ∷ others) rest

-- a linked task is ready
linked_is_ready : (s : State) (t : ℕ) → IsState s → is_linked s t ≡ true → is_ready s t ≡ true
linked_is_ready s t ok linked = ok.linked_ready (place_in t s.on) t (task_on-linked s t linked)

module _ (from now : DriverData) (driving : IsDriving from now (length now.rows) (supplied now.moment) (supplied now.moment)) where
  -- a task ran no longer than time passed, and moved no more often
  pub run_fits : (units : ℕ) → units < 2 ^ 32 → All (RunFits units) now.rows
  run_fits units few t d within =
      let at = driving.rows_moved t d within within in
      let service = at.service in
      let most = service_within now.scheduler.states t now.moment in
      let in_time = driving.within in
      let horizon = driving.horizon_fits in
      let moves = at.moves in
      let rarely = moves_within now.scheduler.states t now.moment in
      record { service = omega (arith, service, most); moves = omega (arith, moves, rarely) }

  module _ (next : ℕ) (is_next : IsNextMoment now.scheduler.now now.rows now.horizon now.moment next)
      (after : SchedulerData) (passes : TimePasses (next - now.moment) now.scheduler after)
      (ran : List JobRow) (runs : JobRowsRun after.now (next - now.moment) now.rows ran) where
    at_next : after.elapsed ≡ next
    at_next = let later = is_next.later in let moment_is = driving.at_moment in let elapsed = passes.elapsed in omega arith

    runs_then : (t : ℕ) (d : JobRow) → t < length now.rows
        → JobRowRuns (is_linked now.scheduler.now t) (place_of now.scheduler.now t) (next - now.moment) (job_row_at now.rows t d)
        (job_row_at ran t d)
    runs_then t d within =
        let P : State → Type 0 = λ s. JobRowRuns (is_linked s t) (place_of s t) (next - now.moment) (job_row_at now.rows t d)
        (job_row_at ran t d) in
        subst P passes.same (runs.each t d within)

    still : (y : ℕ) → now.moment ≤ y → y < next → after.states y ≡ now.scheduler.now
    still y since below = let moment_is = driving.at_moment in let until = at_next in passes.passed y (omega arith) (omega arith)

    agree : Agree now.scheduler.states after.states now.moment
    agree x below = let moment_is = driving.at_moment in passes.keeps.past x (omega arith)

    old_row : (t : ℕ) (d : JobRow) → t < length now.rows
        → IsRowAt after.states now.horizon (is_ready now.scheduler.now t) now.moment (supplied now.moment) t (job_row_at now.rows t d)
    old_row t d within =
        row_kept now.scheduler.states after.states now.moment agree t now.horizon (is_ready now.scheduler.now t)
        (is_ready now.scheduler.now t) (supplied now.moment) (job_row_at now.rows t d) refl
        (driving.rows_moved t d within within)

    new_row : (t : ℕ) (d : JobRow) → t < length now.rows
        → IsRowAt after.states now.horizon (is_ready after.now t) next (grown next) t (job_row_at ran t d)
    new_row t d within =
        let P : State → Type 0 = λ s. IsRowAt after.states now.horizon (is_ready s t) next (grown next) t (job_row_at ran t d) in
        subst P (sym passes.same)
        (row_ran after.states now.horizon now.scheduler.now now.moment next is_next.later still t (job_row_at now.rows t d)
        (linked_is_ready now.scheduler.now t driving.state) (old_row t d within)
        (is_next.not_after t d within) (job_row_at ran t d) (runs_then t d within))

    -- what the rows account for
    nothing_due : (t : ℕ) (d : JobRow) → t < length now.rows → work_of now.moment (job_row_at now.rows t d)
        ≡ 2 * ((job_row_at now.rows t d).released + done_of (job_row_at now.rows t d))
    nothing_due t d within =
        let old = old_row t d within in
        work_without now.moment (job_row_at now.rows t d)
        (λ begins. let next_one = old.due_next begins.0 in let now_one = begins.1 in omega arith)
        (λ has. let high = old.high has.0 in let cost = has.1 in omega arith)

    same_counts : (t : ℕ) (d : JobRow) → t < length now.rows → (job_row_at ran t d).released + done_of (job_row_at ran t d)
        ≡ (job_row_at now.rows t d).released + done_of (job_row_at now.rows t d)
    same_counts t d within = let run = runs_then t d within in rw (run.released, run.finishes) refl

    no_less : (t : ℕ) (d : JobRow) → t < length now.rows → work_of now.moment (job_row_at now.rows t d) ≤ work_of next (job_row_at ran t d)
    no_less t d within = omega (arith, nothing_due t d within, same_counts t d within, work_least next (job_row_at ran t d))

    one_due : (t : ℕ) (d : JobRow) → t < length now.rows → IsDueAt now.scheduler.now now.moment next t (job_row_at now.rows t d)
        → work_of now.moment (job_row_at now.rows t d) + 1 ≤ work_of next (job_row_at ran t d)
    one_due t d within (inl release) =
        let run = runs_then t d within in
        let due : BeginsAt next (job_row_at ran t d).jobs.items (job_row_at ran t d).released = rw (run.jobs, run.released) release in
        omega (arith, nothing_due t d within, same_counts t d within, work_with_release next (job_row_at ran t d) due)
    one_due t d within (inr (linked, finish)) =
        let run = runs_then t d within in
        let later = is_next.later in
        let work = (old_row t d within).ready.0 (linked_is_ready now.scheduler.now t driving.state linked) in
        let service : (job_row_at ran t d).service ≡ (job_row_at now.rows t d).service + (next - now.moment) = rw linked at run.service in
        let cost : (job_row_at ran t d).service ≡ goal_of (job_row_at now.rows t d).jobs.items
        (done_of (job_row_at now.rows t d)) = omega (arith, service, finish) in
        let due : HasCost (job_row_at ran t d) = rw (run.jobs, run.released, run.finishes) (work, cost) in
        omega (arith, nothing_due t d within, same_counts t d within, work_with_finish next (job_row_at ran t d) due)

    -- each turn of the moment has come, and no cause comes before the next moment
    all_turns : (t : ℕ) (flag : Bool) → t < length now.rows → own_turn (length now.rows) t flag
        < turn_of (supplied now.moment) (supplied now.moment) (length now.rows) (length now.rows)
    all_turns t true within = omega arith
    all_turns t false within = omega arith

    nothing_caused : (t x : ℕ) (flag : Bool) → t < length now.rows → now.moment < x → x < next
        → HasCauseToChange after.states t (jobs_at (jobs_of now.rows) t) flag x → ⊥
    nothing_caused t x flag within since before cause =
        let d = some_row now.rows t within in
        let listed : jobs_at (jobs_of now.rows) t ≡ (job_row_at now.rows t d).jobs.items = get_or-map (λ (row : JobRow). row.jobs.items)
        now.rows t d [] within in
        let P : List Job → Type 0 = λ jobs. HasCauseToChange after.states t jobs flag x in
        no_cause after.states now.horizon now.scheduler.now now.moment next is_next.later still t (job_row_at now.rows t d)
        (linked_is_ready now.scheduler.now t driving.state) (old_row t d within)
        (is_next.not_after t d within) x flag since before (subst P listed cause)

    pub ticked : IsDriving from (record { scheduler = after; rows = ran; horizon = now.horizon; moment = next }) (length ran) (grown next)
        (grown next)
    ticked =
        let later = is_next.later in
        let within_horizon = is_next.within in
        let units = is_next.units in
        let so_far = driving.room_before (omega arith) in
        let room = passes.keeps.room in
        let each = sum_of_less (work_of now.moment) (work_of next) now.rows ran (sym runs.count) no_less in
        let listed = same_jobs now.rows ran runs.count (λ t d within. (runs_then t d within).jobs) in
        record {
          begins = passes.keeps.start ∙ driving.begins;
          horizon = driving.horizon;
          same_jobs = listed ∙ driving.same_jobs;
          state = passes.keeps.state;
          at_moment = at_next;
          within = within_horizon;
          horizon_fits = driving.horizon_fits;
          one_each = runs.count ∙ driving.one_each ∙ sym passes.keeps.tasks;
          few = rw listed driving.few;
          rows_moved = λ t d below fits. new_row t d (let count = runs.count in omega arith);
          rows_left = λ t d since fits. absurd (omega arith);
          timed = ap (λ (events : List Event). elapsed_at events) passes.given
              ∙ elapsed_push now.scheduler.events (Tick (next - now.moment)) ∙ (let timed = driving.timed in omega arith);
          units = rw passes.given
              (All-push HasUnits now.scheduler.events (Tick (next - now.moment)) driving.units (omega arith, omega arith));
          in_order = rw (runs.count, passes.given)
              (order_push (length now.rows) 0 now.scheduler.events (Tick (next - now.moment)) driving.in_order (omega arith));
          turn = rw (runs.count, passes.given) (let pushed = turn_push (length now.rows) 0 now.scheduler.events
              (Tick (next - now.moment)) in omega arith);
          caused =
              let turn : 0 ≡ turn_of (grown next) (grown next) (length now.rows) (length now.rows) = omega arith in
              let P : ℕ → Type 0 = λ turn. AreCausedUpTo (length now.rows) next turn (jobs_of now.rows)
              (now.scheduler.events ++ Tick (next - now.moment) ∷ []) after.states in
              rw (runs.count, listed, passes.given)
              (subst P turn (causes_after (length now.rows) now.moment
              (turn_of (supplied now.moment) (supplied now.moment) (length now.rows) (length now.rows)) next (next - now.moment)
              (jobs_of now.rows) now.scheduler.events now.scheduler.states after.states driving.caused all_turns driving.timed agree
              nothing_caused));
          room = omega (arith, so_far, each, room);
          room_before = λ before. elim is_next.due [
            | inl last ↦ omega (arith, so_far, each, room, last)
            | inr due ↦ (
                let more =
                sum_of_one_less (work_of now.moment) (work_of next) now.rows ran due.0 (sym runs.count) due.1 no_less
                (λ d. one_due due.0 d due.1 (due.2 d)) in
                omega (arith, so_far, more, room))
          ];
        }
