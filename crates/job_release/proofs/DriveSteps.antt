-- A driver from step to step.
use Rattle.std.proofs.Common.{◌≡◌, ◌≢◌, ℕ, ◌+◌, ◌-◌, ◌*◌, ◌<◌, ◌≤◌, Bool, true, false, List, [], ◌∷◌, ◌++◌, length, get_or, set, All, Some}
use Rattle.std.proofs.Common.{refl, sym, ap, ◌∙◌, subst, inl, inr, arith}
use Rattle.std.proofs.Math.Seq.{map-set_same}
use Rattle.std.proofs.lemmas.Bool.{cases_Bool, cases_lt, cases_eq, true≢false}
use Rattle.std.proofs.lemmas.Option.{get_or_from_slice_get, slice_get-get_or}
use Rattle.std.proofs.lemmas.List.{length-map, length-set, get_or-map, get_or-set_same, get_or-set_other}
use Rattle.std.proofs.lemmas.List.Elements.{All-push}
use Rattle.std.proofs.lemmas.List.Sums.{sum_by-set}
use Rattle.task_set.specs.Event.{HasUnits}
use Rattle.task_set.specs.declared.event.Event.{Event}
use Rattle.strong_apa.specs.State.{IsState, task_count, is_ready}
use Rattle.job_release.specs.EventCauses.{HasCauseToChange, IsServedAt, IsAskedAt}
use Rattle.job_release.specs.EventOrder.{AreInOrder, turn_after_all, event_of, own_turn}
use Rattle.job_release.specs.JobInput.{jobs_at}
use Rattle.job_release.specs.declared.input.Job.{Job}
use Rattle.job_release.specs.Driving.{AreCausedUpTo, turn_of, DriverData, IsDriving, IsRow, IsRowAt, Mark, grown, settled, supplied}
use Rattle.job_release.specs.Driving.{job_row_at, jobs_of, work_of, done_of, HasCost, HasWork, Finishes, Releases}
use Rattle.job_release.specs.Scheduler.{SchedulerData, Readies}
use Rattle.job_release.specs.WeakRuns.{elapsed_at}
use Rattle.job_release.specs.declared.row.JobRow.{JobRow}
use Rattle.job_release.proofs.Causes.{without_cause, with_cause}
use Rattle.job_release.proofs.EventOrders.{order_push, turn_push, in_own_turn, after_own_turn, no_units, has_no_units}
use Rattle.job_release.proofs.RowCauses.{not_served, not_served_yet, is_served, not_asked_with_work, not_asked, is_asked}
use Rattle.job_release.proofs.RowSteps.{Agree, row_kept}
use Rattle.job_release.proofs.RowChanges.{one_more, row_not_settled, row_settled, row_supplied}
use Rattle.job_release.proofs.WeakHistories.{elapsed_push}
use Rattle.job_release.proofs.WorkSums.{sum_within, total_of_rows, work_most, work_settled, work_supplied, work_more_supplied}

module _ (from now : DriverData) (n : ℕ) (moved left : Mark) (driving : IsDriving from now n moved left) where
  -- ---- there is room for one event more
  row_work : (mark : Mark) (t : ℕ) (flag : Bool) (row : JobRow) → IsRowAt now.scheduler.states now.horizon flag now.moment mark t row
      → work_of now.moment row ≤ 4 * length row.jobs.items + 2
  row_work mark t flag row at = let listed = at.sizes.listed in let few = at.sizes.few in omega (arith, work_most now.moment row)

  pub has_room : 1 ≤ now.scheduler.room
  has_room =
      let sum = sum_within (work_of now.moment) (λ (row : JobRow). length row.jobs.items) now.rows (λ t d within. elim (cases_lt t n) [
        | inl below ↦ row_work moved t (is_ready now.scheduler.now t) (job_row_at now.rows t d) (driving.rows_moved t d below within)
        | inr from ↦ row_work left t (is_ready now.scheduler.now t) (job_row_at now.rows t d) (driving.rows_left t d from within)
      ]) in
      let total = total_of_rows now.rows in
      let few = driving.few in
      let room = driving.room in
      let each = driving.one_each in
      let count = driving.state.count in
      let within = driving.within in
      let horizon = driving.horizon_fits in
      omega (arith, sum, total)

  -- ---- one row is done
  -- what an event for task n, or none, leaves of the scheduler
  pub record Leaves (after : SchedulerData) : Type 0 where
    pub begins : after.start ≡ from.scheduler.start
    pub state : IsState after.now
    pub at_moment : after.elapsed ≡ now.moment
    pub tasks : task_count after.now ≡ task_count now.scheduler.now
    pub agree : Agree now.scheduler.states after.states now.moment
    pub others : (u : ℕ) → u ≢ n → is_ready after.now u ≡ is_ready now.scheduler.now u
    pub timed : elapsed_at after.events ≡ now.moment
    pub in_order : AreInOrder (length now.rows) 0 after.events
    pub units : All HasUnits after.events
    pub turn : turn_after_all (length now.rows) 0 after.events ≤ turn_of moved left (length now.rows) (n + 1)
    pub caused : AreCausedUpTo (length now.rows) now.moment (turn_of moved left (length now.rows) (n + 1)) (jobs_of now.rows)
        after.events after.states

  -- it is the turn of one of its changes
  module _ (flag : Bool) (number : n < length now.rows) (own : turn_of moved left (length now.rows) n ≡ own_turn (length now.rows) n flag)
      (more : turn_of moved left (length now.rows) n + 1 ≡ turn_of moved left (length now.rows) (n + 1)) where
    abbrev pub HasOwnCause : Type 0
    HasOwnCause = HasCauseToChange now.scheduler.states n (jobs_at (jobs_of now.rows) n) flag now.moment

    pub no_event : (HasOwnCause → ⊥) → Leaves now.scheduler
    no_event none = record {
      begins = driving.begins;
      state = driving.state;
      at_moment = driving.at_moment;
      tasks = refl;
      agree = λ x below. refl;
      others = λ u differs. refl;
      timed = driving.timed;
      in_order = driving.in_order;
      units = driving.units;
      turn = (let turn = driving.turn in omega (arith, more));
      caused = subst (λ (turn : ℕ). AreCausedUpTo (length now.rows) now.moment turn (jobs_of now.rows)
          now.scheduler.events now.scheduler.states) more
          (without_cause (length now.rows) now.moment (turn_of moved left (length now.rows) n) (jobs_of now.rows)
          now.scheduler.events now.scheduler.states driving.caused n flag number own
          driving.timed driving.in_order driving.turn none);
    }

    pub one_event : (after : SchedulerData) → Readies n flag now.scheduler after → HasOwnCause → Leaves after
    one_event after readies cause =
        let turn = driving.turn in
        let in_turn = in_own_turn (length now.rows) (turn_after_all (length now.rows) 0 now.scheduler.events) n flag number
        (omega (arith, own)) in
        let next = after_own_turn (length now.rows) (turn_after_all (length now.rows) 0 now.scheduler.events) n flag in
        let agree : Agree now.scheduler.states after.states now.moment = λ x below. let at = driving.at_moment in
        readies.keeps.past x (omega arith) in
        record {
          begins = readies.keeps.start ∙ driving.begins;
          state = readies.keeps.state;
          at_moment = readies.elapsed ∙ driving.at_moment;
          tasks = readies.keeps.tasks;
          agree = agree;
          others = readies.others;
          timed = (let none = no_units n flag in let timed = driving.timed in ap (λ (events : List Event). elapsed_at events) readies.given
              ∙ elapsed_push now.scheduler.events (event_of n flag) ∙ omega (arith, none, timed));
          in_order = rw readies.given (order_push (length now.rows) 0 now.scheduler.events (event_of n flag) driving.in_order in_turn);
          units = rw readies.given (All-push HasUnits now.scheduler.events (event_of n flag) driving.units (has_no_units n flag));
          turn = rw (readies.given, turn_push) (omega (arith, next, own, more));
          caused =
              let P : ℕ → Type 0 = λ turn. AreCausedUpTo (length now.rows) now.moment turn (jobs_of now.rows)
              (now.scheduler.events ++ event_of n flag ∷ []) after.states in
              rw readies.given (subst P more
              (with_cause (length now.rows) now.moment (turn_of moved left (length now.rows) n) (jobs_of now.rows)
              now.scheduler.events now.scheduler.states driving.caused n flag number own
              driving.timed after.states agree cause));
        }

  module _ (after : SchedulerData) (leaves : Leaves after) (row : JobRow) (within : n < length now.rows) where
    pub one_row_moved : ((d : JobRow) → row.jobs.items ≡ (job_row_at now.rows n d).jobs.items)
        → IsRowAt after.states now.horizon (is_ready after.now n) now.moment moved n row
        → ((d : JobRow) → now.scheduler.room + work_of now.moment (job_row_at now.rows n d) ≤ after.room + work_of now.moment row)
        → IsDriving from (record { scheduler = after; rows = set now.rows n row; horizon = now.horizon; moment = now.moment }) (n + 1)
        moved left
    one_row_moved jobs at gain =
        let exchanged = sum_by-set (work_of now.moment) now.rows n row row within in
        let gained = gain row in
        let listed = map-set_same (λ (r : JobRow). r.jobs.items) now.rows n row row (jobs row) in
        record {
          begins = leaves.begins;
          horizon = driving.horizon;
          same_jobs = listed ∙ driving.same_jobs;
          state = leaves.state;
          at_moment = leaves.at_moment;
          within = driving.within;
          horizon_fits = driving.horizon_fits;
          one_each = length-set now.rows n row ∙ driving.one_each ∙ sym leaves.tasks;
          few = rw listed driving.few;
          rows_moved = λ t d below fits. elim (cases_eq t n) [
            | inl same ↦ (
                let P : JobRow → Type 0 = λ r. IsRowAt after.states now.horizon (is_ready after.now n) now.moment moved n r in
                let Q : ℕ → Type 0 = λ k. IsRowAt after.states now.horizon (is_ready after.now k) now.moment moved k
                (job_row_at (set now.rows n row) k d) in
                subst Q (sym same) (subst P (sym (get_or-set_same now.rows n row d within)) at))
            | inr other ↦ (
                let P : JobRow → Type 0 = λ r. IsRowAt after.states now.horizon (is_ready after.now t) now.moment moved t r in
                let fits_then : t < length now.rows = rw (length-set now.rows n row) at fits in
                subst P (sym (get_or-set_other now.rows n t row d other))
                (row_kept now.scheduler.states after.states now.moment leaves.agree t now.horizon (is_ready now.scheduler.now t)
                (is_ready after.now t) moved (job_row_at now.rows t d) (leaves.others t other)
                (driving.rows_moved t d (omega arith) fits_then)))
          ];
          rows_left = λ t d from fits.
              let other : t ≢ n = λ e. absurd (omega arith) in
              let P : JobRow → Type 0 = λ r. IsRowAt after.states now.horizon (is_ready after.now t) now.moment left t r in
              let fits_then : t < length now.rows = rw (length-set now.rows n row) at fits in
              subst P (sym (get_or-set_other now.rows n t row d other))
              (row_kept now.scheduler.states after.states now.moment leaves.agree t now.horizon (is_ready now.scheduler.now t)
              (is_ready after.now t) left (job_row_at now.rows t d) (leaves.others t other)
              (driving.rows_left t d (omega arith) fits_then));
          timed = leaves.timed;
          in_order = rw (length-set now.rows n row) leaves.in_order;
          units = leaves.units;
          turn = rw (length-set now.rows n row) leaves.turn;
          caused = rw (listed, length-set now.rows n row) leaves.caused;
          room = (let room = driving.room in omega (arith, exchanged, gained));
          room_before = λ before. let room = driving.room_before before in omega (arith, exchanged, gained);
        }

-- ---- all rows are done
-- a round is over
rounds : (less more count : ℕ) → less ≤ more → less * count + (more - less) * count ≡ more * count
rounds less more count le =
    let e : less + (more - less) ≡ more = omega arith in
    let sum : less * count + (more - less) * count ≡ (less + (more - less)) * count = omega arith in
    sum ∙ ap (λ (k : ℕ). k * count) e

pub all_moved : (from now : DriverData) (n : ℕ) (moved left : Mark) → n ≡ length from.rows → left.phase ≤ moved.phase
    → IsDriving from now n moved left → IsDriving from now (length now.rows) moved moved
all_moved from now n moved left all phases driving =
    let count : length now.rows ≡ length from.rows =
    sym (length-map now.rows (λ (row : JobRow). row.jobs.items)) ∙ ap length driving.same_jobs
    ∙ length-map from.rows (λ (row : JobRow). row.jobs.items) in
    record {
      begins = driving.begins;
      horizon = driving.horizon;
      same_jobs = driving.same_jobs;
      state = driving.state;
      at_moment = driving.at_moment;
      within = driving.within;
      horizon_fits = driving.horizon_fits;
      one_each = driving.one_each;
      few = driving.few;
      rows_moved = λ t d below fits. driving.rows_moved t d (omega arith) fits;
      rows_left = λ t d from fits. absurd (omega arith);
      timed = driving.timed;
      in_order = driving.in_order;
      units = driving.units;
      turn =
          let round = rounds left.phase moved.phase (length now.rows) phases in
          let turn = rw (let e : n ≡ length now.rows = omega arith in e) at driving.turn in
          omega (arith, round, turn);
      caused =
          let end : n ≡ length now.rows = omega arith in
          let round = rounds left.phase moved.phase (length now.rows) phases in
          let no_more : moved.phase - moved.phase ≡ 0 = omega arith in
          let none = ap (λ (k : ℕ). k * length now.rows) no_more in
          let all : turn_of moved left (length now.rows) n ≡ turn_of moved moved (length now.rows) (length now.rows) =
          ap (turn_of moved left (length now.rows)) end ∙ omega (arith, round, none) in
          subst (λ (turn : ℕ). AreCausedUpTo (length now.rows) now.moment turn (jobs_of now.rows) now.scheduler.events now.scheduler.states)
          all driving.caused;
      room = driving.room;
      room_before = driving.room_before;
    }

-- the row that is read at a place
pub read_row : (rows : List JobRow) (t : ℕ) (read : JobRow) → t < length rows → read ≡ get_or rows t read → (d : JobRow)
    → job_row_at rows t d ≡ read
read_row rows t read within is d =
    get_or_from_slice_get rows t read d (slice_get-get_or rows t read within ∙ ap (λ (r : JobRow). Some r) (sym is))

module _ (from now : DriverData) (n : ℕ) (within : n < length now.rows) (read : JobRow) (is : (d : JobRow)
    → job_row_at now.rows n d ≡ read) where
  -- the driver after it
  abbrev pub then_of : SchedulerData → JobRow → DriverData
  then_of after row = record { scheduler = after; rows = set now.rows n row; horizon = now.horizon; moment = now.moment }

  -- the row has this much to account for
  gains : (room more : ℕ) (row : JobRow) → room + work_of now.moment read ≤ more + work_of now.moment row → (d : JobRow)
      → room + work_of now.moment (job_row_at now.rows n d) ≤ more + work_of now.moment row
  gains room more row gain d =
      let P : JobRow → Type 0 = λ r. room + work_of now.moment r ≤ more + work_of now.moment row in subst P (sym (is d)) gain

  -- the causes of the row's task are those of its jobs
  own_jobs : jobs_at (jobs_of now.rows) n ≡ read.jobs.items
  own_jobs = get_or-map (λ (row : JobRow). row.jobs.items) now.rows n read [] within ∙ ap (λ (r : JobRow). r.jobs.items) (is read)

  own_cause : (flag : Bool) → HasCauseToChange now.scheduler.states n read.jobs.items flag now.moment
      → HasCauseToChange now.scheduler.states n (jobs_at (jobs_of now.rows) n) flag now.moment
  own_cause flag cause =
      let P : List Job → Type 0 = λ jobs. HasCauseToChange now.scheduler.states n jobs flag now.moment in subst P (sym own_jobs) cause

  no_own_cause : (flag : Bool) → (HasCauseToChange now.scheduler.states n read.jobs.items flag now.moment → ⊥)
      → HasCauseToChange now.scheduler.states n (jobs_at (jobs_of now.rows) n) flag now.moment → ⊥
  no_own_cause flag none cause =
      let P : List Job → Type 0 = λ jobs. HasCauseToChange now.scheduler.states n jobs flag now.moment in none (subst P own_jobs cause)

  same_items : (row : JobRow) → row.jobs ≡ read.jobs → (d : JobRow) → row.jobs.items ≡ (job_row_at now.rows n d).jobs.items
  same_items row same d = ap (λ jobs. jobs.items) same ∙ ap (λ (r : JobRow). r.jobs.items) (sym (is d))

  -- ---- jobs are finished
  module _ (driving : IsDriving from now n (settled now.moment) (grown now.moment)) where
    own : IsRowAt now.scheduler.states now.horizon (is_ready now.scheduler.now n) now.moment (grown now.moment) n read
    own =
        let P : JobRow → Type 0 = λ r. IsRowAt now.scheduler.states now.horizon (is_ready now.scheduler.now n) now.moment (grown now.moment)
        n r in
        subst P (is read) (driving.rows_left n read (omega arith) within)

    -- no departure is due
    stays_on : (IsServedAt now.scheduler.states n read.jobs.items now.moment → ⊥)
        → Leaves from now n (settled now.moment) (grown now.moment) driving now.scheduler
    stays_on none = no_event from now n (settled now.moment) (grown now.moment) driving false within (omega arith) (omega arith)
        (no_own_cause false none)

    pub sizes : IsRow read
    sizes = own.sizes

    pub none_settled : (HasCost read → ⊥) → IsDriving from (then_of now.scheduler read) (n + 1) (settled now.moment) (grown now.moment)
    none_settled none =
        one_row_moved from now n (settled now.moment) (grown now.moment) driving now.scheduler
        (stays_on (not_served now.scheduler.states now.horizon (is_ready now.scheduler.now n) now.moment n read own none)) read within
        (same_items read refl)
        (row_not_settled now.scheduler.states now.horizon (is_ready now.scheduler.now n) now.moment n read own none)
        (gains _ _ read (omega arith))

    pub is_ready_then : HasCost read → is_ready now.scheduler.now n ≡ true
    is_ready_then has = own.ready.1 has.0

    module _ (has : HasCost read) (row : JobRow) (ends : Finishes now.moment read row) where
      pub one_settled : HasWork row → IsDriving from (then_of now.scheduler row) (n + 1) (settled now.moment) (grown now.moment)
      one_settled work =
          let released = ends.released in
          let more = one_more now.scheduler.states now.horizon (is_ready now.scheduler.now n) now.moment n read own has row ends
          (is_ready now.scheduler.now n) in
          one_row_moved from now n (settled now.moment) (grown now.moment) driving now.scheduler
          (stays_on (not_served_yet now.scheduler.states now.horizon (is_ready now.scheduler.now n) now.moment n read own has
          (omega arith))) row within (same_items row ends.jobs)
          (row_settled now.scheduler.states now.horizon (is_ready now.scheduler.now n) now.moment n read own has row ends
          (is_ready now.scheduler.now n) (λ h. work, λ w. own.ready.1 has.0))
          (gains _ _ row (let more = work_settled now.moment read row ends in omega arith))

      pub last_settled : (HasWork row → ⊥) → (after : SchedulerData) → Readies n false now.scheduler after
          → IsDriving from (then_of after row) (n + 1) (settled now.moment) (grown now.moment)
      last_settled none after departs =
          let released = ends.released in
          let more = one_more now.scheduler.states now.horizon (is_ready now.scheduler.now n) now.moment n read own has row ends
          (is_ready now.scheduler.now n) in
          let last : read.released ≤ done_of read + 1 = elim (cases_lt (done_of row) row.released)
          [ inl work ↦ absurd (none work) | inr no_work ↦ omega arith ] in
          let leaves = one_event from now n (settled now.moment) (grown now.moment) driving false within (omega arith) (omega arith)
          after departs
          (own_cause false (is_served now.scheduler.states now.horizon (is_ready now.scheduler.now n) now.moment n read own has last)) in
          let room = departs.keeps.room in
          let kept = row_kept now.scheduler.states after.states now.moment leaves.agree n now.horizon (is_ready now.scheduler.now n)
          (is_ready now.scheduler.now n) (grown now.moment) read refl own in
          one_row_moved from now n (settled now.moment) (grown now.moment) driving after leaves row within (same_items row ends.jobs)
          (row_settled after.states now.horizon (is_ready now.scheduler.now n) now.moment n read kept has row ends (is_ready after.now n)
          (λ h. absurd (true≢false (sym h ∙ departs.own)), λ w. absurd (none w)))
          (gains _ _ row (let more = work_settled now.moment read row ends in omega arith))

  -- ---- jobs are released
  pub is_absent_then : IsDriving from now n (supplied now.moment) (settled now.moment) → (HasWork read → ⊥)
      → is_ready now.scheduler.now n ≡ false
  is_absent_then driving none =
      let P : JobRow → Type 0 = λ r. IsRowAt now.scheduler.states now.horizon (is_ready now.scheduler.now n) now.moment (settled now.moment)
      n r in
      let at = subst P (is read) (driving.rows_left n read (omega arith) within) in
      elim (cases_Bool (is_ready now.scheduler.now n)) [
        | inl h ↦ absurd (none (at.ready.0 h))
        | inr h ↦ h
      ]

  module _ (driving : IsDriving from now n (supplied now.moment) (settled now.moment)) (row : JobRow)
      (begins : Releases now.moment read row) where
    own_then : IsRowAt now.scheduler.states now.horizon (is_ready now.scheduler.now n) now.moment (settled now.moment) n read
    own_then =
        let P : JobRow → Type 0 = λ r. IsRowAt now.scheduler.states now.horizon (is_ready now.scheduler.now n) now.moment
        (settled now.moment) n r in
        subst P (is read) (driving.rows_left n read (omega arith) within)

    -- no job has its cost
    unfinished : HasCost read → ⊥
    unfinished (work, cost) = let high = own_then.high work in omega arith

    same_done : done_of row ≡ done_of read
    same_done = rw begins.finishes refl

    -- no arrival is due
    stays_off : (IsAskedAt now.scheduler.states n read.jobs.items now.moment → ⊥)
        → Leaves from now n (supplied now.moment) (settled now.moment) driving now.scheduler
    stays_off none = no_event from now n (supplied now.moment) (settled now.moment) driving true within (omega arith) (omega arith)
        (no_own_cause true none)

    -- the task was absent and stays so
    none_arrives : (HasWork read → ⊥) → (HasWork row → ⊥)
        → IsDriving from (then_of now.scheduler row) (n + 1) (supplied now.moment) (settled now.moment)
    none_arrives before after =
        let few = own_then.sizes.few in
        let more = begins.more in
        let same : row.released ≡ read.released = elim (cases_lt (done_of read) row.released)
        [ inl work ↦ absurd (after (omega (arith, same_done))) | inr no_work ↦ omega arith ] in
        one_row_moved from now n (supplied now.moment) (settled now.moment) driving now.scheduler
        (stays_off (not_asked now.scheduler.states now.horizon (is_ready now.scheduler.now n) now.moment n read own_then row begins same))
        row within (same_items row begins.jobs)
        (row_supplied now.scheduler.states now.horizon (is_ready now.scheduler.now n) now.moment n read own_then row begins
        (is_ready now.scheduler.now n)
        (λ h. absurd (before (own_then.ready.0 h)), λ w. absurd (after w)))
        (gains _ _ row (let more = work_supplied now.moment read row begins unfinished in omega arith))

    still_ready : HasWork read → IsDriving from (then_of now.scheduler row) (n + 1) (supplied now.moment) (settled now.moment)
    still_ready work =
        let more = begins.more in
        one_row_moved from now n (supplied now.moment) (settled now.moment) driving now.scheduler
        (stays_off (not_asked_with_work now.scheduler.states now.horizon (is_ready now.scheduler.now n)
        now.moment n read own_then row begins work)) row within (same_items row begins.jobs)
        (row_supplied now.scheduler.states now.horizon (is_ready now.scheduler.now n) now.moment n read own_then row begins
        (is_ready now.scheduler.now n)
        (λ h. omega (arith, same_done), λ w. own_then.ready.1 work))
        (gains _ _ row (let gain = work_supplied now.moment read row begins unfinished in omega arith))

    -- it was ready before, or has no work now
    pub stays : ((HasWork read → ⊥) → HasWork row → ⊥)
        → IsDriving from (then_of now.scheduler row) (n + 1) (supplied now.moment) (settled now.moment)
    stays none = elim (cases_lt (done_of read) read.released) [
      | inl work ↦ still_ready work
      | inr no_work ↦ (let absent : HasWork read → ⊥ = λ work. omega arith in none_arrives absent (none absent))
    ]

    pub one_arrives : (HasWork read → ⊥) → HasWork row → (after : SchedulerData) → Readies n true now.scheduler after
        → IsDriving from (then_of after row) (n + 1) (supplied now.moment) (settled now.moment)
    one_arrives none work after arrives =
        let room = arrives.keeps.room in
        let few = own_then.sizes.few in
        let idle : done_of read ≡ read.released = elim (cases_lt (done_of read) read.released)
        [ inl is_work ↦ absurd (none is_work) | inr no_work ↦ omega arith ] in
        let some : read.released < row.released = omega (arith, same_done) in
        let leaves = one_event from now n (supplied now.moment) (settled now.moment) driving true within (omega arith) (omega arith)
        after arrives
        (own_cause true (is_asked now.scheduler.states now.horizon (is_ready now.scheduler.now n) now.moment n read own_then row begins idle
        some)) in
        let kept = row_kept now.scheduler.states after.states now.moment leaves.agree n now.horizon (is_ready now.scheduler.now n)
        (is_ready now.scheduler.now n) (settled now.moment) read refl own_then in
        one_row_moved from now n (supplied now.moment) (settled now.moment) driving after leaves row within (same_items row begins.jobs)
        (row_supplied after.states now.horizon (is_ready now.scheduler.now n) now.moment n read kept row begins (is_ready after.now n)
        (λ h. work, λ w. arrives.own))
        (gains _ _ row (let more = work_more_supplied now.moment read row begins unfinished some in omega arith))
