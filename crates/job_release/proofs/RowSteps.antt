-- A row from step to step.
use Rattle.std.proofs.Common.{◌≡◌, ℕ, suc, ◌+◌, ◌-◌, ◌<◌, ◌≤◌, ◌↔◌, Bool, true, false, List, length, Option, if◌then◌else◌, sym, ap, ◌∙◌}
use Rattle.std.proofs.Common.{subst, inl, inr, arith}
use Rattle.std.proofs.lemmas.Bool.{cases_Bool, cases_lt}
use Rattle.strong_apa.specs.State.{State, is_ready, is_linked}
use Rattle.job_release.specs.Jobs.{goal_of, demand}
use Rattle.job_release.specs.Driven.{IsReadyWhileWorkIsLeft, GetsNoMore, RunsOnlyReady}
use Rattle.job_release.specs.Driving.{IsRowAt, Mark, done_of, asked_by, HasWork, grown, supplied, IsNotAfter, JobRowRuns}
use Rattle.job_release.specs.EventCauses.{HasCauseToChange, earlier_demand}
use Rattle.job_release.specs.Moments.{Timeline, service_of, IsFinish}
use Rattle.job_release.specs.Moves.{place_of, later_place, is_other_place, last_place, moves_of}
use Rattle.job_release.specs.declared.input.Job.{Job}
use Rattle.job_release.specs.declared.row.JobRow.{JobRow}
use Rattle.job_release.proofs.Causes.{earlier_is}
use Rattle.job_release.proofs.Demands.{released_later, goal_more, asked_upto, demand_is}
use Rattle.job_release.proofs.Moments.{same_service, service_while}
use Rattle.job_release.proofs.Moves.{same_place, same_moves, place_while, moves_while}

-- ---- the states of more moments
-- the states below the moment are the same
abbrev pub Agree : Timeline → Timeline → ℕ → Type 0
Agree states longer moment = (x : ℕ) → x < moment → longer x ≡ states x

module _ (states longer : Timeline) (moment : ℕ) (agree : Agree states longer moment) (t : ℕ) where
  serves : (x : ℕ) → x ≤ moment → service_of longer t x ≡ service_of states t x
  serves x within = same_service longer states t x (λ y below. agree y (omega arith))

  kept_iff : (r r' : Bool) (n n' w : ℕ) → r' ≡ r → n' ≡ n → (r ≡ true) ↔ (n < w) → (r' ≡ true) ↔ (n' < w)
  kept_iff r r' n n' w flags counts old = (λ h. rw counts (old.0 (sym flags ∙ h)), λ h. flags ∙ old.1 (rw counts at h))

  ready_kept : (jobs : List Job) (x : ℕ) → x < moment → IsReadyWhileWorkIsLeft states t jobs x → IsReadyWhileWorkIsLeft longer t jobs x
  ready_kept jobs x below old =
      kept_iff (is_ready (states x) t) (is_ready (longer x) t) (service_of states t x) (service_of longer t x)
      (demand jobs x) (ap (λ (s : State). is_ready s t) (agree x below)) (serves x (omega arith)) old

  service_kept : (x w : ℕ) → x ≤ moment → service_of states t x ≤ w → service_of longer t x ≤ w
  service_kept x w within old = let P : ℕ → Type 0 = λ n. n ≤ w in subst P (sym (serves x within)) old

  below_kept : (x w : ℕ) → x ≤ moment → service_of states t x < w → service_of longer t x < w
  below_kept x w within old = let P : ℕ → Type 0 = λ n. n < w in subst P (sym (serves x within)) old

  from_kept : (x w : ℕ) → x ≤ moment → w ≤ service_of states t x → w ≤ service_of longer t x
  from_kept x w within old = let P : ℕ → Type 0 = λ n. w ≤ n in subst P (sym (serves x within)) old

  finish_kept : (goal x : ℕ) → IsFinish states t goal moment x → IsFinish longer t goal moment x
  finish_kept goal x old =
      let within = old.within in record {
        within = within;
        got = from_kept x goal within old.got;
        least = λ y below. below_kept y goal (omega arith) (old.least y below);
      }

  -- the row of a task whose flag stays
  pub row_kept : (horizon : ℕ) (flag flag' : Bool) (mark : Mark) (row : JobRow) → flag' ≡ flag
      → IsRowAt states horizon flag moment mark t row → IsRowAt longer horizon flag' moment mark t row
  row_kept horizon flag flag' mark row same old = record {
    sizes = old.sizes;
    jobs = old.jobs;
    count = old.count;
    past = λ x below. ready_kept row.jobs.items x below (old.past x below);
    past_service = λ x below. service_kept x _ (omega arith) (old.past_service x below);
    past_linked = λ x below. let P : State → Type 0 = λ s. is_linked s t ≡ true
        → is_ready s t ≡ true in subst P (sym (agree x below)) (old.past_linked x below);
    service = old.service ∙ sym (serves moment (omega arith));
    finishes = λ k d few. finish_kept _ _ (old.finishes k d few);
    unfinished = λ x below within. below_kept x _ (omega arith) (old.unfinished x below within);
    due_before = old.due_before;
    due_next = old.due_next;
    low = old.low;
    high = old.high;
    idle = old.idle;
    rested = λ slack idle. old.rested slack idle ∙ sym (serves (moment - 1) (omega arith));
    ready = (λ h. old.ready.0 (sym same ∙ h), λ h. same ∙ old.ready.1 h);
    place = old.place ∙ sym (same_place longer states t moment agree);
    moves = old.moves ∙ sym (same_moves longer states t moment agree);
  }

-- ---- the first job that is not finished
module _ (states : Timeline) (horizon : ℕ) (flag : Bool) (moment t : ℕ) (mark : Mark) (row : JobRow)
    (at : IsRowAt states horizon flag moment mark t row) where
  -- it is not yet served, where those with their cost are finished
  pub is_short : mark.slack ≡ 0 → done_of row < length row.jobs.items → row.service < goal_of row.jobs.items (done_of row)
  is_short none within = elim (cases_lt (done_of row) row.released) [
    | inl work ↦ (let high = at.high work in omega arith)
    | inr no_work ↦ (
        let few = at.sizes.few in
        let idle = at.idle (omega arith) in
        let asked = at.sizes.asked in
        let more = goal_more horizon row.jobs.items at.jobs (done_of row) within in
        omega arith)
  ]

  pub goal_within : HasWork row → goal_of row.jobs.items (done_of row) ≤ asked_by row.jobs.items row.released
  goal_within work = asked_upto row.jobs.items (done_of row + 1) row.released (omega arith)

-- ---- time passes
module _ (states : Timeline) (horizon : ℕ) (links : State) (moment next : ℕ) (after : moment < next)
    (still : (y : ℕ) → moment ≤ y → y < next → states y ≡ links) (t : ℕ) (row : JobRow) (runs_ready : is_linked links t ≡ true
    → is_ready links t ≡ true)
    (old : IsRowAt states horizon (is_ready links t) moment (supplied moment) t row) (not_after : IsNotAfter links moment next t row) where
  abbrev done : ℕ
  done = done_of row

  abbrev jobs : List Job
  jobs = row.jobs.items

  abbrev goal : ℕ
  goal = goal_of jobs done

  served_linked : is_linked links t ≡ true → (x : ℕ) → moment ≤ x → x ≤ next → service_of states t x ≡ row.service + (x - moment)
  served_linked linked x from upto =
      let place : x ≡ moment + (x - moment) = omega arith in
      let run : service_of states t (moment + (x - moment)) ≡ service_of states t moment + (x - moment) =
      rw linked at (service_while states t moment (x - moment) links (λ y from' below. still y from' (omega arith))) in
      ap (service_of states t) place ∙ run ∙ ap (λ (n : ℕ). n + (x - moment)) (sym old.service)

  served_not : is_linked links t ≡ false → (x : ℕ) → moment ≤ x → x ≤ next → service_of states t x ≡ row.service
  served_not not_linked x from upto =
      let place : x ≡ moment + (x - moment) = omega arith in
      let run : service_of states t (moment + (x - moment)) ≡ service_of states t moment + 0 =
      rw not_linked at (service_while states t moment (x - moment) links (λ y from' below. still y from' (omega arith))) in
      ap (service_of states t) place ∙ run ∙ ap (λ (n : ℕ). n + 0) (sym old.service) ∙ omega arith

  -- without work it is not linked
  not_linked_idle : done ≡ row.released → is_linked links t ≡ false
  not_linked_idle idle = elim (cases_Bool (is_linked links t)) [
    | inl linked ↦ absurd (let work = old.ready.0 (runs_ready linked) in omega arith)
    | inr not_linked ↦ not_linked
  ]

  below_goal : (x : ℕ) → moment ≤ x → x < next → done < length jobs → service_of states t x < goal
  below_goal x from below within = elim (cases_Bool (is_linked links t)) [
    | inl linked ↦ (
        let s = served_linked linked x from (omega arith) in
        let finish = not_after.finish linked in
        let P : ℕ → Type 0 = λ n. n < goal in
        let high = is_short states horizon (is_ready links t) moment t (supplied moment) row old (omega arith) within in
        subst P (sym s) (omega arith))
    | inr not_linked ↦ (
        let s = served_not not_linked x from (omega arith) in
        let P : ℕ → Type 0 = λ n. n < goal in
        let high = is_short states horizon (is_ready links t) moment t (supplied moment) row old (omega arith) within in
        subst P (sym s) high)
  ]

  -- what its released jobs ask for
  asked_here : (x : ℕ) → moment ≤ x → x < next → demand jobs x ≡ asked_by jobs row.released
  asked_here x from below =
      demand_is jobs row.released x old.sizes.listed (λ k few. let due = old.due_before k few in omega arith)
      (λ k later within.
      let next_one = not_after.release (omega arith) in
      let order = released_later horizon jobs old.jobs row.released k later within in
      omega arith)

  idle_service : done ≡ row.released → (x : ℕ) → moment ≤ x → x ≤ next → service_of states t x ≡ asked_by jobs row.released
  idle_service idle x from upto = served_not (not_linked_idle idle) x from upto ∙ old.idle idle ∙ old.sizes.asked ∙ ap (asked_by jobs) idle

  no_more_here : (x : ℕ) → moment ≤ x → x < next → service_of states t x ≤ asked_by jobs row.released
  no_more_here x from below = elim (cases_lt done row.released) [
    | inl work ↦ (
        let listed = old.sizes.listed in
        let goal_upto = goal_within states horizon (is_ready links t) moment t (supplied moment) row old work in
        let short = below_goal x from below (omega arith) in
        omega (arith, goal_upto, short))
    | inr none ↦ (
        let few = old.sizes.few in
        let all = idle_service (omega arith) x from (omega arith) in
        omega (arith, all))
  ]

  ready_here : (x : ℕ) → moment ≤ x → x < next → (is_ready links t ≡ true) ↔ (service_of states t x < asked_by jobs row.released)
  ready_here x from below = (
    λ h.
        let work = old.ready.0 h in
        let listed = old.sizes.listed in
        let goal_upto = goal_within states horizon (is_ready links t) moment t (supplied moment) row old work in
        let short = below_goal x from below (omega arith) in
        omega (arith, goal_upto, short),
    λ less. elim (cases_lt done row.released) [
      | inl work ↦ old.ready.1 work
      | inr none ↦ absurd (
          let few = old.sizes.few in
          let all = idle_service (omega arith) x from (omega arith) in
          omega (arith, all, less))
    ],
  )

  past_here : (x : ℕ) → x < next → IsReadyWhileWorkIsLeft states t jobs x
  past_here x below = elim (cases_lt x moment) [
    | inl before ↦ old.past x before
    | inr from ↦ (
        let here = ready_here x from below in
        let flag : is_ready (states x) t ≡ is_ready links t = ap (λ (s : State). is_ready s t) (still x from below) in
        let asked = asked_here x from below in
        let P : ℕ → Type 0 = λ n. service_of states t x < n in
        (λ h. subst P (sym asked) (here.0 (sym flag ∙ h)), λ h. flag ∙ here.1 (subst P asked h)))
  ]

  past_service_here : (x : ℕ) → x < next → GetsNoMore states t jobs x
  past_service_here x below = elim (cases_lt x moment) [
    | inl before ↦ old.past_service x before
    | inr from ↦ (
        let P : ℕ → Type 0 = λ n. service_of states t x ≤ n in
        subst P (sym (asked_here x from below)) (no_more_here x from below))
  ]

  past_linked_here : (x : ℕ) → x < next → RunsOnlyReady states t x
  past_linked_here x below = elim (cases_lt x moment) [
    | inl before ↦ old.past_linked x before
    | inr from ↦ (let P : State → Type 0 = λ s. is_linked s t ≡ true → is_ready s t ≡ true in subst P (sym (still x from below)) runs_ready)
  ]

  -- the task has no cause to depart or to arrive on the way
  pub no_cause : (x : ℕ) (change : Bool) → moment < x → x < next → HasCauseToChange states t jobs change x → ⊥
  no_cause x change after_moment below cause =
      let earlier : earlier_demand jobs x ≡ asked_by jobs row.released =
      earlier_is jobs row.released x old.sizes.listed (λ k few. let due = old.due_before k few in omega arith)
      (λ k later within.
      let next_one = not_after.release (omega arith) in
      let order = released_later horizon jobs old.jobs row.released k later within in
      omega arith) in
      by change cause earlier
    where
      by : (change : Bool) → HasCauseToChange states t jobs change x → earlier_demand jobs x ≡ asked_by jobs row.released → ⊥
      by true cause earlier = let more = cause.1 in let asked = asked_here x (omega arith) below in omega (arith, earlier, more, asked)
      by false cause earlier =
          let less = cause.1 in
          let meets = cause.0 in
          let ready = (ready_here (x - 1) (omega arith) (omega arith)).1 (omega (arith, less, earlier)) in
          let short = (ready_here x (omega arith) below).0 ready in
          omega (arith, short, meets, earlier)

  module _ (new : JobRow) (ran : JobRowRuns (is_linked links t) (place_of links t) (next - moment) row new) where
    ran_service : new.service ≡ service_of states t next
    ran_service = elim (cases_Bool (is_linked links t)) [
      | inl linked ↦ (let run : new.service ≡ row.service + (next - moment) = rw linked at ran.service in run
          ∙ sym (served_linked linked next (omega arith) (omega arith)))
      | inr not_linked ↦ (let run : new.service ≡ row.service + 0 = rw not_linked at ran.service in run ∙ (omega arith)
          ∙ sym (served_not not_linked next (omega arith) (omega arith)))
    ]

    ran_more : row.service ≤ new.service
    ran_more = elim (cases_Bool (is_linked links t)) [
      | inl linked ↦ (let run : new.service ≡ row.service + (next - moment) = rw linked at ran.service in omega arith)
      | inr not_linked ↦ (let run : new.service ≡ row.service + 0 = rw not_linked at ran.service in omega arith)
    ]

    ran_high : HasWork row → new.service < goal + 1
    ran_high work = elim (cases_Bool (is_linked links t)) [
      | inl linked ↦ (
          let run : new.service ≡ row.service + (next - moment) = rw linked at ran.service in
          let finish = not_after.finish linked in
          omega (arith, finish))
      | inr not_linked ↦ (
          let run : new.service ≡ row.service + 0 = rw not_linked at ran.service in
          let high = old.high work in
          omega arith)
    ]

    ran_idle : done ≡ row.released → new.service ≡ row.service
    ran_idle idle =
        let run : new.service ≡ row.service + 0 = rw (not_linked_idle idle) at ran.service in
        omega arith

    -- time passed by one moment at least
    next_is : next ≡ moment + suc (next - moment - 1)
    next_is = omega arith

    still_then : (y : ℕ) → moment ≤ y → y < moment + suc (next - moment - 1) → states y ≡ links
    still_then y from below = still y from (omega (arith, next_is))

    ran_place : new.place ≡ last_place states t next
    ran_place =
        ran.place ∙ ap (λ (earlier : Option ℕ). later_place earlier (place_of links t)) old.place
        ∙ sym (place_while states t moment links (next - moment - 1) still_then) ∙ ap (last_place states t) (sym next_is)

    ran_moves : new.moves ≡ moves_of states t next
    ran_moves =
        let moved = ap {B = ℕ} (λ (earlier : Option ℕ). if is_other_place earlier (place_of links t) then 1 else 0) old.place in
        ran.moves ∙ omega (arith, moved, old.moves) ∙ sym (moves_while states t moment links (next - moment - 1) still_then)
        ∙ ap (moves_of states t) (sym next_is)

    -- the row of a task after a tick
    pub row_ran : IsRowAt states horizon (is_ready links t) next (grown next) t new
    row_ran =
        rw (ran.jobs, ran.released, ran.finishes) (record {
          sizes = record {
            few = old.sizes.few;
            listed = old.sizes.listed;
            asked = ran.asked ∙ old.sizes.asked;
            fits = (let fits = old.sizes.fits in let same = ran.asked in omega arith);
          };
          jobs = old.jobs;
          count = old.count;
          past = past_here;
          past_service = past_service_here;
          past_linked = past_linked_here;
          service = ran_service;
          finishes = λ k d few. let old_one = old.finishes k d few in let within = old_one.within in
              record { within = omega arith; got = old_one.got; least = old_one.least };
          unfinished = λ x below within. elim (cases_lt x moment) [
            | inl before ↦ old.unfinished x before within
            | inr from
                ↦ below_goal x from below within
          ];
          due_before = λ k few. let due = old.due_before k few in omega arith;
          due_next = not_after.release;
          low = (let low = old.low in let same = ran.asked in omega (arith, low, ran_more));
          high = ran_high;
          idle = λ idle. ran_idle idle ∙ old.idle idle ∙ sym ran.asked;
          rested = λ slack idle. ran_service ∙ idle_service idle next (omega arith) (omega arith)
              ∙ sym (idle_service idle (next - 1) (omega arith) (omega arith));
          ready = old.ready;
          place = ran_place;
          moves = ran_moves;
        })
