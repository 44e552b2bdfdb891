-- Why events come, as a driver goes from turn to turn and from moment to moment.
use Rattle.std.proofs.Common.{◌≡◌, ℕ, zero, suc, ◌+◌, ◌-◌, ◌<◌, ◌≤◌, ◌↔◌, Bool, true, false, List, [], ◌∷◌, ◌++◌, length, refl, sym, ap}
use Rattle.std.proofs.Common.{◌∙◌, subst, inl, inr, arith}
use Rattle.std.proofs.lemmas.Bool.{cases_lt, cases_eq}
use Rattle.task_set.specs.declared.event.Event.{Event}
use Rattle.task_set.specs.declared.event.Event.TheVariants.{Tick}
use Rattle.job_release.specs.Driving.{AreCausedUpTo, asked_by}
use Rattle.job_release.specs.EventCauses.{ComesAt, HasCauseToChange, earlier_demand}
use Rattle.job_release.specs.EventOrder.{AreInOrder, turn_after, turn_after_all, event_of, own_turn}
use Rattle.job_release.specs.JobInput.{jobs_at}
use Rattle.job_release.specs.Jobs.{job_at}
use Rattle.job_release.specs.declared.input.Job.{Job}
use Rattle.job_release.specs.Moments.{Timeline, service_of}
use Rattle.job_release.specs.WeakRuns.{elapsed_at}
use Rattle.job_release.proofs.Demands.{demand_is}
use Rattle.job_release.proofs.EventOrders.{same_turn, after_own_turn, tick_is_no_change, not_come, comes_within, comes_before, comes_last}
use Rattle.job_release.proofs.EventOrders.{comes_of_more}
use Rattle.job_release.proofs.Moments.{same_service}

-- ---- what is asked for before a moment
-- the first r jobs are released before the moment, and no other one
pub earlier_is : (jobs : List Job) (r x : ℕ) → r ≤ length jobs → ((k : ℕ) → k < r → (job_at jobs k).release < x)
    → ((k : ℕ) → r ≤ k → k < length jobs → x ≤ (job_at jobs k).release)
    → earlier_demand jobs x ≡ asked_by jobs r
earlier_is jobs zero zero few before after = refl
earlier_is jobs (suc r) zero few before after = absurd (let first = before 0 (omega arith) in omega arith)
earlier_is jobs r (suc y) few before after = demand_is jobs r y few (λ k below. let early = before k below in omega arith)
    (λ k from within. let late = after k from within in omega arith)

-- ---- the cause follows from the states before the moment
pub same_cause : (states other : Timeline) (t x : ℕ) → ((y : ℕ) → y < x → other y ≡ states y) → (jobs : List Job) (flag : Bool)
    → HasCauseToChange states t jobs flag x → HasCauseToChange other t jobs flag x
same_cause states other t x agree jobs true cause = (same_service other states t x agree ∙ cause.0, cause.1)
same_cause states other t x agree jobs false cause =
    let before : service_of other t (x - 1) ≡ service_of states t (x - 1) = same_service other states t (x - 1)
    (λ y below. agree y (omega arith)) in
    let P : ℕ → Type 0 = λ n. n < earlier_demand jobs x in
    (same_service other states t x agree ∙ cause.0, subst P (sym before) cause.1)

-- ---- one turn more
module _ (count moment turn : ℕ) (jobs : List (List Job)) (events : List Event) (states : Timeline)
    (old : AreCausedUpTo count moment turn jobs events states)
    (u : ℕ) (g : Bool) (number : u < count) (own : turn ≡ own_turn count u g) where
  -- what holds up to the turn and of the turn
  one_more : (P : ℕ → ℕ → Bool → Type 0) → ((t x : ℕ) (flag : Bool) → t < count → x ≤ moment → (x ≡ moment → own_turn count t flag < turn)
      → P t x flag) → P u moment g
      → (t x : ℕ) (flag : Bool) → t < count → x ≤ moment → (x ≡ moment → own_turn count t flag < turn + 1) → P t x flag
  one_more P before here t x flag within upto turns = elim (cases_eq x moment) [
    | inr differs ↦ before t x flag within upto (λ same. absurd (differs same))
    | inl same ↦ elim (cases_lt (own_turn count t flag) turn) [
      | inl below ↦ before t x flag within upto (λ is. below)
      | inr from ↦ (
          let last = turns same in
          let is = same_turn count t u flag g within number (omega arith) in
          subst (λ (k : ℕ). P k x flag) (sym is.0) (subst (λ (b : Bool). P u x b) (sym is.1) (subst (λ (y : ℕ). P u y g) (sym same) here)))
    ]
  ]

  -- a task without a cause
  pub without_cause : elapsed_at events ≡ moment → AreInOrder count 0 events → turn_after_all count 0 events ≤ turn
      → (HasCauseToChange states u (jobs_at jobs u) g moment → ⊥)
      → AreCausedUpTo count moment (turn + 1) jobs events states
  without_cause at order so_far none =
      one_more (λ t x flag. ComesAt events (event_of t flag) x ↔ HasCauseToChange states t (jobs_at jobs t) flag x) old (
        λ comes. absurd (not_come count 0 events u g order (omega arith) (subst (ComesAt events (event_of u g)) (sym at) comes)),
        λ cause. absurd (none cause),
      )

  -- a task with one, which becomes ready or absent
  pub with_cause : elapsed_at events ≡ moment → (new : Timeline) → ((y : ℕ) → y < moment → new y ≡ states y)
      → HasCauseToChange states u (jobs_at jobs u) g moment
      → AreCausedUpTo count moment (turn + 1) jobs (events ++ event_of u g ∷ []) new
  with_cause at new agree cause =
      one_more (λ t x flag. ComesAt (events ++ event_of u g ∷ []) (event_of t flag) x ↔ HasCauseToChange new t (jobs_at jobs t) flag x)
      (λ t x flag within upto turns.
      let was = old t x flag within upto turns in (
        λ comes. elim (comes_of_more events (event_of u g) (event_of t flag) x comes) [
          | inl before ↦ same_cause states new t x (λ y below. agree y (omega arith)) (jobs_at jobs t) flag (was.0 before)
          | inr last ↦ absurd (
              let other = turns (last.1 ∙ at) in
              let same : own_turn count u g + 1 ≡ own_turn count t flag + 1 = sym (after_own_turn count 0 u g)
              ∙ ap (turn_after count 0) last.0 ∙ after_own_turn count 0 t flag in
              omega arith)
        ],
        λ has. comes_before events (event_of u g) (event_of t flag) x
            (was.1 (same_cause new states t x (λ y below. sym (agree y (omega arith))) (jobs_at jobs t) flag has)),
      )) (
        λ comes. same_cause states new u moment agree (jobs_at jobs u) g cause,
        λ has. subst (ComesAt (events ++ event_of u g ∷ []) (event_of u g)) at (comes_last events (event_of u g)),
      )

-- ---- time passes, at all turns of the moment
pub causes_after : (count moment turn next units : ℕ) (jobs : List (List Job)) (events : List Event) (states new : Timeline)
    → AreCausedUpTo count moment turn jobs events states
    → ((t : ℕ) (flag : Bool) → t < count → own_turn count t flag < turn) → elapsed_at events ≡ moment
    → ((y : ℕ) → y < moment → new y ≡ states y)
    → ((t x : ℕ) (flag : Bool) → t < count → moment < x → x < next → HasCauseToChange new t (jobs_at jobs t) flag x → ⊥)
    → AreCausedUpTo count next 0 jobs (events ++ Tick units ∷ []) new
causes_after count moment turn next units jobs events states new old all at agree none t x flag within upto turns =
    elim (cases_lt moment x) [
      | inl later ↦ (
        λ comes. elim (comes_of_more events (Tick units) (event_of t flag) x comes) [
          | inl before ↦ absurd (let here = comes_within events (event_of t flag) x before in omega arith)
          | inr last ↦ absurd (tick_is_no_change units t flag last.0)
        ],
        λ has. absurd (none t x flag within later
            (elim (cases_lt x next) [ inl below ↦ below | inr from ↦ absurd (let no_turn = turns (omega arith) in omega arith) ]) has),
      )
      | inr now ↦ (
          let was = old t x flag within now (λ is. all t flag within) in (
            λ comes. elim (comes_of_more events (Tick units) (event_of t flag) x comes) [
              | inl before ↦ same_cause states new t x (λ y below. agree y (omega arith)) (jobs_at jobs t) flag (was.0 before)
              | inr last ↦ absurd (tick_is_no_change units t flag last.0)
            ],
            λ has. comes_before events (Tick units) (event_of t flag) x
                (was.1 (same_cause new states t x (λ y below. sym (agree y (omega arith))) (jobs_at jobs t) flag has)),
          ))
    ]

-- ---- at the first moment
pub no_cause_yet : (states : Timeline) (t : ℕ) (jobs : List Job) (x : ℕ) → x ≤ 0 → HasCauseToChange states t jobs false x → ⊥
no_cause_yet states t jobs zero first cause = let less = cause.1 in omega arith
no_cause_yet states t jobs (suc x) first cause = absurd (omega arith)
