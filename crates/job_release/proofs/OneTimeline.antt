-- The states of each moment follow from the input, where a scheduler has no choice: each event that comes has a cause, each cause brings
-- its event, and the cause follows from the moments before. Two runs are followed side by side; only their ticks may be cut otherwise.
use Rattle.std.proofs.Common.{◌≡◌, ℕ, zero, suc, ◌+◌, ◌-◌, ◌<◌, ◌≤◌, ◌↔◌, ◌⊎◌, Bool, true, false, List, [], ◌∷◌, length, nat_lt, refl, sym}
use Rattle.std.proofs.Common.{ap, ◌∙◌, subst, inl, inr, arith}
use Rattle.std.proofs.lemmas.Bool.{cases_lt}
use Rattle.std.proofs.lemmas.Bool.Decides.{nat_tests}
use Rattle.std.proofs.lemmas.List.Sums.{sum_by-cons}
use Rattle.task_set.specs.declared.event.Event.{Event}
use Rattle.task_set.specs.declared.event.Event.TheVariants.{Arrive, Depart, Tick, Affinity, Offline, Online}
use Rattle.strong_apa.specs.State.{State, IsState}
use Rattle.job_release.specs.EventCauses.{AreCaused, ComesAt, HasCauseToChange}
use Rattle.job_release.specs.EventOrder.{IsInTurn, AreInOrder, turn_after, event_of, own_turn}
use Rattle.job_release.specs.JobInput.{JobInputData, jobs_at}
use Rattle.job_release.specs.Moments.{Timeline, units_of}
use Rattle.job_release.specs.WeakRuns.{elapsed_at, state_then}
use Rattle.job_release.proofs.Causes.{same_cause}
use Rattle.job_release.proofs.EventOrders.{same_turn, after_own_turn, in_own_turn, no_units, tick_is_no_change, later_turn, comes_no_more}

-- ---- an event that comes in its turn
-- it is a tick, or a change of a task
abbrev TickOrChange : ℕ → ℕ → Event → Type 0
TickOrChange n turn event =
    ((units : ℕ) × (event ≡ Tick units) × (0 < units)) ⊎ ((t : ℕ) × (f : Bool) × (event ≡ event_of t f) × (t < n) × (turn ≤ own_turn n t f))

kind_of : (n turn : ℕ) (event : Event) → IsInTurn n turn event → TickOrChange n turn event
kind_of n turn (Arrive t) is = inr (t, true, refl, is.1, is.0)
kind_of n turn (Depart t) is = inr (t, false, refl, is.1, is.0)
kind_of n turn (Tick units) is = inl (units, refl, is)
kind_of n turn (Affinity t mask) is = absurd is
kind_of n turn (Offline p) is = absurd is
kind_of n turn (Online p) is = absurd is

-- before a tick no change comes at the moment
tick_first : (event : Event) (events : List Event) (units t : ℕ) (f : Bool) → event ≡ Tick units → 0 < units
    → ComesAt (event ∷ events) (event_of t f) 0 → ⊥
tick_first event events units t f is some (inl here) = tick_is_no_change units t f (sym is ∙ here.0)
tick_first event events units t f is some (inr later) = let same = ap units_of is in let few = later.0 in omega arith

-- the order holds from the turn of the first event on
from_own_turn : (n turn t : ℕ) (f : Bool) (event : Event) (events : List Event) → event ≡ event_of t f → t < n
    → AreInOrder n turn (event ∷ events) → AreInOrder n (own_turn n t f) (event ∷ events)
from_own_turn n turn t f event events is number order =
    let own = own_turn n t f in
    let same : turn_after n turn event ≡ turn_after n own event = ap (turn_after n turn) is ∙ after_own_turn n turn t f
    ∙ sym (ap (turn_after n own) is ∙ after_own_turn n own t f) in (
      subst (IsInTurn n own) (sym is) (in_own_turn n own t f number (omega arith)),
      subst (λ (k : ℕ). AreInOrder n k events) same order.1,
    )

-- the states of a scheduler after each of these events, by its steps
abbrev pub IsRun : (State → Event → State → Type 0) → State → List Event → List State → Type 0
IsRun Step s [] [] = Unit {0}
IsRun Step s (event ∷ events) (new ∷ states) = Step s event new × IsRun Step new events states
IsRun Step s _ _ = ⊥

-- ---- a scheduler that has no choice, and to which a tick means nothing
module _ (Step : State → Event → State → Type 0)
    (once : (s : State) (event : Event) (new next : State) → IsState s → Step s event new → Step s event next → new ≡ next)
    (keeps : (s : State) (event : Event) (new : State) → IsState s → Step s event new → IsState new)
    (still : (s : State) (units : ℕ) (new : State) → Step s (Tick units) new → new ≡ s)
    (ticks : (s : State) (units : ℕ) → Step s (Tick units) s) where
  module _ (input : JobInputData) where
    abbrev n : ℕ
    n = length input.jobs

    -- what is left of a run at a turn of the moment m
    pub record IsLeft (states : Timeline) (m turn : ℕ) (s : State) (events : List Event) (after : List State) : Type 0 where
      pub state : IsState s
      pub run : IsRun Step s events after
      pub order : AreInOrder n turn events
      pub whole : m + elapsed_at events ≡ input.horizon
      pub then_is : (y : ℕ) → states (m + y) ≡ state_then s events after y
      pub caused : (t y : ℕ) (f : Bool) → t < n → m + y ≤ input.horizon → (y ≡ 0 → turn ≤ own_turn n t f)
          → ComesAt events (event_of t f) y ↔ HasCauseToChange states t (jobs_at input.jobs t) f (m + y)

    -- ---- after one event
    module _ (states : Timeline) (m turn : ℕ) (s a : State) (event : Event) (events : List Event) (after : List State)
        (left : IsLeft states m turn s (event ∷ events) (a ∷ after)) where
      abbrev units : ℕ
      units = units_of event

      then_after : (y : ℕ) → states (m + units + y) ≡ state_then a events after y
      then_after y =
          let place : m + units + y ≡ m + (units + y) = omega arith in
          let past : nat_lt (units + y) units ≡ false = grind (arith, nat_tests) in
          let rest : units + y - units ≡ y = omega arith in
          ap states place ∙ left.then_is (units + y) ∙ rw (past, rest) refl

      caused_after : (t y : ℕ) (f : Bool) → t < n → m + units + y ≤ input.horizon → (y ≡ 0 → turn_after n turn event ≤ own_turn n t f)
          → ComesAt events (event_of t f) y ↔ HasCauseToChange states t (jobs_at input.jobs t) f (m + units + y)
      caused_after t y f number within turns =
          let place : m + units + y ≡ m + (units + y) = omega arith in
          let rest : units + y - units ≡ y = omega arith in
          let P : ℕ → Type 0 = λ x. HasCauseToChange states t (jobs_at input.jobs t) f x in
          let was = left.caused t (units + y) f number (omega arith) (λ start.
          let grows = later_turn n turn event left.order.0 (omega arith) in
          let from = turns (omega arith) in
          omega arith) in (
            λ comes. subst P (sym place) (was.0 (inr (omega arith, subst (ComesAt events (event_of t f)) (sym rest) comes))),
            λ cause. elim (was.1 (subst P place cause)) [
              | inl here ↦ absurd (
                  let none = here.1 in
                  let from = turns (omega arith) in
                  let own : turn_after n turn event ≡ own_turn n t f + 1 = ap (turn_after n turn) here.0 ∙ after_own_turn n turn t f in
                  omega arith)
              | inr later ↦ subst (ComesAt events (event_of t f)) rest later.1
            ],
          )

      advance : IsLeft states (m + units) (turn_after n turn event) a events after
      advance = record {
        state = keeps s event a left.state left.run.0;
        run = left.run.1;
        order = left.order.1;
        whole = (let sum = sum_by-cons units_of event events in let whole = left.whole in omega arith);
        then_is = then_after;
        caused = caused_after;
      }

    -- ---- within a tick
    module _ (states : Timeline) (m turn : ℕ) (s a : State) (v : ℕ) (events : List Event) (after : List State)
        (left : IsLeft states m turn s (Tick v ∷ events) (a ∷ after)) where
      -- the state stays
      held : (x : ℕ) → m ≤ x → x < m + v → states x ≡ s
      held x from below =
          let place : x ≡ m + (x - m) = omega arith in
          let here : nat_lt (x - m) v ≡ true = grind (arith, nat_tests) in
          ap states place ∙ left.then_is (x - m) ∙ rw here refl

      -- after the tick too
      advance_tick : IsLeft states (m + v) 0 s events after
      advance_tick = subst (λ (k : State). IsLeft states (m + v) 0 k events after) (still s v a left.run.0)
          (advance states m turn s a (Tick v) events after left)

      module _ (u : ℕ) (some : 0 < u) (less : u < v) where
        then_cut : (y : ℕ) → states (m + u + y) ≡ state_then s (Tick (v - u) ∷ events) (a ∷ after) y
        then_cut y =
            let place : m + u + y ≡ m + (u + y) = omega arith in
            ap states place ∙ left.then_is (u + y) ∙ elim (cases_lt y (v - u)) [
              | inl below ↦ (
                  let here : nat_lt y (v - u) ≡ true = grind (arith, nat_tests) in
                  let there : nat_lt (u + y) v ≡ true = grind (arith, nat_tests) in
                  rw (here, there) refl)
              | inr from ↦ (
                  let here : nat_lt y (v - u) ≡ false = grind (arith, nat_tests) in
                  let there : nat_lt (u + y) v ≡ false = grind (arith, nat_tests) in
                  let rest : u + y - v ≡ y - (v - u) = omega arith in
                  rw (here, there, rest) refl)
            ]

        caused_cut : (t y : ℕ) (f : Bool) → t < n → m + u + y ≤ input.horizon → (y ≡ 0 → 0 ≤ own_turn n t f)
            → ComesAt (Tick (v - u) ∷ events) (event_of t f) y ↔ HasCauseToChange states t (jobs_at input.jobs t) f (m + u + y)
        caused_cut t y f number within turns =
            let place : m + u + y ≡ m + (u + y) = omega arith in
            let P : ℕ → Type 0 = λ x. HasCauseToChange states t (jobs_at input.jobs t) f x in
            let was = left.caused t (u + y) f number (omega arith) (λ start. absurd (omega arith)) in (
              λ comes. elim comes [
                | inl here ↦ absurd (tick_is_no_change (v - u) t f here.0)
                | inr later ↦ (
                    let from = later.0 in
                    let rest : y - (v - u) ≡ u + y - v = omega arith in
                    subst P (sym place) (was.0 (inr (omega arith, subst (ComesAt events (event_of t f)) rest later.1))))
              ],
              λ cause. elim (was.1 (subst P place cause)) [
                | inl here ↦ absurd (tick_is_no_change v t f here.0)
                | inr later ↦ (
                    let from = later.0 in
                    let rest : u + y - v ≡ y - (v - u) = omega arith in
                    inr (omega arith, subst (ComesAt events (event_of t f)) rest later.1))
              ],
            )

        -- a tick is cut in two
        cut : IsLeft states (m + u) 0 s (Tick (v - u) ∷ events) (a ∷ after)
        cut = record {
          state = left.state;
          run = (subst (Step s (Tick (v - u))) (sym (still s v a left.run.0)) (ticks s (v - u)), left.run.1);
          order = (omega arith, left.order.1);
          whole = (
              let all = sum_by-cons units_of (Tick v) events in
              let rest = sum_by-cons units_of (Tick (v - u)) events in
              let whole = left.whole in
              omega arith);
          then_is = then_cut;
          caused = caused_cut;
        }

    -- ---- two runs that agree so far
    -- a change that comes in the one at the moment comes in the other too
    comes_too : (one other : Timeline) (m turn : ℕ) (s : State) (events others : List Event) (after later : List State)
        → IsLeft one m turn s events after → IsLeft other m turn s others later
        → ((x : ℕ) → x < m → one x ≡ other x) → (t : ℕ) (f : Bool) → t < n → turn ≤ own_turn n t f → ComesAt events (event_of t f) 0
        → ComesAt others (event_of t f) 0
    comes_too one other m turn s events others after later first second so_far t f number from comes =
        let whole = first.whole in
        let cause = (first.caused t 0 f number (omega arith) (λ start. from)).0 comes in
        (second.caused t 0 f number (omega arith) (λ start. from)).1
        (same_cause one other t (m + 0) (λ y below. sym (so_far y (omega arith))) (jobs_at input.jobs t) f cause)

    -- no change of the one comes before the first change of the other
    no_earlier : (one other : Timeline) (m turn : ℕ) (s : State) (event next : Event) (events others : List Event)
        (after later : List State) → IsLeft one m turn s (event ∷ events) after
        → IsLeft other m turn s (next ∷ others) later → ((x : ℕ) → x < m → one x ≡ other x) → (t u : ℕ) (f g : Bool) → event ≡ event_of t f
        → next ≡ event_of u g → t < n → u < n
        → turn ≤ own_turn n t f → own_turn n t f < own_turn n u g → ⊥
    no_earlier one other m turn s event next events others after later first second so_far t u f g is next_is number also from less =
        comes_no_more n (own_turn n u g) (next ∷ others) t f (from_own_turn n turn u g next others next_is also second.order) less
        (comes_too one other m turn s (event ∷ events) (next ∷ others) after later first second so_far t f number from (inl (is, refl)))

    module _ (one other : Timeline) where
      -- what is left of both gives the same states
      abbrev Follows : ℕ → Type 0
      Follows fuel =
          (m turn : ℕ) (s : State) (events others : List Event) (after later : List State) → length events + length others ≤ fuel
          → IsLeft one m turn s events after → IsLeft other m turn s others later → ((x : ℕ) → x < m → one x ≡ other x) → (x : ℕ)
          → one x ≡ other x

      module _ (fuel : ℕ) (follows : Follows fuel) (m turn : ℕ) (s a b : State) (events others : List Event) (after later : List State)
          (few : length events + length others + 2 ≤ suc fuel) (so_far : (x : ℕ) → x < m → one x ≡ other x) where
        -- at the same change
        both_change : (event : Event) → units_of event ≡ 0 → IsLeft one m turn s (event ∷ events) (a ∷ after)
            → IsLeft other m turn s (event ∷ others) (b ∷ later) → (x : ℕ) → one x ≡ other x
        both_change event none first second =
            let same : b ≡ a = once s event b a first.state second.run.0 first.run.0 in
            follows (m + units_of event) (turn_after n turn event) a events others after later (omega arith)
            (advance one m turn s a event events after first)
            (subst (λ (k : State). IsLeft other (m + units_of event) (turn_after n turn event) k others later) same
            (advance other m turn s b event others later second))
            (λ x below. so_far x (omega arith))

        -- in a tick of both
        both_hold : (u v w : ℕ) → w ≤ u → w ≤ v → IsLeft one m turn s (Tick u ∷ events) (a ∷ after)
            → IsLeft other m turn s (Tick v ∷ others) (b ∷ later) → (x : ℕ) → x < m + w → one x ≡ other x
        both_hold u v w least also first second x below = elim (cases_lt x m) [
          | inl before ↦ so_far x before
          | inr from ↦ held one m turn s a u events after first x from (omega arith)
              ∙ sym (held other m turn s b v others later second x from (omega arith))
        ]

        both_tick : (u v : ℕ) → 0 < u → 0 < v → IsLeft one m turn s (Tick u ∷ events) (a ∷ after)
            → IsLeft other m turn s (Tick v ∷ others) (b ∷ later) → (x : ℕ) → one x ≡ other x
        both_tick u v some also first second = elim (cases_lt u v) [
          | inl less ↦
              follows (m + u) 0 s events (Tick (v - u) ∷ others) after (b ∷ later) (omega arith)
              (advance_tick one m turn s a u events after first)
              (cut other m turn s b v others later second u some less) (both_hold u v u (omega arith) (omega arith) first second)
          | inr no_less ↦ elim (cases_lt v u) [
            | inl more ↦
                follows (m + v) 0 s (Tick (u - v) ∷ events) others (a ∷ after) later (omega arith)
                (cut one m turn s a u events after first v also more)
                (advance_tick other m turn s b v others later second) (both_hold u v v (omega arith) (omega arith) first second)
            | inr no_more ↦ (
                let same : v ≡ u = omega arith in
                follows (m + u) 0 s events others after later (omega arith) (advance_tick one m turn s a u events after first)
                (subst (λ (k : ℕ). IsLeft other (m + k) 0 s others later) same (advance_tick other m turn s b v others later second))
                (both_hold u v u (omega arith) (omega arith) first second))
          ]
        ]

        both_go_on : (event next : Event) → IsLeft one m turn s (event ∷ events) (a ∷ after)
            → IsLeft other m turn s (next ∷ others) (b ∷ later) → (x : ℕ) → one x ≡ other x
        both_go_on event next first second = elim (kind_of n turn event first.order.0) [
          | inl tick ↦ elim (kind_of n turn next second.order.0) [
            | inl also ↦
                both_tick tick.0 also.0 tick.2 also.2 (subst (λ (e : Event). IsLeft one m turn s (e ∷ events) (a ∷ after)) tick.1 first)
                (subst (λ (e : Event). IsLeft other m turn s (e ∷ others) (b ∷ later)) also.1 second)
            | inr change ↦ absurd (tick_first event events tick.0 change.0 change.1 tick.1 tick.2
                (comes_too other one m turn s (next ∷ others) (event ∷ events) (b ∷ later) (a ∷ after) second first
                (λ x below. sym (so_far x below)) change.0 change.1 change.3 change.4 (inl (change.2, refl))))
          ]
          | inr change ↦ elim (kind_of n turn next second.order.0) [
            | inl tick ↦ absurd (tick_first next others tick.0 change.0 change.1 tick.1 tick.2
                (comes_too one other m turn s (event ∷ events) (next ∷ others) (a ∷ after) (b ∷ later)
                first second so_far change.0 change.1 change.3 change.4 (inl (change.2, refl))))
            | inr also ↦ (
                let no_less = no_earlier one other m turn s event next events others (a ∷ after) (b ∷ later)
                first second so_far change.0 also.0 change.1 also.1 change.2 also.2 change.3 also.3 change.4 in
                let no_more = no_earlier other one m turn s next event others events (b ∷ later) (a ∷ after) second first
                (λ x below. sym (so_far x below)) also.0 change.0 also.1 change.1 also.2 change.2 also.3 change.3 also.4 in
                let turns : own_turn n change.0 change.1 ≡ own_turn n also.0 also.1 = same_number _ _ no_less no_more in
                let is = same_turn n change.0 also.0 change.1 also.1 change.3 also.3 turns in
                let same : next ≡ event = also.2 ∙ sym (ap (λ (t : ℕ). event_of t change.1) is.0 ∙ ap (event_of also.0) is.1)
                ∙ sym change.2 in
                both_change event (ap units_of change.2 ∙ no_units change.0 change.1) first
                (subst (λ (e : Event). IsLeft other m turn s (e ∷ others) (b ∷ later)) same second))
          ]
        ]
          where
            same_number : (k l : ℕ) → (k < l → ⊥) → (l < k → ⊥) → k ≡ l
            same_number k l no_less no_more = elim (cases_lt k l) [
              | inl less ↦ absurd (no_less less)
              | inr from ↦ elim (cases_lt l k) [ inl more ↦ absurd (no_more more) | inr upto ↦ omega arith ]
            ]

      -- where the one is over the other is
      one_is_over : (m turn : ℕ) (s : State) (next : Event) (others : List Event) (after later : List State) → IsLeft one m turn s [] after
          → IsLeft other m turn s (next ∷ others) later
          → ((x : ℕ) → x < m → one x ≡ other x) → ⊥
      one_is_over m turn s next others after later first second so_far = elim (kind_of n turn next second.order.0) [
        | inl tick ↦ (
            let sum = sum_by-cons units_of next others in
            let whole = first.whole in
            let also = second.whole in
            let units = ap units_of tick.1 in
            let some = tick.2 in
            omega arith)
        | inr change ↦ comes_too other one m turn s (next ∷ others) [] later after second first (λ x below. sym (so_far x below))
            change.0 change.1 change.3 change.4 (inl (change.2, refl))
      ]

      other_is_over : (m turn : ℕ) (s : State) (event : Event) (events : List Event) (after later : List State)
          → IsLeft one m turn s (event ∷ events) after → IsLeft other m turn s [] later
          → ((x : ℕ) → x < m → one x ≡ other x) → ⊥
      other_is_over m turn s event events after later first second so_far = elim (kind_of n turn event first.order.0) [
        | inl tick ↦ (
            let sum = sum_by-cons units_of event events in
            let whole = first.whole in
            let also = second.whole in
            let units = ap units_of tick.1 in
            let some = tick.2 in
            omega arith)
        | inr change ↦ comes_too one other m turn s (event ∷ events) [] after later first second so_far change.0 change.1 change.3 change.4
            (inl (change.2, refl))
      ]

      both_over : (m turn : ℕ) (s : State) (after later : List State) → IsLeft one m turn s [] after → IsLeft other m turn s [] later
          → ((x : ℕ) → x < m → one x ≡ other x) → (x : ℕ) → one x ≡ other x
      both_over m turn s after later first second so_far x = elim (cases_lt x m) [
        | inl before ↦ so_far x before
        | inr from ↦ (let place : x ≡ m + (x - m) = omega arith in ap one place ∙ first.then_is (x - m) ∙ sym (second.then_is (x - m))
            ∙ ap other (sym place))
      ]

      pub follow : (fuel : ℕ) → Follows fuel
      follow fuel m turn s [] [] after later few first second so_far = both_over m turn s after later first second so_far
      follow fuel m turn s [] (next ∷ others) after later few first second so_far =
          absurd (one_is_over m turn s next others after later first second so_far)
      follow fuel m turn s (event ∷ events) [] after later few first second so_far =
          absurd (other_is_over m turn s event events after later first second so_far)
      follow zero m turn s (event ∷ events) (next ∷ others) after later few first second so_far = absurd (omega arith)
      follow (suc fuel) m turn s (event ∷ events) (next ∷ others) [] later few first second so_far = absurd first.run
      follow (suc fuel) m turn s (event ∷ events) (next ∷ others) (a ∷ after) [] few first second so_far = absurd second.run
      follow (suc fuel) m turn s (event ∷ events) (next ∷ others) (a ∷ after) (b ∷ later) few first second so_far =
          both_go_on fuel (follow fuel) m turn s a b events others after later (omega arith) so_far event next first second

    -- two runs of the jobs, from one state on
    pub one_timeline : (start : State) → IsState start → (events others : List Event) (after later : List State)
        → IsRun Step start events after → IsRun Step start others later
        → AreInOrder n 0 events → AreInOrder n 0 others → elapsed_at events ≡ input.horizon → elapsed_at others ≡ input.horizon
        → AreCaused input events (state_then start events after) → AreCaused input others (state_then start others later)
        → state_then start events after ≡ state_then start others later
    one_timeline start valid events others after later first second order also whole all caused cause =
        λ i x. follow (state_then start events after) (state_then start others later) (length events + length others)
        0 0 start events others after later (omega arith)
        (at_first events after first order whole caused) (at_first others later second also all cause) (λ x below. absurd (omega arith)) x i
      where
        at_first : (events : List Event) (after : List State) → IsRun Step start events after → AreInOrder n 0 events
            → elapsed_at events ≡ input.horizon → AreCaused input events (state_then start events after)
            → IsLeft (state_then start events after) 0 0 start events after
        at_first events after run order whole caused = record {
          state = valid;
          run = run;
          order = order;
          whole = (omega arith);
          then_is = λ y. let place : 0 + y ≡ y = omega arith in ap (state_then start events after) place;
          caused = λ t y f number within turns.
              let place : y ≡ 0 + y = omega arith in
              let P : ℕ → Type 0 = λ x. ComesAt events (event_of t f) y ↔ HasCauseToChange (state_then start events after) t
              (jobs_at input.jobs t) f x in
              subst P place (caused t y f number (omega arith));
        }
