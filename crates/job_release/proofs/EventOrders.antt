-- Events in their order, as one more comes.
use Rattle.std.proofs.Common.{◌≡◌, ℕ, ◌+◌, ◌-◌, ◌<◌, ◌≤◌, ◌⊎◌, Bool, true, false, List, [], ◌∷◌, ◌++◌, refl, ap, ◌∙◌, subst, inl, inr}
use Rattle.std.proofs.Common.{arith}
use Rattle.std.proofs.lemmas.List.Sums.{sum_by-cons}
use Rattle.task_set.specs.Event.{HasUnits}
use Rattle.task_set.specs.declared.event.Event.{Event}
use Rattle.task_set.specs.declared.event.Event.TheVariants.{Arrive, Depart, Tick, Affinity, Offline, Online}
use Rattle.job_release.specs.EventCauses.{ComesAt}
use Rattle.job_release.specs.EventOrder.{IsInTurn, AreInOrder, turn_after, turn_after_all, event_of, own_turn}
use Rattle.job_release.specs.Moments.{units_of}
use Rattle.job_release.specs.WeakRuns.{elapsed_at}

pub turn_push : (n turn : ℕ) (events : List Event) (event : Event) → turn_after_all n turn (events ++ event ∷ [])
    ≡ turn_after n (turn_after_all n turn events) event
turn_push n turn [] event = refl
turn_push n turn (first ∷ events) event = turn_push n (turn_after n turn first) events event

pub order_push : (n turn : ℕ) (events : List Event) (event : Event) → AreInOrder n turn events
    → IsInTurn n (turn_after_all n turn events) event → AreInOrder n turn (events ++ event ∷ [])
order_push n turn [] event so_far in_turn = (in_turn, tt)
order_push n turn (first ∷ events) event so_far in_turn = (so_far.0, order_push n (turn_after n turn first) events event so_far.1 in_turn)

-- ---- the turn of a change
pub same_turn : (n t u : ℕ) (f g : Bool) → t < n → u < n → own_turn n t f ≡ own_turn n u g → (t ≡ u) × (f ≡ g)
same_turn n t u true true one other same = (omega arith, refl)
same_turn n t u true false one other same = absurd (omega arith)
same_turn n t u false true one other same = absurd (omega arith)
same_turn n t u false false one other same = (same, refl)

pub after_own_turn : (n turn t : ℕ) (f : Bool) → turn_after n turn (event_of t f) ≡ own_turn n t f + 1
after_own_turn n turn t true = refl
after_own_turn n turn t false = refl

pub in_own_turn : (n turn t : ℕ) (f : Bool) → t < n → turn ≤ own_turn n t f → IsInTurn n turn (event_of t f)
in_own_turn n turn t true number from = (from, number)
in_own_turn n turn t false number from = (from, number)

pub own_turn_from : (n turn t : ℕ) (f : Bool) → IsInTurn n turn (event_of t f) → turn ≤ own_turn n t f
own_turn_from n turn t true is = is.0
own_turn_from n turn t false is = is.0

pub no_units : (t : ℕ) (f : Bool) → units_of (event_of t f) ≡ 0
no_units t true = refl
no_units t false = refl

-- and what a tick has to have is not asked of it
pub has_no_units : (t : ℕ) (f : Bool) → HasUnits (event_of t f)
has_no_units t true = tt
has_no_units t false = tt

pub tick_is_no_change : (units t : ℕ) (f : Bool) → Tick units ≡ event_of t f → ⊥
tick_is_no_change units t true e = let same : ◌≡◌ {A = Event} (Tick units) (Arrive t) = e in cc
tick_is_no_change units t false e = let same : ◌≡◌ {A = Event} (Tick units) (Depart t) = e in cc

-- ---- turns only grow where no time passes
pub later_turn : (n turn : ℕ) (event : Event) → IsInTurn n turn event → units_of event ≡ 0 → turn ≤ turn_after n turn event
later_turn n turn (Arrive t) is none = let from = is.0 in omega arith
later_turn n turn (Depart t) is none = let from = is.0 in omega arith
later_turn n turn (Tick units) is none = absurd (omega arith)
later_turn n turn (Affinity t mask) is none = absurd is
later_turn n turn (Offline p) is none = absurd is
later_turn n turn (Online p) is none = absurd is

later_turns : (n turn : ℕ) (events : List Event) → AreInOrder n turn events → elapsed_at events ≡ 0 → turn ≤ turn_after_all n turn events
later_turns n turn [] order none = omega arith
later_turns n turn (first ∷ rest) order none =
    let sum = sum_by-cons units_of first rest in
    let here = later_turn n turn first order.0 (omega arith) in
    let later = later_turns n (turn_after n turn first) rest order.1 (omega arith) in
    omega arith

-- a change whose turn is still to come has not come at the moment
pub not_come : (n turn : ℕ) (events : List Event) (t : ℕ) (f : Bool) → AreInOrder n turn events
    → turn_after_all n turn events ≤ own_turn n t f → ComesAt events (event_of t f) (elapsed_at events) → ⊥
not_come n turn [] t f order from comes = absurd comes
not_come n turn (first ∷ rest) t f order from (inl here) =
    let sum = sum_by-cons units_of first rest in
    let none = here.1 in
    let later = later_turns n (turn_after n turn first) rest order.1 (omega arith) in
    let own : turn_after n turn first ≡ own_turn n t f + 1 = ap (turn_after n turn) here.0 ∙ after_own_turn n turn t f in
    omega arith
not_come n turn (first ∷ rest) t f order from (inr later) =
    let sum = sum_by-cons units_of first rest in
    let left : elapsed_at (first ∷ rest) - units_of first ≡ elapsed_at rest = omega arith in
    not_come n (turn_after n turn first) rest t f order.1 from (subst (ComesAt rest (event_of t f)) left later.1)

-- a change whose turn is over does not come any more at the moment
pub comes_no_more : (n turn : ℕ) (events : List Event) (t : ℕ) (f : Bool) → AreInOrder n turn events → own_turn n t f < turn
    → ComesAt events (event_of t f) 0 → ⊥
comes_no_more n turn [] t f order over comes = absurd comes
comes_no_more n turn (first ∷ rest) t f order over (inl here) =
    let from = own_turn_from n turn t f (subst (IsInTurn n turn) here.0 order.0) in
    omega arith
comes_no_more n turn (first ∷ rest) t f order over (inr later) =
    let few = later.0 in
    let grows = later_turn n turn first order.0 (omega arith) in
    let none : 0 - units_of first ≡ 0 = omega arith in
    comes_no_more n (turn_after n turn first) rest t f order.1 (omega arith) (subst (ComesAt rest (event_of t f)) none later.1)

-- ---- when an event comes, as one more does
pub comes_within : (events : List Event) (event : Event) (x : ℕ) → ComesAt events event x → x ≤ elapsed_at events
comes_within [] event x comes = absurd comes
comes_within (first ∷ rest) event x (inl here) = let at = here.1 in omega arith
comes_within (first ∷ rest) event x (inr later) =
    let sum = sum_by-cons units_of first rest in
    let from = later.0 in
    let within = comes_within rest event (x - units_of first) later.1 in
    omega arith

pub comes_before : (events : List Event) (last event : Event) (x : ℕ) → ComesAt events event x → ComesAt (events ++ last ∷ []) event x
comes_before [] last event x comes = absurd comes
comes_before (first ∷ rest) last event x (inl here) = inl here
comes_before (first ∷ rest) last event x (inr later) = inr (later.0, comes_before rest last event (x - units_of first) later.1)

pub comes_last : (events : List Event) (event : Event) → ComesAt (events ++ event ∷ []) event (elapsed_at events)
comes_last [] event = inl (refl, refl)
comes_last (first ∷ rest) event =
    let sum = sum_by-cons units_of first rest in
    let left : elapsed_at rest ≡ elapsed_at (first ∷ rest) - units_of first = omega arith in
    inr (omega arith, subst (ComesAt (rest ++ event ∷ []) event) left (comes_last rest event))

pub comes_of_more : (events : List Event) (last event : Event) (x : ℕ) → ComesAt (events ++ last ∷ []) event x
    → ComesAt events event x ⊎ ((last ≡ event) × (x ≡ elapsed_at events))
comes_of_more [] last event x (inl here) = inr here
comes_of_more [] last event x (inr later) = absurd later.1
comes_of_more (first ∷ rest) last event x (inl here) = inl (inl here)
comes_of_more (first ∷ rest) last event x (inr later) = elim (comes_of_more rest last event (x - units_of first) later.1) [
  | inl before ↦ inl (inr (later.0, before))
  | inr at ↦ inr (at.0, (let sum = sum_by-cons units_of first rest in let from = later.0 in let here = at.1 in omega arith))
]
