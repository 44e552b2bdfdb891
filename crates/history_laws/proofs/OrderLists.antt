-- A processor can obey its orders of a legal history, and holds its occupant after them.
use Rattle.std.proofs.Common.{◌≡◌, ℕ, ◌+◌, List, [], ◌∷◌, ◌++◌, length, fold, Option, None, Some, refl, sym, ap, ◌∙◌, subst, inl, inr}
use Rattle.std.proofs.Common.{append_assoc, append-nil, eq-eqb, ne_eqb}
use Rattle.std.proofs.lemmas.Bool.{cases_eq}
use Rattle.std.proofs.lemmas.List.Sums.{fold-append}
use Rattle.task_set.specs.Orders.{held_after, IsObeyableFrom}
use Rattle.task_set.specs.declared.event.Event.{Event}
use Rattle.task_set.specs.declared.event.Event.TheVariants.{Tick}
use Rattle.task_set.specs.declared.order.Order.{Order}
use Rattle.task_set.specs.declared.order.Order.TheVariants.{Stop}
use Rattle.strong_apa.specs.declared.reply.Reply.{Reply}
use Rattle.strong_apa.specs.declared.reply.Entry.{Entry}
use Rattle.strong_apa.specs.State.{State, start_of, task_on}
use Rattle.strong_apa.specs.Step.{SchedulerStep}
use Rattle.strong_apa.specs.History.{IsLegalFrom, effect_of, state_after}
use Rattle.strong_apa.specs.Dispatch.{change_orders, tick_orders, release_of, taken_between, orders_from, orders_of, closed_orders_of}
use Rattle.strong_apa.proofs.Histories.{entry_orders}
use Rattle.history_laws.specs.OrderLaws.{OrdersAreObeyableFrom, OrdersAreObeyable}
use Rattle.history_laws.proofs.Starts.{nobody_ready}

-- ---- one entry
-- after the orders at a change of the occupant, the new one is held
change_then : (takes : ℕ → ℕ) (old new : Option ℕ) (rest : List Order) → IsObeyableFrom new rest
    → IsObeyableFrom old (change_orders takes old new ++ rest)
change_then takes None None rest h = h
change_then takes None (Some b) rest h = (tt, tt, h)
change_then takes (Some a) None rest h = (refl, tt, h)
change_then takes (Some a) (Some b) rest h = elim (cases_eq a b) [
  | inl same ↦ rw (eq-eqb a b same) (subst (λ (x : ℕ). IsObeyableFrom (Some x) rest) (sym same) h)
  | inr other ↦ rw (ne_eqb a b other) (refl, tt, (tt, tt, h))
]

held-change : (takes : ℕ → ℕ) (old new : Option ℕ) → fold held_after old (change_orders takes old new) ≡ new
held-change takes None None = refl
held-change takes None (Some b) = refl
held-change takes (Some a) None = refl
held-change takes (Some a) (Some b) = elim (cases_eq a b) [
  | inl same ↦ rw (eq-eqb a b same) (ap (λ (x : ℕ). Some x) same)
  | inr other ↦ rw (ne_eqb a b other) refl
]

-- where the occupant stays there is no order
pub change_orders-same : (takes : ℕ → ℕ) (o : Option ℕ) → change_orders takes o o ≡ []
change_orders-same takes None = refl
change_orders-same takes (Some a) = rw (eq-eqb a a refl) refl

-- a tick changes no occupant
pub tick_stays : (s : State) (event : Event) (reply : Reply) (new : State) → SchedulerStep s event reply new → (p units : ℕ)
    → event ≡ Tick units → task_on new p ≡ task_on s p
tick_stays s event reply new step p units e =
    ap (λ (x : State). task_on x p) (subst (λ (ev : Event). SchedulerStep s ev reply new) e step).1

tick_then : (units : ℕ) (o : Option ℕ) (rest : List Order) → IsObeyableFrom o rest → IsObeyableFrom o (tick_orders (Tick units) o ++ rest)
tick_then units None rest h = h
tick_then units (Some a) rest h = (tt, tt, h)

held-tick : (event : Event) (occupant held : Option ℕ) → fold held_after held (tick_orders event occupant) ≡ held
held-tick (Tick units) None held = refl
held-tick (Tick units) (Some a) held = refl
held-tick event occupant held = refl

-- the orders of an event by which the occupant changes
abbrev pub event_orders : (ℕ → ℕ) → Event → Option ℕ → Option ℕ → List Order
event_orders takes event old new = change_orders takes old new ++ tick_orders event old

-- at a tick they are the run alone
pub event_orders-tick : (takes : ℕ → ℕ) (units : ℕ) (old new : Option ℕ) → new ≡ old → event_orders takes (Tick units) old new
    ≡ tick_orders (Tick units) old
event_orders-tick takes units old new e =
    ap (λ (o : Option ℕ). event_orders takes (Tick units) old o) e ∙ ap (λ (orders : List Order). orders ++ tick_orders (Tick units) old)
    (change_orders-same takes old)

event_then : (takes : ℕ → ℕ) (event : Event) (old new : Option ℕ) (rest : List Order) → ((units : ℕ) → event ≡ Tick units → new ≡ old)
    → IsObeyableFrom new rest → IsObeyableFrom old (event_orders takes event old new ++ rest)
event_then takes (Tick units) old new rest stays h =
    rw (event_orders-tick takes units old new (stays units refl))
    (tick_then units old rest (subst (λ (o : Option ℕ). IsObeyableFrom o rest) (stays units refl) h))
event_then takes event old new rest stays h = rw (append-nil (change_orders takes old new)) (change_then takes old new rest h)

held-event : (takes : ℕ → ℕ) (event : Event) (old new : Option ℕ) → fold held_after old (event_orders takes event old new) ≡ new
held-event takes event old new =
    fold-append held_after old (change_orders takes old new) (tick_orders event old)
    ∙ held-tick event old (fold held_after old (change_orders takes old new))
    ∙ held-change takes old new

-- ---- a history
-- after its orders, what follows is obeyed with the last occupant held
pub orders_then : (s : State) (takes : ℕ → ℕ) (history : List Entry) (p : ℕ) (rest : List Order) → IsLegalFrom s history
    → IsObeyableFrom (task_on (state_after s history) p) rest → IsObeyableFrom (task_on s p) (orders_from s takes history p ++ rest)
orders_then s takes [] p rest legal h = h
orders_then s takes (first ∷ later) p rest legal h =
    let next = effect_of s first in
    let takes' : ℕ → ℕ = λ t. takes t + length (taken_between s next t) in
    rw (append_assoc (entry_orders s takes first p) (orders_from next takes' later p) rest)
    (event_then takes first.event (task_on s p) (task_on next p) (orders_from next takes' later p ++ rest)
    (tick_stays s first.event first.reply next legal.0 p) (orders_then next takes' later p rest legal.1 h))

-- the last occupant is held after them
pub held-orders_from : (s : State) (takes : ℕ → ℕ) (history : List Entry) (p : ℕ)
    → fold held_after (task_on s p) (orders_from s takes history p) ≡ task_on (state_after s history) p
held-orders_from s takes [] p = refl
held-orders_from s takes (first ∷ later) p =
    let next = effect_of s first in
    let takes' : ℕ → ℕ = λ t. takes t + length (taken_between s next t) in
    fold-append held_after (task_on s p) (entry_orders s takes first p) (orders_from next takes' later p)
    ∙ ap (λ (held : Option ℕ). fold held_after held (orders_from next takes' later p))
    (held-event takes first.event (task_on s p) (task_on next p))
    ∙ held-orders_from next takes' later p

-- ---- the close
-- the orders of the close
abbrev pub close_orders : Option ℕ → List Order
close_orders o = release_of o ++ Stop ∷ []

close_obeyable : (o : Option ℕ) → IsObeyableFrom o (close_orders o)
close_obeyable None = (tt, refl, tt)
close_obeyable (Some a) = (refl, tt, (tt, refl, tt))

held-close : (o : Option ℕ) → fold held_after o (close_orders o) ≡ None
held-close None = refl
held-close (Some a) = refl

-- the orders of a history, then those of the close
pub closed_orders_of-split : (s : State) (history : List Entry) (p : ℕ) → closed_orders_of s history p ≡ orders_of s history p
    ++ close_orders (task_on (state_after s history) p)
closed_orders_of-split s history p = append_assoc (orders_of s history p) (release_of (task_on (state_after s history) p)) (Stop ∷ [])

-- ---- the laws
obeyable-from : (s : State) (history : List Entry) (p : ℕ) → IsLegalFrom s history → IsObeyableFrom (task_on s p) (orders_of s history p)
obeyable-from s history p legal = rw (← append-nil (orders_of s history p)) (orders_then s (λ t. 0) history p [] legal tt)

closed_obeyable-from : (s : State) (history : List Entry) (p : ℕ) → IsLegalFrom s history
    → IsObeyableFrom (task_on s p) (closed_orders_of s history p)
closed_obeyable-from s history p legal =
    rw (closed_orders_of-split s history p) (orders_then s (λ t. 0) history p _ legal (close_obeyable (task_on (state_after s history) p)))

held-closed_orders_of : (s : State) (history : List Entry) (p : ℕ) → fold held_after (task_on s p) (closed_orders_of s history p) ≡ None
held-closed_orders_of s history p =
    let last = task_on (state_after s history) p in
    ap (fold held_after (task_on s p)) (closed_orders_of-split s history p)
    ∙ fold-append held_after (task_on s p) (orders_of s history p) (close_orders last)
    ∙ ap (λ (held : Option ℕ). fold held_after held (close_orders last)) (held-orders_from s (λ t. 0) history p)
    ∙ held-close last

pub orders_obeyable-from : OrdersAreObeyableFrom
orders_obeyable-from s history p nobody legal =
    let idle : task_on s p ≡ None = nobody.idle p in
    record {
      before_close = subst (λ (held : Option ℕ). IsObeyableFrom held (orders_of s history p)) idle (obeyable-from s history p legal);
      holds_occupant =
          ap (λ (held : Option ℕ). fold held_after held (orders_of s history p)) (sym idle) ∙ held-orders_from s (λ t. 0) history p;
      after_close =
          subst (λ (held : Option ℕ). IsObeyableFrom held (closed_orders_of s history p)) idle (closed_obeyable-from s history p legal);
      holds_nobody =
          ap (λ (held : Option ℕ). fold held_after held (closed_orders_of s history p)) (sym idle) ∙ held-closed_orders_of s history p;
    }

pub orders_obeyable : OrdersAreObeyable
orders_obeyable set history p legal = orders_obeyable-from (start_of set) history p (nobody_ready set) legal
