-- How many orders a legal history gives a processor.
use Rattle.std.proofs.Common.{◌≡◌, ℕ, ◌+◌, ◌*◌, ◌≤◌, List, [], ◌∷◌, length, Option, None, Some, refl, inl, inr, arith, append-nil, eq-eqb}
use Rattle.std.proofs.Common.{ne_eqb}
use Rattle.std.proofs.lemmas.Bool.{cases_eq}
use Rattle.std.proofs.lemmas.List.{length-append}
use Rattle.task_set.specs.declared.event.Event.{Event}
use Rattle.task_set.specs.declared.event.Event.TheVariants.{Tick}
use Rattle.strong_apa.specs.declared.reply.Entry.{Entry}
use Rattle.strong_apa.specs.State.{State, start_of, task_on}
use Rattle.strong_apa.specs.Step.{SchedulerStep}
use Rattle.strong_apa.specs.History.{IsLegalFrom, effect_of, state_after}
use Rattle.strong_apa.specs.Dispatch.{change_orders, tick_orders, taken_between, orders_from, orders_of, closed_orders_of}
use Rattle.strong_apa.proofs.Histories.{entry_orders}
use Rattle.history_laws.specs.OrderLaws.{OrdersAreFewFrom, OrdersAreFew}
use Rattle.history_laws.proofs.OrderLists.{event_orders, event_orders-tick, tick_stays, close_orders, closed_orders_of-split}

length-change : (takes : ℕ → ℕ) (old new : Option ℕ) → length (change_orders takes old new) ≤ 2
length-change takes None None = omega arith
length-change takes None (Some b) = omega arith
length-change takes (Some a) None = omega arith
length-change takes (Some a) (Some b) = elim (cases_eq a b) [
  | inl same ↦ rw (eq-eqb a b same) (omega arith)
  | inr other ↦ rw (ne_eqb a b other) (omega arith)
]

length-tick : (units : ℕ) (o : Option ℕ) → length (tick_orders (Tick units) o) ≤ 2
length-tick units None = omega arith
length-tick units (Some a) = omega arith

length-event : (takes : ℕ → ℕ) (event : Event) (old new : Option ℕ) → ((units : ℕ) → event ≡ Tick units → new ≡ old)
    → length (event_orders takes event old new) ≤ 2
length-event takes (Tick units) old new stays = rw (event_orders-tick takes units old new (stays units refl)) (length-tick units old)
length-event takes event old new stays = rw (append-nil (change_orders takes old new)) (length-change takes old new)

-- a step gives a processor at most two orders
pub length-entry_orders : (s : State) (takes : ℕ → ℕ) (entry : Entry) (p : ℕ) → SchedulerStep s entry.event entry.reply (effect_of s entry)
    → length (entry_orders s takes entry p) ≤ 2
length-entry_orders s takes entry p step = length-event takes entry.event (task_on s p) (task_on (effect_of s entry) p)
    (tick_stays s entry.event entry.reply (effect_of s entry) step p)

pub length-orders_from : (s : State) (takes : ℕ → ℕ) (history : List Entry) (p : ℕ) → IsLegalFrom s history
    → length (orders_from s takes history p) ≤ 2 * length history
length-orders_from s takes [] p legal = omega arith
length-orders_from s takes (first ∷ rest) p legal =
    let next = effect_of s first in
    let takes' : ℕ → ℕ = λ t. takes t + length (taken_between s next t) in
    let here = length-entry_orders s takes first p legal.0 in
    let later = length-orders_from next takes' rest p legal.1 in
    let both = length-append (entry_orders s takes first p) (orders_from next takes' rest p) in
    omega arith

-- the close gives a processor at most two orders
length-close : (o : Option ℕ) → length (close_orders o) ≤ 2
length-close None = omega arith
length-close (Some a) = omega arith

pub length-closed_orders_of : (s : State) (history : List Entry) (p : ℕ) → length (closed_orders_of s history p)
    ≤ length (orders_of s history p) + 2
length-closed_orders_of s history p =
    let close = length-close (task_on (state_after s history) p) in
    let both = length-append (orders_of s history p) (close_orders (task_on (state_after s history) p)) in
    rw (closed_orders_of-split s history p) (omega arith)

-- ---- the laws
pub orders_count-from : OrdersAreFewFrom
orders_count-from s history p legal = (length-orders_from s (λ t. 0) history p legal, length-closed_orders_of s history p)

pub orders_count : OrdersAreFew
orders_count set = orders_count-from (start_of set)
