-- Laws of a processor that has got some of its orders: of the orders that the closed history gives
-- it, these are a prefix. The orders before the close begin those of the closed history, so that
-- the laws hold of their prefixes too.
use Rattle.std.specs.Prelude.{◌≡◌, ◌≢◌, ℕ, true, false, List, [], ◌∷◌, ◌++◌, All}
use mathlib.Core.List.{IsPrefix}
use Rattle.task_set.specs.Orders.{IsObeyable, MayCome, task_held, has_stop}
use Rattle.task_set.specs.declared.order.Order.{Order}
use Rattle.task_set.specs.declared.order.Order.TheVariants.{Stop}
use Rattle.strong_apa.specs.declared.reply.Entry.{Entry}
use Rattle.strong_apa.specs.State.{State}
use Rattle.strong_apa.specs.History.{IsLegalFrom}
use Rattle.strong_apa.specs.Dispatch.{orders_of, closed_orders_of}
use Rattle.history_laws.specs.Start.{NobodyIsReady}

-- the orders that were sent begin those of a legal history from a state in which nobody is ready
pub record AreSentOf (start : State) (history : List Entry) (p : ℕ)
    (sent : List Order) : Type 0 where
  pub nobody : NobodyIsReady start
  pub legal : IsLegalFrom start history
  pub begins : IsPrefix sent (closed_orders_of start history p)

-- the orders before the close begin those of the closed history
abbrev pub CloseAddsOrders : Type 0
CloseAddsOrders = (start : State) (history : List Entry) (p : ℕ)
    → IsPrefix (orders_of start history p) (closed_orders_of start history p)

-- no order before the close is Stop
abbrev pub NoStopBeforeClose : Type 0
NoStopBeforeClose = (start : State) (history : List Entry) (p : ℕ)
    → All (λ order. order ≢ Stop) (orders_of start history p)
    × (has_stop (orders_of start history p) ≡ false)

-- Stop is among the orders of the closed history
abbrev pub StopComesAtClose : Type 0
StopComesAtClose = (start : State) (history : List Entry) (p : ℕ)
    → has_stop (closed_orders_of start history p) ≡ true

-- a processor that got Stop got all its orders
abbrev pub StopIsLastSent : Type 0
StopIsLastSent = (start : State) (history : List Entry) (p : ℕ) (sent : List Order)
    → AreSentOf start history p sent → has_stop sent ≡ true
    → sent ≡ closed_orders_of start history p

-- what was sent can be obeyed
abbrev pub SentIsObeyable : Type 0
SentIsObeyable = (start : State) (history : List Entry) (p : ℕ) (sent : List Order)
    → AreSentOf start history p sent → IsObeyable sent

-- the order that is sent next may come after what was sent
abbrev pub NextSentMayCome : Type 0
NextSentMayCome = (start : State) (history : List Entry) (p : ℕ) (sent : List Order) (next : Order)
    → AreSentOf start history p (sent ++ next ∷ []) → MayCome (task_held sent) next
