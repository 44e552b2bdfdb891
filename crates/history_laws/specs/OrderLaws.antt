-- Laws of the orders that legal histories give, from any state in which nobody is ready, and so
-- from the start of a set. Each law is proved as the contract of a function of `laws`.
use Rattle.std.specs.Prelude.{◌≡◌, ℕ, ◌+◌, ◌*◌, ◌≤◌, None, List, ◌++◌, length, All}
use mathlib.Core.List.{IsPrefix}
use Rattle.task_set.specs.TaskSet.{SetData, IsTaskSet}
use Rattle.task_set.specs.Orders.{IsObeyable, task_held, NamesTaskBelow, TakesBelow}
use Rattle.task_set.specs.declared.order.Order.{Order}
use Rattle.strong_apa.specs.declared.reply.Entry.{Entry}
use Rattle.strong_apa.specs.State.{State, IsState, start_of, task_on, task_count}
use Rattle.strong_apa.specs.History.{IsLegal, IsLegalFrom, state_after}
use Rattle.strong_apa.specs.Dispatch.{orders_of, closed_orders_of}
use Rattle.history_laws.specs.Start.{NobodyIsReady}

-- a processor can obey its orders, and holds its occupant after them; it can obey those of the
-- closed history as well, and holds nobody after them
pub record AreObeyable (start : State) (history : List Entry) (p : ℕ) : Type 0 where
  pub before_close : IsObeyable (orders_of start history p)
  pub holds_occupant : task_held (orders_of start history p) ≡ task_on (state_after start history) p
  pub after_close : IsObeyable (closed_orders_of start history p)
  pub holds_nobody : task_held (closed_orders_of start history p) ≡ None

-- the orders of every legal history to every processor can be obeyed
abbrev pub OrdersAreObeyableFrom : Type 0
OrdersAreObeyableFrom = (start : State) (history : List Entry) (p : ℕ) → NobodyIsReady start
    → IsLegalFrom start history → AreObeyable start history p

-- those of a legal history of a set too
abbrev pub OrdersAreObeyable : Type 0
OrdersAreObeyable = (set : SetData) (history : List Entry) (p : ℕ) → IsLegal set history
    → AreObeyable (start_of set) history p

-- a processor gets at most two orders for each entry, and at most two more at the close
abbrev pub AreFew : State → List Entry → ℕ → Type 0
AreFew start history p = (length (orders_of start history p) ≤ 2 * length history)
    × (length (closed_orders_of start history p) ≤ length (orders_of start history p) + 2)

-- the orders of every legal history to every processor are few
abbrev pub OrdersAreFewFrom : Type 0
OrdersAreFewFrom = (start : State) (history : List Entry) (p : ℕ) → IsLegalFrom start history
    → AreFew start history p

-- those of a legal history of a set too
abbrev pub OrdersAreFew : Type 0
OrdersAreFew = (set : SetData) (history : List Entry) (p : ℕ) → IsLegal set history
    → AreFew (start_of set) history p

-- each order that a processor gets, before the close and with it, has this property
abbrev pub AllOrders : (Order → Type 0) → State → List Entry → ℕ → Type 0
AllOrders Has start history p =
    All Has (orders_of start history p) × All Has (closed_orders_of start history p)

-- each order of a legal history names one of the tasks of the state, if it names one
abbrev pub OrdersNameTasksFrom : Type 0
OrdersNameTasksFrom = (start : State) (history : List Entry) (p : ℕ) → IsState start
    → IsLegalFrom start history → AllOrders (NamesTaskBelow (task_count start)) start history p

-- each order of a legal history of a set names a task of the set, if it names one
abbrev pub OrdersNameTasks : Type 0
OrdersNameTasks = (set : SetData) (history : List Entry) (p : ℕ) → IsTaskSet set
    → IsLegal set history → AllOrders (NamesTaskBelow (length set.tasks)) (start_of set) history p

-- the number of each take by a legal history is less than the length of the history
abbrev pub TakeNumbersAreSmallFrom : Type 0
TakeNumbersAreSmallFrom = (start : State) (history : List Entry) (p : ℕ) → IsState start
    → IsLegalFrom start history → AllOrders (TakesBelow (length history)) start history p

-- by one of a set too
abbrev pub TakeNumbersAreSmall : Type 0
TakeNumbersAreSmall = (set : SetData) (history : List Entry) (p : ℕ) → IsTaskSet set
    → IsLegal set history → AllOrders (TakesBelow (length history)) (start_of set) history p

-- a processor's orders of the beginning of a history begin those of the whole, before the close and
-- with it
abbrev pub OrdersOnlyGrow : Type 0
OrdersOnlyGrow = (start : State) (front rest : List Entry) (p : ℕ)
    → IsPrefix (orders_of start front p) (orders_of start (front ++ rest) p)
    × IsPrefix (orders_of start front p) (closed_orders_of start (front ++ rest) p)
