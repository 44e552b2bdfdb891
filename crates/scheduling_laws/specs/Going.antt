-- Obeying orders. Each processor obeys its orders one after the other. A take of a task with number
-- k can be obeyed once the task was taken and released k times, on whatever processors; every other
-- order can be obeyed at any time. A run is what the processors did so far, as the list of the
-- processors that made a step, the latest first.
use Rattle.std.specs.Prelude.{◌≡◌, ℕ, ◌<◌, Bool, false, ◌==◌, List, [], ◌∷◌, ◌++◌, length, take}
use Rattle.std.specs.Prelude.{slice_get, sum_by, count_by, Some}
use Rattle.std.specs.List.{range_with_len}
use Rattle.task_set.specs.TaskSet.{SetData, IsTaskSet}
use Rattle.task_set.specs.declared.order.Order.{Order}
use Rattle.task_set.specs.declared.order.Order.TheVariants.{Release, Take, Run, Stop}
use Rattle.strong_apa.specs.declared.reply.Entry.{Entry}
use Rattle.strong_apa.specs.State.{State, IsState, start_of}
use Rattle.strong_apa.specs.History.{IsLegal, IsLegalFrom}
use Rattle.strong_apa.specs.Dispatch.{orders_of, closed_orders_of}
use Rattle.history_laws.specs.Start.{NobodyIsReady}

-- whether an order takes t
abbrev pub takes_task : ℕ → Order → Bool
takes_task t (Take task number) = task == t
takes_task t (Release task) = false
takes_task t (Run units) = false
takes_task t Stop = false

-- whether it releases t
abbrev pub releases_task : ℕ → Order → Bool
releases_task t (Release task) = task == t
releases_task t (Take task number) = false
releases_task t (Run units) = false
releases_task t Stop = false

-- how many steps p made
abbrev pub steps_of : List ℕ → ℕ → ℕ
steps_of run p = count_by (λ q. q == p) run

-- what p obeyed in a run: as many of its orders as it made steps
abbrev pub obeyed : (ℕ → List Order) → List ℕ → ℕ → List Order
obeyed orders run p = take (steps_of run p) (orders p)

-- how many orders that pass the test the processors below m obeyed in a run
abbrev pub obeyed_count : (Order → Bool) → ℕ → (ℕ → List Order) → List ℕ → ℕ
obeyed_count test m orders run =
    sum_by (λ p. count_by test (obeyed orders run p)) (range_with_len 0 m)

-- how often t was taken in a run
abbrev pub times_taken : ℕ → (ℕ → List Order) → List ℕ → ℕ → ℕ
times_taken m orders run t = obeyed_count (takes_task t) m orders run

-- how often it was released
abbrev pub times_released : ℕ → (ℕ → List Order) → List ℕ → ℕ → ℕ
times_released m orders run t = obeyed_count (releases_task t) m orders run

-- whether an order can be obeyed, where each task was taken and released so many times
abbrev pub CanBeObeyed : (ℕ → ℕ) → (ℕ → ℕ) → Order → Type 0
CanBeObeyed taken released (Take task number) = (taken task ≡ number) × (released task ≡ number)
CanBeObeyed taken released (Release task) = Unit {0}
CanBeObeyed taken released (Run units) = Unit {0}
CanBeObeyed taken released Stop = Unit {0}

-- after a run, p can obey its next order
pub record CanGoOn (m : ℕ) (orders : ℕ → List Order) (run : List ℕ) (p : ℕ) : Type 0 where
  pub processor : p < m
  pub next : Order
  pub is_next : slice_get (orders p) (steps_of run p) ≡ Some next
  pub can : CanBeObeyed (times_taken m orders run) (times_released m orders run) next

-- each step of a run, the latest first, was of a processor that could go on
abbrev pub IsRun : ℕ → (ℕ → List Order) → List ℕ → Type 0
IsRun m orders [] = Unit {0}
IsRun m orders (p ∷ earlier) = CanGoOn m orders earlier p × IsRun m orders earlier

-- p has not obeyed all its orders yet
abbrev pub HasOrders : (ℕ → List Order) → List ℕ → ℕ → Type 0
HasOrders orders run p = steps_of run p < length (orders p)

-- processors never wait in a circle: in each run of the orders of m processors, as long as one of
-- them has orders, one can go on
abbrev pub NeverStops : ℕ → (ℕ → List Order) → Type 0
NeverStops m orders = (run : List ℕ) (p : ℕ) → IsRun m orders run → p < m → HasOrders orders run p
    → (q : ℕ) × CanGoOn m orders run q

-- each run can be continued to one in which every processor has obeyed all its orders
abbrev pub CanBeEnded : ℕ → (ℕ → List Order) → Type 0
CanBeEnded m orders = (run : List ℕ) → IsRun m orders run
    → (more : List ℕ) × IsRun m orders (more ++ run)
    × ((p : ℕ) → p < m → obeyed orders (more ++ run) p ≡ orders p)

-- what holds of the orders of each legal history, before the close and with it
abbrev pub HoldsOfOrdersFrom : (ℕ → (ℕ → List Order) → Type 0) → Type 0
HoldsOfOrdersFrom Law = (start : State) (history : List Entry) → IsState start → NobodyIsReady start
    → IsLegalFrom start history
    → Law start.processors (orders_of start history)
    × Law start.processors (closed_orders_of start history)

-- and of those of a set
abbrev pub HoldsOfOrders : (ℕ → (ℕ → List Order) → Type 0) → Type 0
HoldsOfOrders Law = (set : SetData) (history : List Entry) → IsTaskSet set → IsLegal set history
    → Law set.processors (orders_of (start_of set) history)
    × Law set.processors (closed_orders_of (start_of set) history)

-- no processors wait for one another in a circle, from any state in which nobody is ready
abbrev pub OrdersCanGoOnFrom : Type 0
OrdersCanGoOnFrom = HoldsOfOrdersFrom NeverStops

-- nor from the start of a set
abbrev pub OrdersCanGoOn : Type 0
OrdersCanGoOn = HoldsOfOrders NeverStops

-- whatever they have obeyed so far, all orders can be obeyed, from any state in which nobody is
-- ready
abbrev pub OrdersCanBeEndedFrom : Type 0
OrdersCanBeEndedFrom = HoldsOfOrdersFrom CanBeEnded

-- and from the start of a set
abbrev pub OrdersCanBeEnded : Type 0
OrdersCanBeEnded = HoldsOfOrders CanBeEnded
