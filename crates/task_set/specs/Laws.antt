-- Laws of orders, stints and carried contexts. Each is proved as the contract of a function of
-- `laws`.
use Rattle.std.specs.Prelude.{◌≡◌, ◌≢◌, ℕ, true, ◌<◌, ◌≤◌, ◌==◌, List, [], ◌∷◌, ◌++◌, filter, All}
use Rattle.std.specs.Prelude.{AllPairs, IsPermutation, IfSome}
use Rattle.std.specs.List.{flat_map}
use Rattle.task_set.specs.declared.order.Order.{Order}
use Rattle.task_set.specs.declared.order.Order.TheVariants.{Stop}
use Rattle.task_set.specs.Orders.{IsObeyable, MayCome, task_held, has_stop, Stint, stint_orders}
use Rattle.task_set.specs.Orders.{stints_in, stints_from, stint_under_way}
use Rattle.task_set.specs.Context.{context_after_stint, stints_of_task, carried_context}

-- each prefix of an obeyable list is obeyable
abbrev pub PrefixIsObeyable : Type 0
PrefixIsObeyable = (front rest : List Order) → IsObeyable (front ++ rest) → IsObeyable front

-- an obeyable list without Stop, and an order that may come after it, are obeyable
abbrev pub OneMoreIsObeyable : Type 0
OneMoreIsObeyable = (orders : List Order) (next : Order) → IsObeyable orders
    → All (λ order. order ≢ Stop) orders → MayCome (task_held orders) next
    → IsObeyable (orders ++ next ∷ [])

-- an order that follows others in an obeyable list may come after them
abbrev pub NextMayCome : Type 0
NextMayCome = (orders : List Order) (next : Order) → IsObeyable (orders ++ next ∷ [])
    → MayCome (task_held orders) next

-- nothing follows Stop in an obeyable list
abbrev pub StopEndsOrders : Type 0
StopEndsOrders =
    (orders more : List Order) → IsObeyable (orders ++ more) → has_stop orders ≡ true → more ≡ []

-- the stints of a list and more orders: those of the list, then those that end in the other orders
abbrev pub StintsOfMoreOrders : Type 0
StintsOfMoreOrders = (p : ℕ) (orders more : List Order)
    → stints_in p (orders ++ more) ≡ stints_in p orders
    ++ stints_from p (stint_under_way p orders) more

-- the orders of stints on p, one stint after another, and then more orders: these stints, then
-- those of the others
abbrev pub StintsReadBack : Type 0
StintsReadBack = (p : ℕ) (stints : List Stint) (more : List Order)
    → All (λ stint. stint.processor ≡ p) stints → stints_in p (flat_map stint_orders stints ++ more)
    ≡ stints ++ stints_in p more

-- the number of a stint is not greater than that of another
abbrev pub IsNoLater : Stint → Stint → Type 0
IsNoLater a b = a.number ≤ b.number

-- the stints of a task are all of them, and their numbers ascend
abbrev pub StintsOfTaskAscend : Type 0
StintsOfTaskAscend = (t : ℕ) (stints : List Stint)
    → IsPermutation (filter (λ stint. stint.task == t) stints) (stints_of_task t stints)
    × AllPairs IsNoLater (stints_of_task t stints)

-- a stint of t is later than each stint of t in a list
abbrev pub IsLatest : List Stint → Stint → Type 0
IsLatest stints latest =
    All (λ stint. stint.task ≡ latest.task → stint.number < latest.number) stints

-- the latest stint of a task, wherever it stands in the list, comes last into the context that the
-- task carried
abbrev pub LatestStintCarried : Type 0
LatestStintCarried =
    (before after : List Stint) (latest : Stint) → IsLatest (before ++ after) latest
    → carried_context latest.task (before ++ latest ∷ after)
    ≡ context_after_stint (carried_context latest.task (before ++ after)) latest

-- a stint changes the context of no other task
abbrev pub OtherTasksCarried : Type 0
OtherTasksCarried = (t : ℕ) (before after : List Stint) (stint : Stint) → stint.task ≢ t
    → carried_context t (before ++ stint ∷ after) ≡ carried_context t (before ++ after)

-- a context that a task carried is of that task, and where each stint ran on a processor below n,
-- so did the last
abbrev pub CarriedIsOfItsTask : Type 0
CarriedIsOfItsTask = (n t : ℕ) (stints : List Stint) → All (λ stint. stint.processor < n) stints
    → ((carried_context t stints).task ≡ t) × IfSome (carried_context t stints).last (λ p. p < n)
