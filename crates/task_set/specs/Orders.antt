-- Lists of orders to one processor. A processor holds one task or nobody, and nobody at first; it
-- takes a task only while it holds nobody, runs and releases only the task that it holds, and stops
-- only while it holds nobody, with its last order. A stint is what it does with a task from a take
-- to the next release.
use Rattle.std.specs.Prelude.{◌≡◌, ℕ, ◌<◌, Bool, true, false, Option, None, Some, List, [], ◌∷◌}
use Rattle.std.specs.Prelude.{◌++◌, map, fold, option_to_list}
use Rattle.task_set.specs.declared.order.Order.{Order}
use Rattle.task_set.specs.declared.order.Order.TheVariants.{Release, Take, Run, Stop}

-- an order may come while this task is held, or while nobody is
abbrev pub MayCome : Option ℕ → Order → Type 0
MayCome None (Take task number) = Unit {0}
MayCome None Stop = Unit {0}
MayCome None (Release task) = ⊥
MayCome None (Run units) = ⊥
MayCome (Some held) (Release task) = held ≡ task
MayCome (Some held) (Run units) = Unit {0}
MayCome (Some held) (Take task number) = ⊥
MayCome (Some held) Stop = ⊥

-- nothing comes after Stop
abbrev pub StopIsLast : Order → List Order → Type 0
StopIsLast Stop rest = rest ≡ []
StopIsLast (Take task number) rest = Unit {0}
StopIsLast (Release task) rest = Unit {0}
StopIsLast (Run units) rest = Unit {0}

-- who is held after an order
abbrev pub held_after : Option ℕ → Order → Option ℕ
held_after held (Take task number) = Some task
held_after held (Release task) = None
held_after held (Run units) = held
held_after held Stop = held

-- from left to right each order may come, where this task is held at first, or nobody
abbrev pub IsObeyableFrom : Option ℕ → List Order → Type 0
IsObeyableFrom held [] = Unit {0}
IsObeyableFrom held (order ∷ rest) =
    MayCome held order × StopIsLast order rest × IsObeyableFrom (held_after held order) rest

-- a list of orders that one processor can obey
abbrev pub IsObeyable : List Order → Type 0
IsObeyable orders = IsObeyableFrom None orders

-- who is held after a list of orders
abbrev pub task_held : List Order → Option ℕ
task_held orders = fold held_after None orders

-- Stop is among the orders
abbrev pub has_stop : List Order → Bool
has_stop [] = false
has_stop (Stop ∷ rest) = true
has_stop (Take task number ∷ rest) = has_stop rest
has_stop (Release task ∷ rest) = has_stop rest
has_stop (Run units ∷ rest) = has_stop rest

-- a task that the order names is below n
abbrev pub NamesTaskBelow : ℕ → Order → Type 0
NamesTaskBelow n (Release task) = task < n
NamesTaskBelow n (Take task number) = task < n
NamesTaskBelow n (Run units) = Unit {0}
NamesTaskBelow n Stop = Unit {0}

-- the number of the order, if it is a take, is below n
abbrev pub TakesBelow : ℕ → Order → Type 0
TakesBelow n (Release task) = Unit {0}
TakesBelow n (Take task number) = number < n
TakesBelow n (Run units) = Unit {0}
TakesBelow n Stop = Unit {0}

-- a stint: a task is taken for the stint with this number on this processor, run for each of these
-- units, and released
pub record Stint : Type 0 where
  pub task : ℕ
  pub number : ℕ
  pub processor : ℕ
  pub units : List ℕ

-- the orders of a stint: its Take, a Run for each of its units, and its Release
abbrev pub stint_orders : Stint → List Order
stint_orders stint = Take stint.task stint.number ∷ map Run stint.units ++ Release stint.task ∷ []

-- the stint that is under way on p after an order: a Take begins it, and a Run adds its units
abbrev pub stint_after : ℕ → Option Stint → Order → Option Stint
stint_after p under_way (Take task number) =
    Some (record { task = task; number = number; processor = p; units = [] })
stint_after p under_way (Release task) = None
stint_after p None (Run units) = None
stint_after p (Some stint) (Run units) = Some (record stint { units = stint.units ++ units ∷ [] })
stint_after p under_way Stop = under_way

-- the stint that an order ends: a Release ends the one under way
abbrev pub stint_ended : Option Stint → Order → List Stint
stint_ended under_way (Release task) = option_to_list under_way
stint_ended under_way (Take task number) = []
stint_ended under_way (Run units) = []
stint_ended under_way Stop = []

-- the stints on p that these orders end, where this one is under way at first, or none
abbrev pub stints_from : ℕ → Option Stint → List Order → List Stint
stints_from p under_way [] = []
stints_from p under_way (order ∷ rest) =
    stint_ended under_way order ++ stints_from p (stint_after p under_way order) rest

-- the stints of a list of orders to p: one for each Take that a Release follows, with the units of
-- the Runs between
abbrev pub stints_in : ℕ → List Order → List Stint
stints_in p orders = stints_from p None orders

-- the stint that is under way on p after a list of orders
abbrev pub stint_under_way : ℕ → List Order → Option Stint
stint_under_way p orders = fold (stint_after p) None orders
