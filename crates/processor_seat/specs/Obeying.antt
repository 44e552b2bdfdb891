-- What a processor obeyed, and what an order does to its hand. What it obeyed is read off the hand:
-- each stint that ended gives its orders, in turn, and then the stint that is held gives its Take
-- and its Runs so far.
use Rattle.std.specs.Prelude.{◌≡◌, ◌≢◌, ℕ, ◌*◌, Option, None, Some, List, [], ◌∷◌, ◌++◌, map}
use Rattle.std.specs.List.{flat_map}
use Rattle.task_set.specs.declared.context.Context.{Context}
use Rattle.task_set.specs.declared.order.Order.{Order}
use Rattle.task_set.specs.declared.order.Order.TheVariants.{Take, Release, Run, Stop}
use Rattle.task_set.specs.Orders.{stint_orders}
use Rattle.context_slots.specs.declared.view.OpenStint.{OpenStint}
use Rattle.context_slots.specs.HandOver.{IsHomeAfter}
use Rattle.context_slots.specs.Hands.{HandData, after_look, after_take, after_run, after_release}
use Rattle.processor_seat.specs.declared.answer.Obeyed.{Obeyed}
use Rattle.processor_seat.specs.declared.answer.Obeyed.TheVariants.{Done, NotTurn}

-- the orders of a stint that is held: its Take, and a Run for each of its units so far
abbrev pub orders_under_way : Option OpenStint → List Order
orders_under_way None = []
orders_under_way (Some stint) = Take stint.task stint.number ∷ map Run stint.units

-- the orders that a processor obeyed with this hand
abbrev pub orders_obeyed : HandData → List Order
orders_obeyed hand = flat_map stint_orders hand.ended ++ orders_under_way hand.holds

-- the task of the stint that is held, if there is one
abbrev pub held_task : Option OpenStint → Option ℕ
held_task None = None
held_task (Some stint) = Some stint.task

-- the hand obeys an order: it takes the context that is at home after all earlier stints, or runs
-- what it took, or releases it
abbrev pub Obeys : Order → HandData → HandData → Type 0
Obeys (Take task number) old new =
    (base : Context) × IsHomeAfter base task number × (new ≡ after_take old task number base)
Obeys (Run units) old new = new ≡ after_run old units
Obeys (Release task) old new = new ≡ after_release old
Obeys Stop old new = ⊥

-- the order is a Take, and its exchange found another word than that of its turn
abbrev pub IsMissed : Order → ℕ → ℕ → HandData → HandData → Type 0
IsMissed order task found old new =
    (number : ℕ) × (order ≡ Take task number) × (found ≢ 2 * number)
    × (new ≡ after_look old task found)

-- the order is obeyed, or is a Take that is not at its turn
abbrev pub ObeyAnswer : Order → HandData → Obeyed → HandData → Type 0
ObeyAnswer order old Done new = Obeys order old new
ObeyAnswer order old (NotTurn task found) new = IsMissed order task found old new
