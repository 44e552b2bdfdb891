-- What a replay of events gives back: one legal history that is a merge of the events, closed, and
-- for each processor a hand that has ended exactly the stints of the processor's orders.
use Rattle.std.specs.Prelude.{◌≡◌, ℕ, true, None, List, length}
use Rattle.task_set.specs.TaskSet.{SetData}
use Rattle.task_set.specs.Orders.{stints_in}
use Rattle.strong_apa.specs.State.{start_of}
use Rattle.strong_apa.specs.History.{IsLegal}
use Rattle.strong_apa.specs.Dispatch.{closed_orders_of}
use Rattle.strong_apa.specs.declared.reply.Entry.{Entry}
use Rattle.trace_reader.specs.declared.posted.Posted.{Posted}
use Rattle.sched_core.specs.CoreData.{CoreData}
use Rattle.context_slots.specs.Hands.{SlotsData, HandData}
use Rattle.replay.specs.Merge.{IsMerge}
use Rattle.replay.specs.Places.{AllFrom}

-- the hand of processor p, of these slots, holds nothing, and has ended the stints of the
-- processor's closed orders
pub record HasAllStints (slots : SlotsData) (history : List Entry) (p : ℕ)
    (hand : HandData) : Type 0 where
  pub of_slots : hand.slots ≡ slots.id
  pub number : hand.number ≡ p
  pub holds : hand.holds ≡ None
  pub ended : hand.ended ≡ stints_in p (closed_orders_of (start_of slots.set) history p)

-- a hand for each processor, in order, with all its stints
pub record HaveAllStints (slots : SlotsData) (history : List Entry)
    (hands : List HandData) : Type 0 where
  pub one_each : length hands ≡ slots.set.processors
  pub each : AllFrom (HasAllStints slots history) 0 hands

-- a closed core with a legal history of this set
pub record IsClosedOver (set : SetData) (core : CoreData) : Type 0 where
  pub start : core.start ≡ start_of set
  pub legal : IsLegal set core.history
  pub closed : core.closed ≡ true

-- the core of a replay of these events: closed, with a legal history of the set, which is a merge
-- of them
pub record IsReplayOf (set : SetData) (events : List Posted) (core : CoreData) : Type 0 where
  pub over : IsClosedOver set core
  pub merge : IsMerge events core.history
