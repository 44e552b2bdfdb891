-- What a turn gives: the core, and a sender for each processor, which sent a beginning of the
-- processor's orders.
use Rattle.std.specs.Prelude.{◌≡◌, ℕ, List, [], ◌∷◌, map, slice_get, Option, Some, None, false}
use mathlib.Core.List.{IsPrefix}
use Rattle.task_set.specs.TaskSet.{SetData}
use Rattle.strong_apa.specs.State.{start_of}
use Rattle.sched_core.specs.CoreData.{CoreData, core_orders}
use Rattle.order_queues.specs.Ends.{QueueData, SenderData}

-- the core, and the senders in the order of the processors
pub record HeldData : Type 0 where
  pub core : CoreData
  pub senders : List SenderData

-- the queues of these senders
abbrev pub queues_of : List SenderData → List QueueData
queues_of senders = map (λ (s : SenderData). s.queue) senders

-- what each sender sent begins the orders of its processor
abbrev pub SentBegins : CoreData → List SenderData → Type 0
SentBegins core senders =
    (p : ℕ) (s : SenderData) → slice_get senders p ≡ Some s → IsPrefix s.sent (core_orders core p)

-- the core began as it did, and the orders that it had begin those that it has
abbrev pub CoreGrows : CoreData → CoreData → Type 0
CoreGrows old new =
    (new.start ≡ old.start) × ((p : ℕ) → IsPrefix (core_orders old p) (core_orders new p))

-- no sender sent anything
abbrev pub NoneSent : List SenderData → Type 0
NoneSent [] = Unit {0}
NoneSent (s ∷ rest) = (s.sent ≡ []) × NoneSent rest

-- a core of this set to which nothing happened
abbrev pub new_core : SetData → CoreData
new_core set =
    record { start = start_of set; history = []; links = start_of set; closed = false; spare = 0 }

-- the one slot of a new turn word: such a core, and these senders
abbrev pub new_slots : SetData → List SenderData → List (Option HeldData)
new_slots set senders = Some (record { core = new_core set; senders = senders }) ∷ []

-- there is one slot, and what a turn gives is in it
abbrev pub IsOneSlot : List (Option HeldData) → Type 0
IsOneSlot slots = (held : HeldData) × (slots ≡ Some held ∷ [])

-- the senders of the first slot
abbrev pub senders_in : List (Option HeldData) → List SenderData
senders_in [] = []
senders_in (None ∷ rest) = []
senders_in (Some held ∷ rest) = held.senders
