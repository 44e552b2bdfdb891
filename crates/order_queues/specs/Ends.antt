-- What contracts see of queues and their ends: orders come out as they were sent; each end learns
-- of the other by looks at a count, and knows what its last look found.
use Rattle.std.specs.Prelude.{◌≡◌, ℕ, ◌+◌, ◌<◌, ◌≤◌, take, Option, Result, MatchOption, MatchResult}
use Rattle.std.specs.Prelude.{List, [], ◌∷◌, ◌++◌, length, All}
use Rattle.atomic_table.specs.Seated.{TableId}
use Rattle.task_set.specs.declared.order.Order.{Order}
use Rattle.task_set.specs.Orders.{IsObeyable, NamesTaskBelow}

-- the number of orders that a queue holds
abbrev pub queue_room : ℕ
queue_room = 256

-- which queue it is: its lane, and the words that count what was sent and received; and for how
-- many tasks it was made
pub record QueueData : Type 0 where
  pub lane : TableId
  pub sent_word : TableId
  pub received_word : TableId
  pub tasks : ℕ

-- the queue that it is of, and the orders sent
pub record SenderData : Type 0 where
  pub queue : QueueData
  pub sent : List Order

-- the queue that it is of, the orders received, the number of orders that it knows to be sent, and
-- what its looks found
pub record ReceiverData : Type 0 where
  pub queue : QueueData
  pub received : List Order
  pub known : ℕ
  pub looks : List ℕ

-- the word that it looks at, the number of orders that it knows to be received, and what its looks
-- found
pub record EyeData : Type 0 where
  pub received_word : TableId
  pub known : ℕ
  pub looks : List ℕ

-- the sender of a new queue: nothing is sent
abbrev pub new_sender : QueueData → SenderData
new_sender queue = record { queue = queue; sent = [] }

-- the receiver of a new queue: nothing is received or known, and it has no looks
abbrev pub new_receiver : QueueData → ReceiverData
new_receiver queue = record { queue = queue; received = []; known = 0; looks = [] }

-- a new eye of a queue: it knows 0 and has no looks
abbrev pub new_eye : QueueData → EyeData
new_eye queue = record { received_word = queue.received_word; known = 0; looks = [] }

-- an eye that looked has one look more, at least what it knew, and knows it
pub record Looks (old : EyeData) (found : ℕ) (new : EyeData) : Type 0 where
  pub word : new.received_word ≡ old.received_word
  pub looks : new.looks ≡ old.looks ++ found ∷ []
  pub known : new.known ≡ found
  pub more : old.known ≤ found

-- `send`: the eye looks once; where fewer orders than the room were sent beyond what it found, the
-- order is sent last; otherwise it is handed back, and nothing is sent
pub record Sends (old : SenderData) (old_eye : EyeData) (order : Order)
    (result : Result (Unit {0}) Order) (new : SenderData) (new_eye : EyeData) : Type 0 where
  pub look : ℕ
  pub eye : Looks old_eye look new_eye
  pub queue : new.queue ≡ old.queue
  pub answer : MatchResult result
      (λ _. (length old.sent < look + queue_room) × (new.sent ≡ old.sent ++ order ∷ []))
      (λ back. (look + queue_room ≤ length old.sent) × (back ≡ order) × (new.sent ≡ old.sent))

-- `send_all`: the eye looks once; the first orders are sent, each where fewer than the room were
-- sent beyond what the eye found; an order is left only where there was no room for it
pub record SendsAll (old : SenderData) (old_eye : EyeData) (orders : List Order) (count : ℕ)
    (new : SenderData) (new_eye : EyeData) : Type 0 where
  pub look : ℕ
  pub eye : Looks old_eye look new_eye
  pub queue : new.queue ≡ old.queue
  pub sent : new.sent ≡ old.sent ++ take count orders
  pub few : count ≤ length orders
  pub room : 0 < count → length new.sent ≤ look + queue_room
  pub full : count < length orders → look + queue_room ≤ length new.sent

-- `next`: the receiver looks once, and knows what it found, at least what it knew; where more was
-- sent than it received, it receives one order, and what it received then is obeyable and names
-- tasks below the queue's number; otherwise it receives none
pub record Receives (old : ReceiverData) (result : Option Order) (new : ReceiverData) : Type 0 where
  pub look : ℕ
  pub looks : new.looks ≡ old.looks ++ look ∷ []
  pub known : new.known ≡ look
  pub more : old.known ≤ look
  pub queue : new.queue ≡ old.queue
  pub answer : MatchOption result
      ((look ≤ length old.received) × (new.received ≡ old.received))
      (λ order. (length old.received < look) × (new.received ≡ old.received ++ order ∷ [])
      × IsObeyable new.received × All (NamesTaskBelow old.queue.tasks) new.received)

-- an eye that met a receiver knows no less, and has its looks
pub record KnowsMore (old new : EyeData) : Type 0 where
  pub word : new.received_word ≡ old.received_word
  pub looks : new.looks ≡ old.looks
  pub known : old.known ≤ new.known

-- a receiver that met a sender knows no less, and has its looks and its orders
pub record ReceiverKnowsMore (old new : ReceiverData) : Type 0 where
  pub queue : new.queue ≡ old.queue
  pub received : new.received ≡ old.received
  pub looks : new.looks ≡ old.looks
  pub known : old.known ≤ new.known
