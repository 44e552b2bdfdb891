-- How many orders a flush leaves owed, and the looks that justify it.
use Rattle.std.specs.Prelude.{◌≡◌, ◌≢◌, ℕ, ◌+◌, ◌≤◌, List, [], ◌∷◌, ◌++◌, length, sum, slice_get}
use Rattle.std.specs.Prelude.{Some}
use Rattle.task_set.specs.TaskSet.{SetData}
use Rattle.order_queues.specs.Ends.{EyeData, SenderData, queue_room}
use Rattle.event_history.specs.Boards.{PassData}
use Rattle.event_history.specs.Ordering.{orders_seen}

-- the eye is of the same queue, knows no smaller number, and has the looks that it had, and more
pub record EyeGrown (old new : EyeData) : Type 0 where
  pub word : new.received_word ≡ old.received_word
  pub known : old.known ≤ new.known
  pub looks : (gained : List ℕ) × (new.looks ≡ old.looks ++ gained)

-- of so many orders these are still owed: so many were sent, the eye's last look was taken since,
-- it is what the eye knows, and by it the queue was full
pub record OwedByLook (old new : EyeData) (orders owed : ℕ) : Type 0 where
  pub sent : ℕ
  pub total : sent + owed ≡ orders
  pub gained : List ℕ
  pub looks : new.looks ≡ old.looks ++ gained ++ new.known ∷ []
  pub full : new.known + queue_room ≤ sent

-- of so many orders for one processor these are still owed
pub record EyeFlushed (old new : EyeData) (orders owed : ℕ) : Type 0 where
  pub grown : EyeGrown old new
  pub by_look : owed ≢ 0 → OwedByLook old new orders owed

-- orders are owed to the first processors, one number for each
abbrev pub AllFlushed : (ℕ → ℕ) → List EyeData → List EyeData → List ℕ → Type 0
AllFlushed orders old new owed = (p k : ℕ) (e e' : EyeData) → slice_get owed p ≡ Some k
    → slice_get old p ≡ Some e → slice_get new p ≡ Some e' → EyeFlushed e e' (orders p) k

-- the orders that are still owed, of so many for each processor
pub record EyesFlushed (orders : ℕ → ℕ) (old new : List EyeData) (answer : ℕ) : Type 0 where
  pub owed : List ℕ
  pub count : length owed ≡ length old
  pub total : answer ≡ sum owed
  pub each : AllFlushed orders old new owed

-- what is owed to each of the first processors is what its sender did not send of so many orders
abbrev pub AllOwed : (ℕ → ℕ) → List SenderData → List ℕ → Type 0
AllOwed orders senders owed = (p k : ℕ) (s : SenderData) → slice_get owed p ≡ Some k
    → slice_get senders p ≡ Some s → length s.sent + k ≡ orders p

-- the same, and these senders sent all orders but those that are owed
pub record SendersFlushed (orders : ℕ → ℕ) (old new : List EyeData) (senders : List SenderData)
    (answer : ℕ) : Type 0 where
  pub flushed : EyesFlushed orders old new answer
  pub rest : AllOwed orders senders flushed.owed

-- the answer is how many orders are still owed, of those that follow from what the pass has then
-- seen
abbrev pub Flushed : SetData → PassData → PassData → ℕ → Type 0
Flushed set old new answer =
    EyesFlushed (λ p. length (orders_seen set new p)) old.eyes new.eyes answer
