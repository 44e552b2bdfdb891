-- Queues, hands and receivers at their places.
use Rattle.std.proofs.Common.{◌≡◌, ℕ, suc, ◌+◌, Some, List, [], ◌∷◌, ◌++◌, length, map, slice_get, refl, sym, ap, subst, arith}
use Rattle.atomic_table.specs.Seated.{TableId}
use Rattle.task_set.specs.TaskSet.{SetData}
use Rattle.order_queues.specs.Ends.{QueueData, ReceiverData, new_receiver}
use Rattle.context_slots.specs.Hands.{SlotsData, HandData, new_hand, AreNewHandsFrom}
use Rattle.event_history.specs.Boards.{AreFor, PassData, AreNewPassesFrom as PassesNewFrom}
use Rattle.replay.specs.Places.{AllFrom}
use Rattle.order_queues.specs.Ends.{EyeData}
use Rattle.replay.specs.Streams.{IsUnused}
use Rattle.std.specs.Prelude.{All}
use Rattle.std.proofs.lemmas.List.Elements.{All-nil, All-cons}

-- one queue more
pub are_for-push : (set : SetData) (queues : List QueueData) (queue : QueueData) → AreFor set queues → queue.tasks ≡ length set.tasks
    → AreFor set (queues ++ queue ∷ [])
are_for-push set [] queue all here = (here, tt)
are_for-push set (first ∷ rest) queue all here = (all.0, are_for-push set rest queue all.1 here)

-- the hand of processor n that did nothing
abbrev pub IsNewHandAt : SlotsData → ℕ → HandData → Type 0
IsNewHandAt slots n hand = hand ≡ new_hand slots.id n

-- the receiver of the queue at n that received nothing
pub record IsNewReceiverAt (queues : List QueueData) (n : ℕ) (receiver : ReceiverData) : Type 0 where
  pub of_queue : slice_get queues n ≡ Some receiver.queue
  pub received : receiver.received ≡ []

pub new_hands : (slots : SlotsData) (n : ℕ) (hands : List HandData) → AreNewHandsFrom slots.id n hands → AllFrom (IsNewHandAt slots) n hands
new_hands slots n [] all = tt
new_hands slots n (hand ∷ rest) all = (all.0, new_hands slots (n + 1) rest all.1)

receivers_from : (all : List QueueData) (n : ℕ) (rest : List QueueData)
    → ((k : ℕ) (q : QueueData) → slice_get rest k ≡ Some q → slice_get all (n + k) ≡ Some q)
    → AllFrom (IsNewReceiverAt all) n (map new_receiver rest)
receivers_from all n [] there = tt
receivers_from all n (queue ∷ rest) there = (
  record { of_queue = subst (λ (m : ℕ). slice_get all m ≡ Some queue) (omega arith) (there 0 queue refl); received = refl },
  receivers_from all (n + 1) rest (λ k q at. subst (λ (m : ℕ). slice_get all m ≡ Some q) (omega arith) (there (suc k) q at)),
)

pub new_receivers : (queues : List QueueData) (receivers : List ReceiverData) → receivers ≡ map new_receiver queues
    → AllFrom (IsNewReceiverAt queues) 0 receivers
new_receivers queues receivers are = subst (AllFrom (IsNewReceiverAt queues) 0) (sym are)
    (receivers_from queues 0 queues (λ k q at. subst (λ (m : ℕ). slice_get queues m ≡ Some q) (omega arith) at))

-- new passes have posted nothing and have not seen the close
pub new_unused : (board : TableId) (eyes : List EyeData) (n : ℕ) (passes : List PassData) → PassesNewFrom board eyes n passes
    → All IsUnused passes
new_unused board eyes n [] all = All-nil IsUnused
new_unused board eyes n (pass ∷ rest) all =
    All-cons IsUnused pass rest (record { mine = ap (λ (p : PassData). p.mine) all.0; close = ap (λ (p : PassData). p.saw_close) all.0 })
    (new_unused board eyes (n + 1) rest all.1)
