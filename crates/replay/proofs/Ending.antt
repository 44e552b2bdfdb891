-- The processors of a closed board, with their queues.
use Rattle.std.proofs.Common.{◌≡◌, ℕ, suc, ◌+◌, List, [], ◌∷◌, length, map, slice_get, Some, sym, refl, ap, ◌∙◌, subst, arith}
use Rattle.order_queues.specs.Ends.{QueueData}
use Rattle.context_slots.specs.Hands.{SlotsData}
use Rattle.processor_seat.specs.Stepping.{ProcessorData}
use Rattle.replay.specs.Places.{AllFrom}
use Rattle.replay.specs.Seats.{HasStoppedAt}

abbrev pub receiver_queue : ProcessorData → QueueData
receiver_queue p = p.receiver.queue

-- the processors from number n on receive from the queues from place n on
receivers_from : (all : List QueueData) (slots : SlotsData) (n : ℕ) (rest : List QueueData) (processors : List ProcessorData)
    → ((k : ℕ) (q : QueueData) → slice_get rest k ≡ Some q → slice_get all (n + k) ≡ Some q) → length processors ≡ length rest
    → AllFrom (HasStoppedAt all slots) n processors → map receiver_queue processors ≡ rest
receivers_from all slots n [] [] there count stopped = refl
receivers_from all slots n (q ∷ rest) [] there count stopped = absurd (omega arith)
receivers_from all slots n [] (p ∷ processors) there count stopped = absurd (omega arith)
receivers_from all slots n (q ∷ rest) (p ∷ processors) there count stopped =
    let number : p.hand.number ≡ n + 0 = stopped.0.seated.number ∙ omega arith in
    let two : Some p.receiver.queue ≡ Some q = sym stopped.0.seated.seated.of_queue ∙ ap (slice_get all) number ∙ there 0 q refl in
    let first : p.receiver.queue ≡ q = cc two in
    let later = receivers_from all slots (n + 1) rest processors
    (λ k other at. subst (λ (m : ℕ). slice_get all m ≡ Some other) (omega arith) (there (suc k) other at)) (omega arith) stopped.1 in
    λ i. first i ∷ later i

pub receivers_are : (queues : List QueueData) (slots : SlotsData) (processors : List ProcessorData) → length processors ≡ length queues
    → AllFrom (HasStoppedAt queues slots) 0 processors → map receiver_queue processors ≡ queues
receivers_are queues slots processors count stopped = receivers_from queues slots 0 queues processors
    (λ k q at. subst (λ (m : ℕ). slice_get queues m ≡ Some q) (omega arith) at) count stopped
