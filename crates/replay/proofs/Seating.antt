-- Processors at their places, and their queues.
use Rattle.std.proofs.Common.{◌≡◌, ℕ, zero, suc, Option, None, Some, option_to_list, List, [], ◌∷◌, ◌++◌, length, get_or, slice_get, sym}
use Rattle.std.proofs.Common.{ap, ◌∙◌}
use Rattle.std.specs.List.{flat_map}
use Rattle.task_set.specs.TaskSet.{SetData}
use Rattle.task_set.specs.Orders.{Stint, stint_orders, has_stop}
use Rattle.task_set.specs.declared.order.Order.{Order}
use Rattle.task_set.specs.declared.order.Order.TheVariants.{Stop}
use Rattle.order_queues.specs.Ends.{QueueData}
use Rattle.context_slots.specs.Hands.{SlotsData}
use Rattle.context_slots.specs.declared.view.OpenStint.{OpenStint}
use Rattle.event_history.specs.Boards.{AreFor}
use Rattle.processor_seat.specs.Obeying.{orders_under_way}
use Rattle.processor_seat.specs.Stepping.{ProcessorData, stop_if}
use Rattle.replay.specs.Seats.{IsSeatedAt, IsIdleAt}

-- the queue at a place, as it is read
pub queue_read : (queues : List QueueData) (n : ℕ) (queue read : QueueData) → slice_get queues n ≡ Some queue → read ≡ get_or queues n read
    → read ≡ queue
queue_read [] n queue read at is = absurd (cc at)
queue_read (first ∷ rest) zero queue read at is = let same : first ≡ queue = cc at in is ∙ same
queue_read (first ∷ rest) (suc n) queue read at is = queue_read rest n queue read at is

-- it was made for as many tasks as the set has
pub tasks_at : (set : SetData) (queues : List QueueData) (n : ℕ) (queue : QueueData) → AreFor set queues → slice_get queues n ≡ Some queue
    → queue.tasks ≡ length set.tasks
tasks_at set [] n queue all at = absurd (cc at)
tasks_at set (first ∷ rest) zero queue all at = let same : first ≡ queue = cc at in ap (λ (q : QueueData). q.tasks) (sym same) ∙ all.0
tasks_at set (first ∷ rest) (suc n) queue all at = tasks_at set rest n queue all.1 at

-- where nothing was obeyed, nothing is pending and nothing was received, that is all that was received
nothing_received : (ended : List Stint) (holds : Option OpenStint) (pending : Option Order) (received : List Order) → ended ≡ []
    → holds ≡ None → pending ≡ None → received ≡ []
    → received ≡ (flat_map stint_orders ended ++ orders_under_way holds) ++ (option_to_list pending ++ stop_if (has_stop received))
nothing_received ended holds pending received e h p r =
    r ∙ sym (λ i. (flat_map stint_orders (e i) ++ orders_under_way (h i)) ++ (option_to_list (p i) ++ stop_if (has_stop (r i))))

not_stop : (pending : Option Order) → pending ≡ None → pending ≡ Some Stop → ⊥
not_stop pending none stop = let no : None ≡ Some Stop = sym none ∙ stop in cc no

-- a processor that has done nothing is seated
pub idle_seated : (queues : List QueueData) (slots : SlotsData) (n : ℕ) (p : ProcessorData) → IsIdleAt queues slots n p
    → IsSeatedAt queues slots n p
idle_seated queues slots n p idle = record {
  seated = record {
    of_slots = idle.of_slots;
    of_queue = ap (slice_get queues) idle.number ∙ idle.of_queue;
    in_step = record {
      received = nothing_received p.hand.ended p.hand.holds p.pending p.receiver.received idle.ended idle.holds idle.pending idle.received;
      stopped = λ _. idle.pending;
      pending = not_stop p.pending idle.pending;
    };
  };
  number = idle.number;
}
