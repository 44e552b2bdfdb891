use Rattle.std.proofs.Common.{◌≡◌, ◌*◌, ◌≤◌, length, map}
use Rattle.order_queues.specs.Ends.{EyeData}
use Rattle.sched_core.specs.CoreData.{core_orders}
use Rattle.event_history.specs.Holdings.{SentBegins, queues_of}
use Rattle.event_history.specs.Owing.{most_orders}
use Rattle.event_history.proofs.Sending.{FlushedSoFar}
use Rattle.event_history.proofs.owed.send_all.Given as goal

abbrev pub invariant-loop-p : goal.invariant-loop-p
invariant-loop-p g l = record {
  queues : queues_of l.senders.items ≡ l.queues;
  eyes : map (λ (e : EyeData). e.received_word) l.eyes.items ≡ map (λ (e : EyeData). e.received_word) l.initial.eyes.items;
  begins : SentBegins l.core l.senders.items;
  low : l.owed ≤ l.p * most_orders;
  flushed : FlushedSoFar (λ q. length (core_orders l.core q)) l.initial.eyes.items l.eyes.items l.senders.items l.p l.owed;
}
