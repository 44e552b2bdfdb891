use Rattle.std.proofs.Common.{◌≡◌, ℕ, ◌<◌, All, Contains, length}
use Rattle.link_table.specs.UrgencyOrder.{urgency_entry, IsEntry, AreNumbered}
use Rattle.link_table.proofs.waiting_tasks.entries_of.Given as goal

abbrev pub invariant-loop-t : goal.invariant-loop-t
invariant-loop-t l = record {
  all : All (IsEntry l.by_task) l.entries.items;
  each : (t : ℕ) → t < l.t → Contains l.entries.items (urgency_entry l.by_task t);
  count : length l.entries.items ≡ l.t;
  numbered : AreNumbered l.entries.items;
}
