-- What holds of the orders of every core: a processor can obey them, they are few, and they name tasks of the core, with
-- numbers of takes below the length of the history.
use Rattle.std.proofs.Common.{ℕ, ◌+◌, ◌*◌, ◌≤◌, Bool, true, false, length, arith, if◌then◌else◌, subst, sym}
use Rattle.std.specs.Prelude.{All}
use Rattle.task_set.specs.Orders.{IsObeyable, NamesTaskBelow, TakesBelow}
use Rattle.strong_apa.specs.State.{task_count}
use Rattle.strong_apa.specs.Dispatch.{orders_of, closed_orders_of}
use Rattle.history_laws.proofs.OrderCounts.{orders_count-from}
use Rattle.history_laws.proofs.OrderLists.{orders_obeyable-from}
use Rattle.history_laws.proofs.OrderNames.{orders_name_tasks-from, take_numbers_small-from}
use Rattle.sched_core.specs.CoreData.{CoreData, IsCore, core_orders}

module _ (core : CoreData) (p : ℕ) (kept : IsCore core) where
  pub core_obeyable : IsObeyable (core_orders core p)
  core_obeyable = by core.closed
    where
      by : (closed : Bool) → IsObeyable (if closed then closed_orders_of core.start core.history p else orders_of core.start core.history p)
      by true = (orders_obeyable-from core.start core.history p kept.nobody kept.legal).after_close
      by false = (orders_obeyable-from core.start core.history p kept.nobody kept.legal).before_close

  pub core_few : length (core_orders core p) ≤ 2 * length core.history + (if core.closed then 2 else 0)
  core_few = by core.closed
    where
      by : (closed : Bool) → length (if closed then closed_orders_of core.start core.history p else orders_of core.start core.history p)
          ≤ 2 * length core.history + (if closed then 2 else 0)
      by true = let few = orders_count-from core.start core.history p kept.legal in omega (arith, few.0, few.1)
      by false = let few = orders_count-from core.start core.history p kept.legal in omega (arith, few.0)

  pub core_names_tasks : All (NamesTaskBelow (task_count core.links)) (core_orders core p)
  core_names_tasks = subst (λ (n : ℕ). All (NamesTaskBelow n) (core_orders core p)) (sym kept.tasks) (by core.closed)
    where
      by : (closed : Bool) → All (NamesTaskBelow (task_count core.start)) (if closed then closed_orders_of core.start core.history p
          else orders_of core.start core.history p)
      by true = (orders_name_tasks-from core.start core.history p kept.start kept.legal).1
      by false = (orders_name_tasks-from core.start core.history p kept.start kept.legal).0

  pub core_takes_small : All (TakesBelow (length core.history)) (core_orders core p)
  core_takes_small = by core.closed
    where
      by : (closed : Bool) → All (TakesBelow (length core.history)) (if closed then closed_orders_of core.start core.history p
          else orders_of core.start core.history p)
      by true = (take_numbers_small-from core.start core.history p kept.start kept.legal).1
      by false = (take_numbers_small-from core.start core.history p kept.start kept.legal).0
