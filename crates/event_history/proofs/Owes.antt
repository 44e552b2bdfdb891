-- What may be sent of a core, and what its orders are once it changed.
use Rattle.std.proofs.Common.{◌≡◌, ℕ, zero, suc, ◌≤◌, Bool, true, false, if◌then◌else◌, List, [], ◌∷◌, ◌++◌, length, map, slice_get, Some}
use Rattle.std.proofs.Common.{Result, Ok, Err, IfOk, IfErr, sym, refl, ap, ◌∙◌, subst, arith, append_assoc, append-nil}
use mathlib.Core.List.{IsPrefix}
use Rattle.task_set.specs.TaskSet.{SetData, IsTaskSet}
use Rattle.task_set.specs.declared.order.Order.{Order}
use Rattle.strong_apa.specs.declared.reply.Entry.{Entry}
use Rattle.strong_apa.specs.State.{State, start_of}
use Rattle.strong_apa.specs.History.{IsLegal}
use Rattle.strong_apa.specs.Dispatch.{orders_of, closed_orders_of}
use Rattle.order_queues.specs.Ends.{QueueData, SenderData, new_sender}
use Rattle.sched_core.specs.CoreData.{CoreData, IsCore, core_orders, entry_of, max_entries}
use Rattle.sched_core.specs.declared.fault.CoreFault.{CoreFault}
use Rattle.task_set.specs.declared.event.Event.{Event}
use Rattle.event_history.specs.declared.fault.Receipt.{Receipt}
use Rattle.event_history.specs.Entering.{Entered, IsNoEntry, IsTaken}
use Rattle.history_laws.proofs.OrderCounts.{orders_count}
use Rattle.history_laws.proofs.OrderLists.{orders_obeyable}
use Rattle.history_laws.proofs.OrderNames.{orders_name_tasks}
use Rattle.history_laws.proofs.OrderPrefixes.{orders_only_grow}
use Rattle.event_history.specs.Boards.{AreFor}
use Rattle.event_history.specs.Holdings.{CoreGrows, SentBegins, NoneSent, queues_of}
use Rattle.event_history.specs.Owing.{MaySend, AllMaySend}
use Rattle.event_history.proofs.Keeps.{legal_over}

tasks_at : (set : SetData) (l : List QueueData) (p : ℕ) (q : QueueData) → AreFor set l → slice_get l p ≡ Some q → q.tasks ≡ length set.tasks
tasks_at set [] p q h at = absurd (cc at)
tasks_at set (x ∷ xs) zero q h at = let d : x ≡ q = cc at in ap (λ (y : QueueData). y.tasks) (sym d) ∙ h.0
tasks_at set (x ∷ xs) (suc p) q h at = tasks_at set xs p q h.1 at

may_cases : (set : SetData) (h : List Entry) (p : ℕ) → IsTaskSet set → IsLegal set h → length h ≤ max_entries → (b : Bool)
    → MaySend (length set.tasks) (if b then closed_orders_of (start_of set) h p else orders_of (start_of set) h p)
may_cases set h p is_set legal low true =
    let few = orders_count set h p legal in
    record {
      obeyable = (orders_obeyable set h p legal).after_close;
      below = (orders_name_tasks set h p is_set legal).1;
      few = omega (arith, few.0, few.1);
    }
may_cases set h p is_set legal low false =
    let few = orders_count set h p legal in
    record {
      obeyable = (orders_obeyable set h p legal).before_close;
      below = (orders_name_tasks set h p is_set legal).0;
      few = omega (arith, few.0);
    }

pub may_send : (set : SetData) (core : CoreData) (queues : List QueueData) → IsTaskSet set → AreFor set queues → IsCore core
    → core.start ≡ start_of set → AllMaySend queues core
may_send set core queues is_set tasks valid start = λ p q at.
    let h = core.history in
    let n = length set.tasks in
    let legal = legal_over set core valid start in
    subst (λ k. MaySend k (core_orders core p)) (sym (tasks_at set queues p q tasks at))
    (subst (λ (s : State). MaySend n (if core.closed then closed_orders_of s h p else orders_of s h p)) (sym start)
    (may_cases set h p is_set legal valid.fits core.closed))

-- the orders of a core with one entry more, and of one that is closed, begin with those that it had
pub grows_same : (old new : CoreData) → new.start ≡ old.start → new.history ≡ old.history → new.closed ≡ old.closed → CoreGrows old new
grows_same old new start history closed = (
  start,
  λ p.
      let same : core_orders old p ≡ core_orders new p =
      λ i. if sym closed i then closed_orders_of (sym start i) (sym history i) p else orders_of (sym start i) (sym history i) p in
      ([], append-nil (core_orders old p) ∙ same),
)

pub grows_entry : (old new : CoreData) (e : Entry) → new.start ≡ old.start → new.history ≡ old.history ++ e ∷ []
    → old.closed ≡ false → new.closed ≡ false → CoreGrows old new
grows_entry old new e start history was now = (
  start,
  λ p.
      let before : core_orders old p ≡ orders_of old.start old.history p =
      λ i. if was i then closed_orders_of old.start old.history p else orders_of old.start old.history p in
      let after : core_orders new p ≡ orders_of old.start (old.history ++ e ∷ []) p =
      λ i. if now i then closed_orders_of (start i) (history i) p else orders_of (start i) (history i) p in
      subst (λ l. IsPrefix l (core_orders new p)) (sym before)
      (subst (λ l. IsPrefix (orders_of old.start old.history p) l) (sym after) (orders_only_grow old.start old.history (e ∷ []) p).0),
)

pub grows_by_answer : {A : Type 0} (of : Receipt → A) (old new : CoreData) (caller : ℕ) (event : Event) (r : Result A CoreFault)
    → IfOk r (IsTaken of (Entered old caller event new)) → IfErr r (IsNoEntry old new) → CoreGrows old new
grows_by_answer of old new caller event (Ok x) told none =
    let e = told.holds in
    grows_entry old new (entry_of caller event told.receipt.reply) e.start e.history e.was_open e.is_open
grows_by_answer of old new caller event (Err f) none e = grows_same old new e.0.start e.0.history e.0.closed

trans : (xs ys zs : List Order) → IsPrefix xs ys → IsPrefix ys zs → IsPrefix xs zs
trans xs ys zs p q = (p.0 ++ q.0, sym (append_assoc xs p.0 q.0) ∙ ap (λ (l : List Order). l ++ q.0) p.1 ∙ q.1)

pub begins_further : (old new : CoreData) (l : List SenderData) → CoreGrows old new → SentBegins old l → SentBegins new l
begins_further old new l grows all = λ p s at. trans s.sent (core_orders old p) (core_orders new p) (all p s at) (grows.1 p)

-- senders that sent nothing
none_at : (l : List SenderData) (p : ℕ) (s : SenderData) → NoneSent l → slice_get l p ≡ Some s → s.sent ≡ []
none_at [] p s none at = absurd (cc at)
none_at (x ∷ xs) zero s none at = let d : x ≡ s = cc at in ap (λ (y : SenderData). y.sent) (sym d) ∙ none.0
none_at (x ∷ xs) (suc p) s none at = none_at xs p s none.1 at

pub none_begins : (core : CoreData) (l : List SenderData) → NoneSent l → SentBegins core l
none_begins core l none = λ p s at. (core_orders core p, ap (λ (x : List Order). x ++ core_orders core p) (none_at l p s none at))

pub new_none : (l : List QueueData) → NoneSent (map new_sender l)
new_none [] = tt
new_none (x ∷ xs) = (refl, new_none xs)

pub new_queues : (l : List QueueData) → queues_of (map new_sender l) ≡ l
new_queues [] = refl
new_queues (x ∷ xs) = ap (λ l. x ∷ l) (new_queues xs)
