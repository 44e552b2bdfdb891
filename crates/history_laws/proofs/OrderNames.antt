-- What the orders of a legal history name: tasks of the set, and numbers of takes below the length of the history.
use Rattle.std.proofs.Common.{◌≡◌, ℕ, zero, suc, ◌+◌, ◌<◌, ◌≤◌, Bool, true, false, not, ◌&&◌, List, [], ◌∷◌, length, Option, None, Some}
use Rattle.std.proofs.Common.{refl, ◌∙◌, subst, inl, inr, arith, eq-eqb, ne_eqb}
use Rattle.std.specs.Prelude.{All, filter}
use Rattle.std.specs.List.{range_with_len}
use Rattle.std.proofs.lemmas.Bool.{cases_eq, cases_Bool, and_parts}
use Rattle.std.proofs.lemmas.List.{length-map}
use Rattle.std.proofs.lemmas.List.Elements.{All-nil, All-cons, All-append}
use Rattle.task_set.specs.TaskSet.{TaskData}
use Rattle.task_set.specs.declared.event.Event.{Event}
use Rattle.task_set.specs.declared.event.Event.TheVariants.{Tick}
use Rattle.task_set.specs.declared.order.Order.{Order}
use Rattle.task_set.specs.declared.order.Order.TheVariants.{Release, Take, Run, Stop}
use Rattle.strong_apa.specs.declared.reply.Entry.{Entry}
use Rattle.strong_apa.specs.State.{State, IsState, start_of, task_on, task_count, is_task}
use Rattle.strong_apa.specs.Step.{SchedulerStep}
use Rattle.strong_apa.specs.History.{IsLegalFrom, effect_of, state_after}
use Rattle.strong_apa.specs.Dispatch.{change_orders, tick_orders, taken_between, orders_from, orders_of, closed_orders_of}
use Rattle.strong_apa.proofs.Histories.{entry_orders, IsState-state_after}
use Rattle.strong_apa.proofs.Linked.{is_task-true, linked_number}
use Rattle.strong_apa.proofs.SameTasks.{same_tasks-effect, same_tasks-history, same_count}
use Rattle.strong_apa.proofs.Start.{IsState-start}
use Rattle.strong_apa.proofs.Steps.{step_keeps_state}
use Rattle.task_set.specs.Orders.{NamesTaskBelow, TakesBelow}
use Rattle.history_laws.specs.OrderLaws.{AllOrders, OrdersNameTasksFrom, OrdersNameTasks, TakeNumbersAreSmallFrom, TakeNumbersAreSmall}
use Rattle.history_laws.proofs.OrderLists.{event_orders, close_orders, closed_orders_of-split}

-- ---- a property of each order that an event and the close give
module _ (P : Order → Type 0) where
  all-change : (takes : ℕ → ℕ) (old new : Option ℕ) → ((a : ℕ) → old ≡ Some a → P (Release a))
      → ((b : ℕ) → new ≡ Some b → P (Take b (takes b))) → All P (change_orders takes old new)
  all-change takes None None released taken = All-nil P
  all-change takes None (Some b) released taken = All-cons P (Take b (takes b)) [] (taken b refl) (All-nil P)
  all-change takes (Some a) None released taken = All-cons P (Release a) [] (released a refl) (All-nil P)
  all-change takes (Some a) (Some b) released taken = elim (cases_eq a b) [
    | inl same ↦ rw (eq-eqb a b same) (All-nil P)
    | inr other ↦ rw (ne_eqb a b other) (All-cons P (Release a) (Take b (takes b) ∷ []) (released a refl)
        (All-cons P (Take b (takes b)) [] (taken b refl) (All-nil P)))
  ]

  all-tick : (event : Event) (o : Option ℕ) → ((units : ℕ) → P (Run units)) → All P (tick_orders event o)
  all-tick (Tick units) None runs = All-nil P
  all-tick (Tick units) (Some a) runs = All-cons P (Run units) [] (runs units) (All-nil P)
  all-tick event o runs = All-nil P

  pub all-event : (takes : ℕ → ℕ) (event : Event) (old new : Option ℕ) → ((a : ℕ) → old ≡ Some a → P (Release a))
      → ((b : ℕ) → new ≡ Some b → P (Take b (takes b))) → ((units : ℕ) → P (Run units)) → All P (event_orders takes event old new)
  all-event takes event old new released taken runs =
      All-append P (change_orders takes old new) (tick_orders event old) (all-change takes old new released taken) (all-tick event old runs)

  all-close : (o : Option ℕ) → ((a : ℕ) → o ≡ Some a → P (Release a)) → P Stop → All P (close_orders o)
  all-close None released stop = All-cons P Stop [] stop (All-nil P)
  all-close (Some a) released stop = All-cons P (Release a) (Stop ∷ []) (released a refl) (All-cons P Stop [] stop (All-nil P))

-- ---- tasks
-- an occupant is one of n tasks
occupant_below : (s : State) (n : ℕ) → IsState s → task_count s ≡ n → (p t : ℕ) → task_on s p ≡ Some t → t < n
occupant_below s n ok count p t on = let below = linked_number s p t ok on in omega arith

next_state : (s : State) (entry : Entry) → IsState s → SchedulerStep s entry.event entry.reply (effect_of s entry)
    → IsState (effect_of s entry)
next_state s entry ok step = step_keeps_state s entry.event entry.reply (effect_of s entry) ok step

pub names-orders_from : (s : State) (takes : ℕ → ℕ) (history : List Entry) (p n : ℕ) → IsState s → task_count s ≡ n → IsLegalFrom s history
    → All (NamesTaskBelow n) (orders_from s takes history p)
names-orders_from s takes [] p n ok count legal = All-nil (NamesTaskBelow n)
names-orders_from s takes (first ∷ rest) p n ok count legal =
    let next = effect_of s first in
    let takes' : ℕ → ℕ = λ t. takes t + length (taken_between s next t) in
    let ok' : IsState next = next_state s first ok legal.0 in
    let count' : task_count next ≡ n = same_count s next (same_tasks-effect s first) ∙ count in
    All-append (NamesTaskBelow n) (entry_orders s takes first p) (orders_from next takes' rest p)
    (all-event (NamesTaskBelow n) takes first.event (task_on s p) (task_on next p) (occupant_below s n ok count p)
    (occupant_below next n ok' count' p) (λ units. tt))
    (names-orders_from next takes' rest p n ok' count' legal.1)

pub names-closed_orders_of : (s : State) (history : List Entry) (p n : ℕ) → IsState s → task_count s ≡ n → IsLegalFrom s history
    → All (NamesTaskBelow n) (closed_orders_of s history p)
names-closed_orders_of s history p n ok count legal =
    let last = state_after s history in
    rw (closed_orders_of-split s history p) (All-append (NamesTaskBelow n) (orders_of s history p) (close_orders (task_on last p))
    (names-orders_from s (λ t. 0) history p n ok count legal)
    (all-close (NamesTaskBelow n) (task_on last p)
    (occupant_below last n (IsState-state_after s history ok legal) (same_count s last (same_tasks-history s history) ∙ count) p) tt))

pub orders_name_tasks-from : OrdersNameTasksFrom
orders_name_tasks-from s history p ok legal =
    (names-orders_from s (λ t. 0) history p (task_count s) ok refl legal, names-closed_orders_of s history p (task_count s) ok refl legal)

pub orders_name_tasks : OrdersNameTasks
orders_name_tasks set history p valid_set legal =
    subst (λ (n : ℕ). AllOrders (NamesTaskBelow n) (start_of set) history p) (length-map set.tasks (λ (t : TaskData). t.priority))
    (orders_name_tasks-from (start_of set) history p (IsState-start set valid_set) legal)

-- ---- numbers of takes
none_from : (test : ℕ → Bool) (a n : ℕ) → ((q : ℕ) → a ≤ q → test q ≡ false) → length (filter test (range_with_len a n)) ≡ 0
none_from test a zero none = refl
none_from test a (suc n) none = rw (none a (omega arith)) (none_from test (a + 1) n (λ q le. none q (omega arith)))

-- a test that only one number passes
once_from : (test : ℕ → Bool) → ((p q : ℕ) → test p ≡ true → test q ≡ true → p ≡ q) → (a n : ℕ) → length (filter test (range_with_len a n))
    ≤ 1
once_from test once a zero = omega arith
once_from test once a (suc n) = elim (cases_Bool (test a)) [
  | inl here ↦ rw here (let none = none_from test (a + 1) n (λ q le. elim (cases_Bool (test q)) [
    | inl there ↦ absurd (let e = once a q here there in omega arith)
    | inr fails ↦ fails
  ]) in omega arith)
  | inr fails ↦ rw fails (once_from test once (a + 1) n)
]

-- a task is taken on at most one processor at an entry
pub length-taken_between : (old new : State) → IsState new → (t : ℕ) → length (taken_between old new t) ≤ 1
length-taken_between old new ok t = once_from (λ p. is_task t (task_on new p) && not (is_task t (task_on old p)))
    (λ p q here there. ok.once p q t (at p here) (at q there)) 0 old.processors
  where
    at : (p : ℕ) → (is_task t (task_on new p) && not (is_task t (task_on old p))) ≡ true → task_on new p ≡ Some t
    at p h = is_task-true t (task_on new p) (and_parts (is_task t (task_on new p)) (not (is_task t (task_on old p))) h).0

pub takes-orders_from : (s : State) (takes : ℕ → ℕ) (history : List Entry) (p n : ℕ) → IsState s → ((t : ℕ) → takes t + length history ≤ n)
    → IsLegalFrom s history → All (TakesBelow n) (orders_from s takes history p)
takes-orders_from s takes [] p n ok few legal = All-nil (TakesBelow n)
takes-orders_from s takes (first ∷ rest) p n ok few legal =
    let next = effect_of s first in
    let takes' : ℕ → ℕ = λ t. takes t + length (taken_between s next t) in
    let ok' : IsState next = next_state s first ok legal.0 in
    All-append (TakesBelow n) (entry_orders s takes first p) (orders_from next takes' rest p)
    (all-event (TakesBelow n) takes first.event (task_on s p) (task_on next p) (λ a e. tt) (λ b e. let some = few b in omega arith)
    (λ units. tt))
    (takes-orders_from next takes' rest p n ok' (λ t. let once = length-taken_between s next ok' t in let some = few t in omega arith)
    legal.1)

pub takes-closed_orders_of : (s : State) (history : List Entry) (p : ℕ) → IsState s → IsLegalFrom s history
    → All (TakesBelow (length history)) (closed_orders_of s history p)
takes-closed_orders_of s history p ok legal =
    let n = length history in
    let last = task_on (state_after s history) p in
    rw (closed_orders_of-split s history p) (All-append (TakesBelow n) (orders_of s history p) (close_orders last)
    (takes-orders_from s (λ t. 0) history p n ok (λ t. omega arith) legal)
    (all-close (TakesBelow n) last (λ a e. tt) tt))

pub take_numbers_small-from : TakeNumbersAreSmallFrom
take_numbers_small-from s history p ok legal =
    (takes-orders_from s (λ t. 0) history p (length history) ok (λ t. omega arith) legal, takes-closed_orders_of s history p ok legal)

pub take_numbers_small : TakeNumbersAreSmall
take_numbers_small set history p valid_set = take_numbers_small-from (start_of set) history p (IsState-start set valid_set)
