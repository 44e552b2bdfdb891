-- A task carries its context along a history: what holds of its stints after each entry, and at the close.
use Rattle.std.proofs.Common.{◌≡◌, ◌≢◌, ℕ, ◌+◌, ◌<◌, Bool, true, false, not, ◌&&◌, ◌==◌, ◌⊎◌, List, [], ◌∷◌, ◌++◌, length, Option, Some}
use Rattle.std.proofs.Common.{None, refl, ap, ◌∙◌, arith, append-nil, ne_eqb}
use Rattle.std.specs.Prelude.{All}
use Rattle.std.specs.List.{range_with_len, flat_map}
use Rattle.std.proofs.lemmas.Bool.{false≢true}
use Rattle.std.proofs.lemmas.List.{length-append}
use Rattle.std.proofs.lemmas.List.Elements.{filter-append}
use Rattle.task_set.specs.declared.context.Context.{Context}
use Rattle.task_set.specs.declared.order.Order.{Order}
use Rattle.task_set.specs.Orders.{Stint, stints_from, stints_in}
use Rattle.task_set.specs.Context.{context_after_stint, carried_context, stints_of_task}
use Rattle.strong_apa.specs.declared.reply.Entry.{Entry}
use Rattle.strong_apa.specs.State.{State, task_on, is_task}
use Rattle.strong_apa.specs.History.{state_after}
use Rattle.strong_apa.specs.Dispatch.{orders_of, taken_between, places_of, processors_of, runs_of, tick_runs, context_of, context_from}
use Rattle.strong_apa.proofs.Histories.{processors_of-push, runs_of-push}
use Rattle.strong_apa.proofs.Linked.{is_task-same, is_task-true}
use Rattle.history_laws.specs.StintLaw.{AreTakes}
use Rattle.history_laws.proofs.StintsOfTask.{filter_range-none, filter_range-one, flat_range-same, own}
use Rattle.history_laws.proofs.StintsOrdered.{times_taken, next_state, next_orders, under_way_on, ended-push}

-- ---- where a task is taken, and where it runs
and_not : (a b : Bool) → (a ≡ true → b ≡ true) → (a && not b) ≡ false
and_not true true h = refl
and_not true false h = absurd (false≢true (h refl))
and_not false b h = refl

and_comes : (a b : Bool) → a ≡ true → b ≡ false → (a && not b) ≡ true
and_comes a b ea eb = rw (ea, eb) refl

and_absent : (a b : Bool) → a ≡ false → (a && not b) ≡ false
and_absent a b ea = rw ea refl

pub is_task-other : (t : ℕ) (occupant : Option ℕ) → occupant ≢ Some t → is_task t occupant ≡ false
is_task-other t None other = refl
is_task-other t (Some u) other = ne_eqb u t (λ e. other (ap Some e))

-- a task that was linked before, wherever it is linked, is taken nowhere
pub taken-none : (old new : State) (t : ℕ) → ((q : ℕ) → task_on new q ≡ Some t → task_on old q ≡ Some t) → taken_between old new t ≡ []
taken-none old new t stays =
    filter_range-none (λ p. is_task t (task_on new p) && not (is_task t (task_on old p))) 0 old.processors
    (λ q le. and_not _ _ (λ e. ap (is_task t) (stays q (is_task-true t _ e)) ∙ is_task-same t))

-- a task that comes to p is taken there
pub taken-one : (old new : State) (t p : ℕ) → p < old.processors → task_on new p ≡ Some t → task_on old p ≢ Some t
    → ((q : ℕ) → task_on new q ≡ Some t → q ≡ p) → taken_between old new t ≡ p ∷ []
taken-one old new t p fits is was alone =
    filter_range-one (λ p. is_task t (task_on new p) && not (is_task t (task_on old p))) p 0 old.processors (omega arith)
    (omega (arith, fits))
    (and_comes _ _ (ap (is_task t) is ∙ is_task-same t) (is_task-other t (task_on old p) was))
    (λ q other. and_absent _ _ (is_task-other t (task_on new q) (λ e. other (alone q e))))

pub places-none : (s : State) (t : ℕ) → ((q : ℕ) → task_on s q ≢ Some t) → places_of s t ≡ []
places-none s t nowhere =
    filter_range-none (λ p. is_task t (task_on s p)) 0 s.processors (λ q le. is_task-other t (task_on s q) (nowhere q))

pub places-one : (s : State) (t p : ℕ) → p < s.processors → task_on s p ≡ Some t → ((q : ℕ) → task_on s q ≡ Some t → q ≡ p)
    → places_of s t ≡ p ∷ []
places-one s t p fits is alone =
    filter_range-one (λ p. is_task t (task_on s p)) p 0 s.processors (omega arith) (omega (arith, fits))
    (ap (is_task t) is ∙ is_task-same t)
    (λ q other. is_task-other t (task_on s q) (λ e. other (alone q e)))

-- ---- what holds of the stints of a task
-- the stints of t that ended on p by a history
abbrev pub ended_on : State → List Entry → ℕ → ℕ → List Stint
ended_on start history t p = own t (stints_in p (orders_of start history p))

-- the stints of t that ended on any processor
abbrev pub ended : State → List Entry → ℕ → List Stint
ended start history t = flat_map (ended_on start history t) (range_with_len 0 start.processors)

-- the stints that ended are the takes on these processors, and they carry this context
pub record IsSettled (start : State) (history : List Entry) (t : ℕ) (taken : List ℕ) (c : Context) : Type 0 where
  pub earlier : All (λ stint. stint.number < length taken) (ended start history t)
  pub takes : AreTakes (stints_of_task t (ended start history t)) taken
  pub carried : carried_context t (ended start history t) ≡ c

-- t is linked nowhere, and all its stints ended
pub record IsResting (start : State) (history : List Entry) (t : ℕ) : Type 0 where
  pub nowhere : (q : ℕ) → task_on (state_after start history) q ≢ Some t
  pub settled : IsSettled start history t (processors_of start history t) (context_of start history t)

-- t is linked to p, and its latest stint is under way there
pub record IsUnderWay (start : State) (history : List Entry) (t p : ℕ) : Type 0 where
  pub there : task_on (state_after start history) p ≡ Some t
  pub stint : Stint
  pub under_way : under_way_on start history p ≡ Some stint
  pub task : stint.task ≡ t
  pub processor : stint.processor ≡ p
  pub number : stint.number + 1 ≡ times_taken start history t
  pub earlier : All (λ other. other.number < stint.number) (ended start history t)
  pub takes : AreTakes (stints_of_task t (ended start history t) ++ stint ∷ []) (processors_of start history t)
  pub carried : context_after_stint (carried_context t (ended start history t)) stint ≡ context_of start history t

-- t is linked nowhere, or to some processor, and its stints follow the history
abbrev pub IsFollowed : State → List Entry → ℕ → Type 0
IsFollowed start history t = IsResting start history t ⊎ ((p : ℕ) × IsUnderWay start history t p)

-- ---- one more entry
-- the context, where the entry gives these runs and takes
pub context_of-push : (start : State) (history : List Entry) (entry : Entry) (t : ℕ) (runs : List (ℕ × ℕ)) (taken : List ℕ)
    → tick_runs entry.event (places_of (state_after start history) t) ≡ runs
    → taken_between (state_after start history) (next_state start history entry) t ≡ taken
    → context_of start (history ++ entry ∷ []) t ≡ context_from t (runs_of start history t ++ runs) (processors_of start history t ++ taken)
context_of-push start history entry t runs taken runs_are taken_is =
    rw (runs_of-push start history entry t, processors_of-push start history entry t, runs_are, taken_is) refl

pub processors_of-entry : (start : State) (history : List Entry) (entry : Entry) (t : ℕ) (taken : List ℕ)
    → taken_between (state_after start history) (next_state start history entry) t ≡ taken
    → processors_of start (history ++ entry ∷ []) t ≡ processors_of start history t ++ taken
processors_of-entry start history entry t taken taken_is =
    processors_of-push start history entry t ∙ ap (λ (l : List ℕ). processors_of start history t ++ l) taken_is

pub times_taken-push : (start : State) (history : List Entry) (entry : Entry) (t : ℕ) (taken : List ℕ)
    → taken_between (state_after start history) (next_state start history entry) t ≡ taken
    → times_taken start (history ++ entry ∷ []) t ≡ times_taken start history t + length taken
times_taken-push start history entry t taken taken_is =
    ap length (processors_of-push start history entry t) ∙ length-append (processors_of start history t) _
    ∙ ap (λ (l : List ℕ). times_taken start history t + length l) taken_is

module _ (start : State) (idle : (q : ℕ) → task_on start q ≡ None) (history : List Entry) (t : ℕ) (entry : Entry) where
  pub ended_on-push : (p : ℕ) (orders : List Order) → next_orders start history entry p ≡ orders
      → ended_on start (history ++ entry ∷ []) t p ≡ ended_on start history t p
      ++ own t (stints_from p (under_way_on start history p) orders)
  ended_on-push p orders are =
      ap (own t) (ended-push start history entry p
      ∙ ap (λ (l : List Order). stints_in p (orders_of start history p) ++ stints_from p (under_way_on start history p) l) are)
      ∙ filter-append (λ (stint : Stint). stint.task == t) (stints_in p (orders_of start history p))
      (stints_from p (under_way_on start history p) orders)

  -- no stint of t ends here
  pub ended_on-none : (p : ℕ) (orders : List Order) → next_orders start history entry p ≡ orders
      → own t (stints_from p (under_way_on start history p) orders) ≡ []
      → ended_on start (history ++ entry ∷ []) t p ≡ ended_on start history t p
  ended_on-none p orders are none =
      ended_on-push p orders are ∙ ap (λ (l : List Stint). ended_on start history t p ++ l) none ∙ append-nil (ended_on start history t p)

  -- no stint of t ends at all
  pub ended-none : ((p : ℕ) → ended_on start (history ++ entry ∷ []) t p ≡ ended_on start history t p)
      → ended start (history ++ entry ∷ []) t ≡ ended start history t
  ended-none same =
      flat_range-same (ended_on start history t) (ended_on start (history ++ entry ∷ []) t) 0 start.processors (λ q le. same q)
