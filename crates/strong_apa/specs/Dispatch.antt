-- What a history has each processor do, and what it makes of each task. Where an entry changes the
-- occupant of a processor, the processor releases the old one and takes the new one; a tick runs
-- the occupant. A task is taken on a processor where it is linked there after an entry and was not
-- before the entry. The context of a task is read off two lists: the processors on which it was
-- taken, and its runs.
use Rattle.std.specs.Prelude.{ℕ, ◌+◌, ◌*◌, ◌-◌, ◌%◌, ◌^◌, Bool, true, false, List, [], ◌∷◌, ◌++◌}
use Rattle.std.specs.Prelude.{map, length, drop, slice_get, sum_by, count_by, Option, Some, None}
use Rattle.std.specs.Prelude.{if◌then◌else◌, ◌==◌, ◌&&◌, not, fold, filter}
use Rattle.std.specs.List.{range_with_len, zip}
use Rattle.task_set.specs.TaskSet.{SetData}
use Rattle.task_set.specs.declared.context.Context.{Context}
use Rattle.task_set.specs.declared.event.Event.{Event}
use Rattle.task_set.specs.declared.event.Event.TheVariants.{Tick}
use Rattle.task_set.specs.declared.order.Order.{Order}
use Rattle.task_set.specs.declared.order.Order.TheVariants.{Release, Take, Run, Stop}
use Rattle.strong_apa.specs.declared.reply.Entry.{Entry}
use Rattle.strong_apa.specs.State.{State, start_of, task_on, is_task}
use Rattle.strong_apa.specs.History.{effect_of, state_after}

-- whether two occupants are one task, or nobody both times
abbrev pub is_same_occupant : Option ℕ → Option ℕ → Bool
is_same_occupant None None = true
is_same_occupant None (Some b) = false
is_same_occupant (Some a) None = false
is_same_occupant (Some a) (Some b) = a == b

-- the processors on which t is linked in a state
abbrev pub places_of : State → ℕ → List ℕ
places_of s t = filter (λ p. is_task t (task_on s p)) (range_with_len 0 s.processors)

-- the processors on which t is taken between two states: it is linked there in the new one and was
-- not in the old one
abbrev pub taken_between : State → State → ℕ → List ℕ
taken_between old new t = filter (λ p. is_task t (task_on new p) && not (is_task t (task_on old p)))
    (range_with_len 0 old.processors)

-- the processors on which a history from s takes t, in order
abbrev pub processors_of : State → List Entry → ℕ → List ℕ
processors_of s [] t = []
processors_of s (entry ∷ rest) t =
    taken_between s (effect_of s entry) t ++ processors_of (effect_of s entry) rest t

-- the order that lets an occupant go, and the one that takes it, with the number of its takes so
-- far
abbrev pub release_of : Option ℕ → List Order
release_of None = []
release_of (Some a) = Release a ∷ []

abbrev pub take_of : (ℕ → ℕ) → Option ℕ → List Order
take_of takes None = []
take_of takes (Some b) = Take b (takes b) ∷ []

-- the orders at a change of the occupant
abbrev pub change_orders : (ℕ → ℕ) → Option ℕ → Option ℕ → List Order
change_orders takes old new =
    if is_same_occupant old new then [] else release_of old ++ take_of takes new

-- the orders of an event for an occupant: a tick runs it
abbrev pub tick_orders : Event → Option ℕ → List Order
tick_orders (Tick units) (Some t) = Run units ∷ []
tick_orders (Tick units) None = []
tick_orders event occupant = []

-- the orders of p by a history from s, before which each task was taken so many times
abbrev pub orders_from : State → (ℕ → ℕ) → List Entry → ℕ → List Order
orders_from s takes [] p = []
orders_from s takes (entry ∷ rest) p =
    let next = effect_of s entry in
    change_orders takes (task_on s p) (task_on next p) ++ tick_orders entry.event (task_on s p)
    ++ orders_from next (λ t. takes t + length (taken_between s next t)) rest p

-- the orders of p by a history from s
abbrev pub orders_of : State → List Entry → ℕ → List Order
orders_of s history p = orders_from s (λ t. 0) history p

-- the same, and after the close the release of the occupant, if there is one, and the stop
abbrev pub closed_orders_of : State → List Entry → ℕ → List Order
closed_orders_of s history p =
    orders_of s history p ++ release_of (task_on (state_after s history) p) ++ Stop ∷ []

-- the runs of an event on these processors: a tick runs its units on each
abbrev pub tick_runs : Event → List ℕ → List (ℕ × ℕ)
tick_runs (Tick units) places = map (λ p. (p, units)) places
tick_runs event places = []

-- the runs of t by a history from s: one pair of processor and units for each tick at which t is
-- linked
abbrev pub runs_of : State → List Entry → ℕ → List (ℕ × ℕ)
runs_of s [] t = []
runs_of s (entry ∷ rest) t =
    tick_runs entry.event (places_of s t) ++ runs_of (effect_of s entry) rest t

-- how many neighbours of a list differ
abbrev pub change_count : List ℕ → ℕ
change_count xs = count_by (λ pair. not (pair.0 == pair.1)) (zip xs (drop 1 xs))

-- the last of a list, if it is not empty
abbrev pub last_of : List ℕ → Option ℕ
last_of xs = slice_get xs (length xs - 1)

-- the multiplier of Knuth's MMIX generator, by which a trail depends on the order of the runs
abbrev pub trail_multiplier : ℕ
trail_multiplier = 6364136223846793005

-- a trail after runs: each of them multiplies it, and adds its units and its processor, modulo 2^64
abbrev pub trail_after : ℕ → List (ℕ × ℕ) → ℕ
trail_after trail runs =
    fold (λ trail run. (trail * trail_multiplier + 64 * run.1 + run.0) % 2 ^ 64) trail runs

-- the context that runs and takes give a task: counts modulo 2^64, and a move where a take is on
-- another processor
abbrev pub context_from : ℕ → List (ℕ × ℕ) → List ℕ → Context
context_from t runs taken = record {
  task = t;
  units = sum_by (λ run. run.1) runs % 2 ^ 64;
  stints = length taken % 2 ^ 64;
  moves = change_count taken % 2 ^ 64;
  last = last_of taken;
  trail = trail_after t runs;
}

-- the context that a history from s gives a task
abbrev pub context_of : State → List Entry → ℕ → Context
context_of s history t = context_from t (runs_of s history t) (processors_of s history t)

-- the contexts that a history gives the tasks of a set, in their order
abbrev pub contexts_of : SetData → List Entry → List Context
contexts_of set history =
    map (context_of (start_of set) history) (range_with_len 0 (length set.tasks))
