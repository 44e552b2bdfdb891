-- Private: contracts of this crate's own functions.
use Rattle.std.specs.Prelude.{◌≡◌, ℕ, ◌+◌, ◌*◌, ◌<◌, ◌≤◌, ◌↔◌, Bool, List, [], ◌∷◌, ◌++◌, length}
use Rattle.std.specs.Prelude.{All, IsTrue, false, slice_index_or}
use Rattle.affinity_mask.specs.ProcSet.{has}
use Rattle.task_set.specs.TaskSet.{SetData}
use Rattle.task_set.specs.declared.event.Event.{Event}
use Rattle.trace_reader.specs.declared.posted.Posted.{Posted}
use Rattle.trace_reader.specs.Generator.{generator_after, drawn}
use Rattle.trace_reader.specs.Generated.{task_priority, first_processor, last_processor}
use Rattle.trace_reader.specs.Generated.{is_ready_after, generated_event, draws_before, events_of}
use Rattle.trace_reader.specs.Generated.{AreGeneratedTasks, AreGeneratedEvents}

-- a draw that is draw k of a number: it gives that draw, and the state is that after it
pub record IsDraw (number k bound new given : ℕ) : Type 0 where
  pub gives : given ≡ drawn number k bound
  pub state : new ≡ generator_after number (k + 1)

-- the priority and the mask of task i, after which the state is that of the next task
pub record DrawsTask (number m i new urgency mask : ℕ) : Type 0 where
  pub priority : urgency ≡ task_priority number i
  pub members : (p : ℕ) → IsTrue (has mask p) ↔
      ((first_processor number m i ≤ p) × (p ≤ last_processor number m i))
  pub state : new ≡ generator_after number (3 * (i + 1))

-- the first so many tasks are in the set, and the state is that of the next
pub record HasDrawnTasks (number m tasks state : ℕ) (set : SetData) : Type 0 where
  pub processors : set.processors ≡ m
  pub count : length set.tasks ≡ tasks
  pub each_task : AreGeneratedTasks number m set.tasks
  pub at : state ≡ generator_after number (3 * tasks)

-- the table says of each task whether it is ready after these events
pub record IsReadyTable (tasks : ℕ) (events : List Event) (ready : List Bool) : Type 0 where
  pub count : length ready ≡ tasks
  pub each : (t : ℕ) → t < tasks → slice_index_or ready t false ≡ is_ready_after t events

-- the next event is drawn after these: the table and the state follow
pub record DrawsEvent (number tasks new : ℕ) (earlier : List Event) (next : Event)
    (ready : List Bool) : Type 0 where
  pub event : next ≡ generated_event number tasks earlier
  pub table : IsReadyTable tasks (earlier ++ next ∷ []) ready
  pub state : new ≡ generator_after number (draws_before tasks (earlier ++ next ∷ []))

-- so many events are drawn, all on stream 0
pub record AreDrawnEvents (number tasks count : ℕ) (posted : List Posted) : Type 0 where
  pub number_of_events : length posted ≡ count
  pub each_event : AreGeneratedEvents number tasks (events_of posted)
  pub one_stream : All (λ (one : Posted). one.stream ≡ 0) posted
