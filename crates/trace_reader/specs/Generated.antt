-- Generated inputs: a number from which they are drawn, and how many processors, tasks and events
-- there are, give one input. Each task takes three draws, and then each event two.
use Rattle.std.specs.Prelude.{◌≡◌, ℕ, ◌+◌, ◌*◌, ◌-◌, ◌<◌, ◌≤◌, ◌↔◌, ◌==◌, min, Bool, true, false}
use Rattle.std.specs.Prelude.{if◌then◌else◌, List, ◌++◌, length, map, fold, take, codes, All}
use Rattle.std.specs.Prelude.{IsTrue, slice_get, Some}
use Rattle.affinity_mask.specs.Number.{canonical_number}
use Rattle.affinity_mask.specs.ProcSet.{has}
use Rattle.task_set.specs.TaskSet.{TaskData, SetData}
use Rattle.task_set.specs.declared.event.Event.{Event}
use Rattle.task_set.specs.declared.event.Event.TheVariants.{Arrive, Depart, Tick, Affinity, Offline}
use Rattle.task_set.specs.declared.event.Event.TheVariants.{Online}
use Rattle.trace_reader.specs.declared.posted.Posted.{Posted}
use Rattle.trace_reader.specs.Generator.{drawn}

-- the name of task i: `t` and its number
abbrev pub task_name : ℕ → List ℕ
task_name i = codes "t" ++ canonical_number i

-- the priority of task i: urgency falls with the number of the task
abbrev pub task_priority : ℕ → ℕ → ℕ
task_priority number i = 1000 * i + drawn number (3 * i) 1000

-- the first processor of the mask of task i
abbrev pub first_processor : ℕ → ℕ → ℕ → ℕ
first_processor number processors i = drawn number (3 * i + 1) processors

-- the last processor of the mask: up to three after the first, where there are as many
abbrev pub last_processor : ℕ → ℕ → ℕ → ℕ
last_processor number processors i = let first = first_processor number processors i in
    first + drawn number (3 * i + 2) (min 4 (processors - first))

-- task i, whose mask goes from its first processor to its last
pub record IsGeneratedTask (number processors i : ℕ) (task : TaskData) : Type 0 where
  pub name : task.name ≡ task_name i
  pub priority : task.priority ≡ task_priority number i
  pub mask : (p : ℕ) → IsTrue (has task.mask p) ↔
      ((first_processor number processors i ≤ p) × (p ≤ last_processor number processors i))

-- whether task t is ready after an event
abbrev pub ready_after_event : ℕ → Bool → Event → Bool
ready_after_event t ready (Arrive u) = if u == t then true else ready
ready_after_event t ready (Depart u) = if u == t then false else ready
ready_after_event t ready (Tick units) = ready
ready_after_event t ready (Affinity u mask) = ready
ready_after_event t ready (Offline p) = ready
ready_after_event t ready (Online p) = ready

-- whether task t is ready after these events; at first nobody is
abbrev pub is_ready_after : ℕ → List Event → Bool
is_ready_after t events = fold (ready_after_event t) false events

-- an event of task t: it departs where it is ready by the events before, and else arrives
abbrev pub event_of_task : ℕ → List Event → Event
event_of_task t earlier = if is_ready_after t earlier then Depart t else Arrive t

-- how many draws are made before the event after these, of so many tasks
abbrev pub draws_before : ℕ → List Event → ℕ
draws_before tasks earlier = 3 * tasks + 2 * length earlier

-- the event after these: one in eight is a tick
abbrev pub generated_event : ℕ → ℕ → List Event → Event
generated_event number tasks earlier = let draws = draws_before tasks earlier in
    if drawn number draws 8 == 0 then Tick (1 + drawn number (draws + 1) 100)
    else event_of_task (drawn number (draws + 1) tasks) earlier

-- each event is the one that is generated after those before it
abbrev pub AreGeneratedEvents : ℕ → ℕ → List Event → Type 0
AreGeneratedEvents number tasks events = (j : ℕ) → j < length events
    → slice_get events j ≡ Some (generated_event number tasks (take j events))

-- each task is the generated one of its place
abbrev pub AreGeneratedTasks : ℕ → ℕ → List TaskData → Type 0
AreGeneratedTasks number processors tasks = (i : ℕ) (task : TaskData)
    → slice_get tasks i ≡ Some task → IsGeneratedTask number processors i task

-- the events, without their streams
abbrev pub events_of : List Posted → List Event
events_of posted = map (λ (one : Posted). one.event) posted

-- the input of a number, with so many processors, tasks and events, all on stream 0
pub record IsGeneratedInput (number processors tasks events : ℕ) (set : SetData)
    (posted : List Posted) : Type 0 where
  pub processor_count : set.processors ≡ processors
  pub task_count : length set.tasks ≡ tasks
  pub event_count : length posted ≡ events
  pub each_task : AreGeneratedTasks number processors set.tasks
  pub each_event : AreGeneratedEvents number tasks (events_of posted)
  pub one_stream : All (λ (one : Posted). one.stream ≡ 0) posted
