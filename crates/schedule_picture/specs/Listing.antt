-- Which tasks a picture lists, row by row: those that are ready in its window, by urgency. Where
-- these are more than 64, it lists those that wait in it, and of them the 64 most urgent ones.
use Rattle.std.specs.Prelude.{◌≡◌, ℕ, ◌<◌, ◌≤◌, ◌⊎◌, ◌&&◌, Bool, true, false, List, length, take}
use Rattle.std.specs.Prelude.{All, AllPairs, Contains, IsTrue, nat_le, slice_index, if◌then◌else◌}
use Rattle.std.specs.List.{list_any}
use Rattle.task_set.specs.TaskSet.{SetData, priorities, IsMoreUrgentPriority}
use Rattle.schedule_picture.specs.declared.span.Seen.{Seen}
use Rattle.schedule_picture.specs.declared.span.Seen.TheVariants.{Task, OffLine, Processor, Waiting}
use Rattle.schedule_picture.specs.declared.span.Span.{Span}
use Rattle.schedule_picture.specs.declared.window.Window.{Window}

-- a span touches the window: it begins no later than the window ends, and ends no sooner than that
-- begins
abbrev pub touches : List ℕ → Window → Span → Bool
touches places window span = nat_le (slice_index places span.from) window.to
    && nat_le window.from (slice_index places span.until)

-- a span touches the window, and in it the task waits
abbrev pub is_wait : Seen → Bool
is_wait Waiting = true
is_wait (Processor p) = false
is_wait (Task t) = false
is_wait OffLine = false

abbrev pub touches_waiting : List ℕ → Window → Span → Bool
touches_waiting places window span = is_wait span.what && touches places window span

-- a task of these spans is ready in the window
abbrev pub is_ready_in : List ℕ → Window → List Span → Bool
is_ready_in places window spans = list_any (touches places window) spans

-- a task of these spans waits in the window
abbrev pub waits_in : List ℕ → Window → List Span → Bool
waits_in places window spans = list_any (touches_waiting places window) spans

-- exactly the tasks that pass a test, each once, the more urgent ones first
pub record AreByUrgency (set : SetData) (passes : ℕ → Bool) (tasks : List ℕ) : Type 0 where
  pub each : All (λ t. (t < length set.tasks) × IsTrue (passes t)) tasks
  pub all : (t : ℕ) → t < length set.tasks → IsTrue (passes t) → Contains tasks t
  pub by_urgency : AllPairs (λ t u. IsMoreUrgentPriority (slice_index (priorities set) t)
      (slice_index (priorities set) u)) tasks

-- those that are ready in the window, which are at most 64
pub record AreAllReady (places : List ℕ) (window : Window) (set : SetData) (rows : ℕ → List Span)
    (listed : List ℕ) : Type 0 where
  pub ready : AreByUrgency set (λ t. is_ready_in places window (rows t)) listed
  pub few : length listed ≤ 64

-- the most urgent ones of those that wait in it, where more than 64 are ready
pub record AreFirstWaiting (places : List ℕ) (window : Window) (set : SetData)
    (rows : ℕ → List Span) (listed : List ℕ) : Type 0 where
  pub ready : List ℕ
  pub all_ready : AreByUrgency set (λ t. is_ready_in places window (rows t)) ready
  pub many : 64 < length ready
  pub waiting : List ℕ
  pub all_waiting : AreByUrgency set (λ t. waits_in places window (rows t)) waiting
  pub first : listed ≡ take 64 waiting

-- the tasks that are listed, of which these are the spans
abbrev pub IsListing : List ℕ → Window → SetData → (ℕ → List Span) → List ℕ → Type 0
IsListing places window set rows listed =
    AreAllReady places window set rows listed ⊎ AreFirstWaiting places window set rows listed

-- ---- as they are found. Private: contracts of this crate's own functions
-- a task of these spans waits in the window, or is ready in it
abbrev pub is_seen : List ℕ → Window → Bool → List Span → Bool
is_seen places window waiting spans =
    if waiting then waits_in places window spans else is_ready_in places window spans

-- the tasks below this number that pass a test, by their numbers
pub record AreFoundBelow (passes : ℕ → Bool) (bound : ℕ) (tasks : List ℕ) : Type 0 where
  pub each : All (λ t. (t < bound) × IsTrue (passes t)) tasks
  pub all : (t : ℕ) → t < bound → IsTrue (passes t) → Contains tasks t
  pub rising : AllPairs (λ t u. t < u) tasks
