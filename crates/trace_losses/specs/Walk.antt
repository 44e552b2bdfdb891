-- A walk goes from one passage to the next, and sees what holds between them. Private: the
-- contracts of this crate's own functions.
use Rattle.std.specs.Prelude.{◌≡◌, ℕ, ◌+◌, ◌-◌, ◌<◌, Bool, true, List, ◌∷◌, length, map, take, drop}
use Rattle.std.specs.Prelude.{reverse, set, get_or, slice_get, Option, None, Some, if◌then◌else◌}
use Rattle.std.specs.Option.{ForSome, is_some}
use Rattle.task_set.specs.TaskSet.{SetData}
use Rattle.task_set.specs.declared.event.Event.{Event}
use Rattle.task_set.specs.declared.event.Event.TheVariants.{Arrive, Depart}
use Rattle.strong_apa.specs.State.{State, IsState, HasSameTasks, HasSameMasks, start_of, task_count}
use Rattle.strong_apa.specs.State.{is_ready, is_linked}
use Rattle.strong_apa.specs.Placement.{TaskTest}
use Rattle.strong_apa.specs.CertificateLaws.{LinkedIsBest}
use Rattle.live_core.specs.Live.{LiveData}
use Rattle.live_core.specs.Slots.{is_in_use}
use Rattle.trace_losses.specs.Passages.{ready_after_passages, seen_of, turns_of}
use Rattle.trace_passages.specs.Turns.{AreThreads}
use Rattle.trace_losses.specs.Runs.{IsArmed, IsHolder, IsStopped, holds, put_at, restored_by}
use Rattle.trace_losses.specs.declared.former.Former.{Former}
use Rattle.trace_passages.specs.declared.passage.Passage.{Passage}
use Rattle.trace_passages.specs.declared.passage.Readiness.{Readiness}
use Rattle.trace_losses.specs.declared.seen.Seen.{Seen}
use Rattle.trace_passages.specs.declared.turn.Turn.{Turn}
use Rattle.trace_passages.specs.declared.turn.Turn.TheVariants.{Switch, Woken}

-- ---- who runs
-- who holds a processor after all passages
abbrev pub held_at_end : List Passage → ℕ → ℕ → Bool
held_at_end passages = holds (turns_of (reverse passages))

-- the threads of each passage are among so many
abbrev pub AreTurns : ℕ → List Passage → Type 0
AreTurns threads passages = (k : ℕ) (passage : Passage) → slice_get passages k ≡ Some passage
    → ForSome passage.turn (AreThreads threads)

-- the processor of a thread, if there is one
abbrev pub place_of : List (Option ℕ) → Option ℕ → Option ℕ
place_of processors None = None
place_of processors (Some t) = get_or processors t None

-- a step back over a line: who is where before it, by who is where after it
abbrev pub StepsBack : Turn → List (Option ℕ) → List (Option ℕ) → Type 0
StepsBack (Woken task) old new = new ≡ set old task None
StepsBack (Switch processor from to) old new =
    (middle : List (Option ℕ)) × IsStopped old middle processor (length old)
    × (new ≡ put_at (put_at middle to None) from (Some processor))

-- this is said of who was where before a step back over a line
abbrev pub IsFormer : Turn → List (Option ℕ) → Former → Type 0
IsFormer (Woken task) processors former =
    (former.stopped ≡ None) × (former.from ≡ get_or processors task None)
IsFormer (Switch processor from to) processors former =
    IsHolder processors processor (length processors) former.stopped
    × (former.from ≡ place_of processors from) × (former.to ≡ place_of processors to)

-- with this, who runs before the passages from the k-th on says who runs before those after it
pub record Restores (passages : List Passage) (threads k : ℕ) (passage : Passage)
    (former : Former) : Type 0 where
  pub within : ForSome former.stopped (λ t. t < threads)
  pub again : (processors : List (Option ℕ)) → length processors ≡ threads
      → IsArmed (held_at_end passages) (turns_of (drop k passages)) processors
      → IsArmed (held_at_end passages) (turns_of (drop (k + 1) passages))
      (restored_by passage.turn former processors)

-- the last of these is of the first passage, and so on
abbrev pub AreFormers : List Passage → ℕ → List Former → Type 0
AreFormers passages threads formers =
    (k : ℕ) (former : Former) (passage : Passage) → slice_get formers k ≡ Some former
    → slice_get passages (length passages - 1 - k) ≡ Some passage
    → Restores passages threads (length passages - 1 - k) passage former

-- who is where before all passages, and how to go on from each to the next one
pub record IsTrail (passages : List Passage) (threads : ℕ) (first : List (Option ℕ))
    (formers : List Former) : Type 0 where
  pub armed : IsArmed (held_at_end passages) (turns_of passages) first
  pub count : length first ≡ threads
  pub each : length formers ≡ length passages
  pub restores : AreFormers passages threads formers

-- ---- who is linked
-- the event that a mention is
abbrev pub event_of : Readiness → Event
event_of mention = if mention.is_in then Arrive mention.task else Depart mention.task

-- the links are those of the set with these tasks ready, and their linked tasks are the best set
pub record IsPlaced (set : SetData) (is_in : TaskTest) (links : State) : Type 0 where
  pub valid : IsState links
  pub tasks : HasSameTasks (start_of set) links
  pub masks : HasSameMasks (start_of set) links
  pub ready : (t : ℕ) → is_ready links t ≡ is_in t
  pub best : LinkedIsBest links

-- the slot of each task is in use
abbrev pub AllInUse : LiveData → Type 0
AllInUse core = (t : ℕ) → t < task_count core.links → is_in_use core t ≡ true

-- ---- what is seen
-- what is seen of a thread by the links, and by who is where
abbrev pub seen_by : State → List (Option ℕ) → ℕ → Seen
seen_by links processors t = record {
  ready = is_ready links t;
  best = is_linked links t;
  runs = is_some (get_or processors t None);
}

-- this is seen of the first so many threads
pub record IsSeenBy (links : State) (processors : List (Option ℕ)) (threads : ℕ)
    (seen : List Seen) : Type 0 where
  pub each : (t : ℕ) → t < threads → seen_of seen t ≡ seen_by links processors t

-- a walk has come over the first so many passages
pub record IsWalkAt (set : SetData) (passages : List Passage) (threads n : ℕ) (core : LiveData)
    (processors : List (Option ℕ)) : Type 0 where
  pub used : AllInUse core
  pub placed : IsPlaced set (ready_after_passages (reverse (take n passages))) core.links
  pub armed : IsArmed (held_at_end passages) (turns_of (drop n passages)) processors
  pub count : length processors ≡ threads
