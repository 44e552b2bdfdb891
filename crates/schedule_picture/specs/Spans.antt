-- Spans. What is seen of a processor or of a task depends on how many entries of a history have
-- been. A span is a longest stretch of such numbers at which one thing is seen: of a processor that
-- one task is linked to it, which is a stay, or that it is off line, an absence; of a task that it
-- is linked to one processor, the same stay, or that it waits.
use Rattle.std.specs.Prelude.{◌≡◌, ◌≢◌, ℕ, ◌+◌, ◌-◌, ◌<◌, ◌≤◌, ◌⊎◌, List, Option, Some, None, All}
use Rattle.std.specs.Prelude.{AllPairs, Contains, position, option_map, if◌then◌else◌}
use Rattle.affinity_mask.specs.ProcSet.{has}
use Rattle.task_set.specs.TaskSet.{SetData}
use Rattle.strong_apa.specs.declared.reply.Entry.{Entry}
use Rattle.strong_apa.specs.State.{State, task_on, is_task, is_ready}
use Rattle.strong_apa.specs.History.{state_at}
use Rattle.schedule_picture.specs.declared.span.Seen.{Seen}
use Rattle.schedule_picture.specs.declared.span.Seen.TheVariants.{Task, OffLine, Processor, Waiting}
use Rattle.schedule_picture.specs.declared.span.Span.{Span}

-- ---- what is seen in a state
-- of a processor: the task that is linked to it, if there is one
abbrev pub lane_of : State → ℕ → Option Seen
lane_of s p = option_map Task (task_on s p)

-- of a processor: that it is off line, where it is
abbrev pub absence_of : State → ℕ → Option Seen
absence_of s p = if has s.online p then None else Some OffLine

-- of a task that is ready: the processor that it is linked to, or that it waits
abbrev pub place_of : Option ℕ → Seen
place_of None = Waiting
place_of (Some p) = Processor p

abbrev pub row_of : State → ℕ → Option Seen
row_of s t = if is_ready s t then Some (place_of (position (is_task t) s.on)) else None

-- ---- and after so many entries of a history
abbrev pub lane_at : SetData → List Entry → ℕ → ℕ → Option Seen
lane_at set entries p n = lane_of (state_at set entries n) p

abbrev pub absence_at : SetData → List Entry → ℕ → ℕ → Option Seen
absence_at set entries p n = absence_of (state_at set entries n) p

abbrev pub row_at : SetData → List Entry → ℕ → ℕ → Option Seen
row_at set entries t n = row_of (state_at set entries n) t

-- ---- spans
-- from entry `from` on and up to the entry before `until` this is seen, and not before the first
-- one of them
pub record IsStretch (seen : ℕ → Option Seen) (span : Span) : Type 0 where
  pub begins : 1 ≤ span.from
  pub some : span.from < span.until
  pub throughout : (i : ℕ) → span.from ≤ i → i < span.until → seen i ≡ Some span.what
  pub not_before : seen (span.from - 1) ≢ Some span.what

-- a span of so many entries: it ends with the last entry, or where the next one changes what is
-- seen
pub record IsSpan (seen : ℕ → Option Seen) (count : ℕ) (span : Span) : Type 0 where
  pub stretch : IsStretch seen span
  pub within : span.until ≤ count + 1
  pub ends : (span.until ≡ count + 1) ⊎ (seen span.until ≢ Some span.what)

-- the first span ends before the second one begins
abbrev pub IsBefore : Span → Span → Type 0
IsBefore first second = first.until ≤ second.from

-- the spans of so many entries: each that there is, once, in order, and nothing else
pub record AreSpans (seen : ℕ → Option Seen) (count : ℕ) (spans : List Span) : Type 0 where
  pub each : All (IsSpan seen count) spans
  pub in_order : AllPairs IsBefore spans
  pub all : (span : Span) → IsSpan seen count span → Contains spans span
