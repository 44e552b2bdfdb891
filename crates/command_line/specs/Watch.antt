-- What a run with observers is: the bytes read are the text of one input; the bytes written are the
-- schedule text of its run, with all that the headline says of it, and after it what each observer
-- read. All of it is of one history.
use Rattle.std.specs.Prelude.{◌≡◌, ℕ, ◌≤◌, List, ◌++◌, length, All, is_some}
use Rattle.affinity_mask.specs.ProcSet.{has}
use Rattle.task_set.specs.TaskSet.{SetData}
use Rattle.strong_apa.specs.declared.reply.Entry.{Entry}
use Rattle.strong_apa.specs.State.{State, task_on}
use Rattle.strong_apa.specs.History.{state_at}
use Rattle.trace_reader.specs.declared.posted.Posted.{Posted}
use Rattle.command_line.specs.Run.{IsRunOf, IsTextOfReplay}
use Rattle.command_line.specs.WatchText.{Snapshot, Reading, observers_text}

-- the set has exactly the occupied processors: those to which a task is linked
abbrev pub IsOccupiedSet : State → ℕ → Type 0
IsOccupiedSet s X = (p : ℕ) → has X p ≡ is_some (task_on s p)

-- the snapshot after the first entries of a history, as many as it counts
abbrev pub IsSnapshotOf : SetData → List Entry → Snapshot → Type 0
IsSnapshotOf set history shot = IsOccupiedSet (state_at set history shot.count) shot.occupied

-- what an observer read of a history: it never went back, and the read after the telling is of the
-- whole history
pub record IsReadingOf (set : SetData) (history : List Entry) (reading : Reading) : Type 0 where
  pub first : IsSnapshotOf set history reading.first
  pub last : IsSnapshotOf set history reading.last
  pub told : IsSnapshotOf set history reading.told
  pub first_to_last : reading.first.count ≤ reading.last.count
  pub last_to_told : reading.last.count ≤ reading.told.count
  pub whole : reading.told.count ≡ length history

-- from the bytes read to the bytes written, with so many observers: the text of a run, and what
-- each observer read of the history of that run
pub record IsWatchOf (observers : ℕ) (read put : List ℕ) : Type 0 where
  pub schedule : List ℕ
  pub run : IsRunOf read schedule
  pub readings : List Reading
  pub each_observer : length readings ≡ observers
  pub each_reading : All (IsReadingOf run.replayed.set run.replayed.history) readings
  pub text : put ≡ schedule ++ observers_text readings

-- the bytes written are the schedule text of one replay of these events, and what each observer
-- read of its history
pub record IsTextOfWatch (observers version : ℕ) (set : SetData) (events : List Posted)
    (put : List ℕ) : Type 0 where
  pub schedule : List ℕ
  pub replayed : IsTextOfReplay version set events schedule
  pub readings : List Reading
  pub each_observer : length readings ≡ observers
  pub each_reading : All (IsReadingOf set replayed.history) readings
  pub text : put ≡ schedule ++ observers_text readings
