-- What is counted on walks over a trace. Private: the contracts of this crate's own functions.
use Rattle.std.specs.Prelude.{◌≡◌, ℕ, ◌+◌, ◌<◌, ◌≤◌, ◌^◌, List, length, vec_len}
use Rattle.task_set.specs.TaskSet.{SetData}
use Rattle.trace_passages.specs.Passages.{moment_at}
use Rattle.trace_losses.specs.Beside.{IsBeside}
use Rattle.trace_losses.specs.Book.{IsBook, AreKept}
use Rattle.trace_losses.specs.Passages.{AreMoments}
use Rattle.trace_losses.specs.Watch.{AreAtMost, AreWatches}
use Rattle.trace_losses.specs.declared.count.Counts.{Counts}
use Rattle.trace_losses.specs.declared.seen.Seen.{Seen}
use Rattle.trace_losses.specs.declared.watch.StretchWatch.{StretchWatch}
use Rattle.trace_passages.specs.declared.passage.Passage.{Passage}

-- the counts are of these moments, and of so many tasks and threads
pub record AreCountsOf (tasks threads : ℕ) (moments : List (List Seen))
    (counts : Counts) : Type 0 where
  pub book : IsBook moments counts.book.tallies.items
  pub kept : AreKept counts.book.moments counts.book.tallies.items
  pub all : counts.book.moments ≡ length moments
  pub width : vec_len counts.book.tallies ≡ tasks
  pub beside : IsBeside moments counts.beside.counts.items
  pub beside_kept : AreAtMost counts.beside.moments counts.beside.counts.items
  pub beside_all : counts.beside.moments ≡ length moments
  pub beside_width : vec_len counts.beside.counts ≡ threads

-- the same of the moments up to a passage
pub record AreCountsAt (set : SetData) (threads : ℕ) (passages : List Passage) (units : ℕ)
    (counts : Counts) : Type 0 where
  pub moments : List (List Seen)
  pub are : AreMoments set threads passages units moments
  pub of : AreCountsOf (length set.tasks) threads moments counts

-- the watches are of the moments up to a passage
pub record AreWatchesAt (set : SetData) (threads : ℕ) (passages : List Passage) (units : ℕ)
    (watches : List StretchWatch) : Type 0 where
  pub moments : List (List Seen)
  pub are : AreMoments set threads passages units moments
  pub of : AreWatches (length set.tasks) moments watches
