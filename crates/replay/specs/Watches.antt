-- What an observer saw, by the entries that were published: on its thread, once it was joined, and
-- once it was told of all.
use Rattle.std.specs.Prelude.{◌≡◌, ℕ, List, Result, IfSome, MatchResult}
use Rattle.core.specs.declared.thread.PromisedHandle.{PromisedHandle}
use mathlib.Core.List.{IsPrefix}
use Rattle.strong_apa.specs.declared.reply.Entry.{Entry}
use Rattle.schedule_board.specs.declared.picture.Picture.{Picture}
use Rattle.schedule_board.specs.Boards.{PictureBoardData, board_at, seen}
use Rattle.schedule_board.specs.Pictures.{IsPictureOf}
use Rattle.replay.specs.declared.observing.Reads.{Reads}
use Rattle.replay.specs.declared.observing.Watch.{Watch}
use Rattle.replay.specs.declared.observing.WatchOf.{WatchOf}
use Rattle.replay.specs.declared.observing.Observed.{Observed}
use Rattle.replay.specs.declared.sighting.Sighting.{Sighting}

-- the first picture is of some prefix of these entries, and the last one of a prefix that is no
-- shorter
pub record ArePicturesOf (m : ℕ) (entries : List Entry) (first last : Picture) : Type 0 where
  pub at_first : List Entry
  pub at_last : List Entry
  pub first_of : IsPictureOf m at_first first
  pub last_of : IsPictureOf m at_last last
  pub later : IsPrefix at_first at_last
  pub within : IsPrefix at_last entries

abbrev pub AreReadsOf : ℕ → List Entry → Reads → Type 0
AreReadsOf m entries reads = ArePicturesOf m entries reads.first reads.last

-- an observer of this board, which read what it has seen of it, unless it has not read yet
pub record IsWatchOf (of : PictureBoardData) (watch : Watch) : Type 0 where
  pub board : board_at watch.observer ≡ of
  pub reads : IfSome watch.reads (AreReadsOf of.processors (seen watch.observer))

-- an observer of this board, which read what it has seen of it
pub record IsObservedOf (of : PictureBoardData) (observed : Observed) : Type 0 where
  pub board : board_at observed.observer ≡ of
  pub reads : AreReadsOf of.processors (seen observed.observer) observed.reads

-- a thread that gives an observer of this board back; or one that came back at once
abbrev pub IsWatcherOf : PictureBoardData → Result (PromisedHandle Watch WatchOf) Watch → Type 0
IsWatcherOf of watcher =
    MatchResult watcher (λ h. board_at h.promise.observer.value ≡ of) (IsWatchOf of)

-- what was seen in the end begins with these entries, and the two reads before are of prefixes of
-- it
pub record IsToldOf (m : ℕ) (entries : List Entry) (s : Sighting) : Type 0 where
  pub all : List Entry
  pub begins : IsPrefix entries all
  pub told : IsPictureOf m all s.told
  pub reads : ArePicturesOf m all s.first s.last
