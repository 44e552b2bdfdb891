-- What contracts see of a publisher and of an observer.
use Rattle.std.specs.Prelude.{◌≡◌, ℕ, List, []}
use Rattle.left_right.specs.Sides.{view}
use Rattle.logbook.specs.Pages.{Book}
use Rattle.strong_apa.specs.declared.reply.Entry.{Entry}
use Rattle.schedule_board.specs.declared.shown.Shown.{Shown}
use Rattle.schedule_board.specs.declared.board.Publisher.{Publisher}
use Rattle.schedule_board.specs.declared.board.Observer.{Observer}

-- which board it is, and how many processors its pictures have
pub record PictureBoardData : Type 0 where
  pub book : Book
  pub processors : ℕ

-- the board on which this is shown
abbrev pub board_shown : Shown → PictureBoardData
board_shown x = record { book = x.reached.book; processors = x.picture.occupants.processors }

-- the board of a publisher
abbrev pub board_of : {R : Type 0} → Publisher R → PictureBoardData
board_of p = board_shown p.desk.desk.shown.value

-- the published entries
abbrev pub published : {R : Type 0} → Publisher R → List Entry
published p = p.desk.desk.shown.value.reached.log

-- the board that an observer reads
abbrev pub board_at : Observer → PictureBoardData
board_at o = record { book = o.told.book; processors = o.processors }

-- the published entries that it has seen
abbrev pub seen : Observer → List Entry
seen o = (view o.place.place).seen.log

-- the published entries that it was told of
abbrev pub told : Observer → List Entry
told o = o.told.log

-- the lengths that its own looks found
abbrev pub looks : Observer → List ℕ
looks o = (view o.place.place).looks

-- an observer of this board that has seen nothing and was told nothing
pub record IsNewObserver (of : PictureBoardData) (o : Observer) : Type 0 where
  pub board : board_at o ≡ of
  pub none_seen : seen o ≡ []
  pub none_told : told o ≡ []
  pub no_looks : looks o ≡ []
