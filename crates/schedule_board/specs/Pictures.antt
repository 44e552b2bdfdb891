-- Pictures: which task is linked to which processor after some entries.
use Rattle.std.specs.Prelude.{◌≡◌, ℕ, ◌<◌, List, length, get_or, Option, None}
use Rattle.task_set.specs.TaskSet.{SetData}
use Rattle.strong_apa.specs.declared.reply.Entry.{Entry}
use Rattle.strong_apa.specs.State.{start_of, task_on}
use Rattle.strong_apa.specs.History.{state_after}
use Rattle.schedule_board.specs.declared.picture.Picture.{Picture}

-- the task that a picture shows on a processor
abbrev pub task_at : Picture → ℕ → Option ℕ
task_at picture p = get_or picture.occupants.on p None

-- the picture of a history: the task that is linked to a processor after these entries
abbrev pub picture_of : SetData → List Entry → ℕ → Option ℕ
picture_of set entries p = task_on (state_after (start_of set) entries) p

-- it is the picture of these entries, on so many of its 64 processors. Which tasks there are makes
-- no difference: the links follow from the replies
pub record IsPictureOf (m : ℕ) (entries : List Entry) (picture : Picture) : Type 0 where
  pub processors : picture.occupants.processors ≡ m
  pub places : length picture.occupants.on ≡ 64
  pub count : picture.count ≡ length entries
  pub links : (set : SetData) → set.processors ≡ m → (p : ℕ) → p < 64
      → task_at picture p ≡ picture_of set entries p
