-- What a pass knows after it copied entries of the history.
use Rattle.std.specs.Prelude.{◌≡◌, ◌≤◌, length}
use Rattle.task_set.specs.TaskSet.{SetData}
use Rattle.sched_core.specs.CoreData.{max_entries}
use Rattle.event_history.specs.Boards.{PassData}
use Rattle.event_history.specs.Posting.{SawAll, turn_looks}

-- the pass had one turn without an entry: it has seen the whole history of that turn, which has no
-- more entries than a history may have
pub record HadTurn (set : SetData) (old new : PassData) : Type 0 where
  pub saw : SawAll set old new
  pub few : length new.seen ≤ max_entries
  pub looks : new.looks ≡ turn_looks old.looks (length new.seen)
