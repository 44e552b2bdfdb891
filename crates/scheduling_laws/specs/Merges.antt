-- Merges of events on streams, where all events of a task are on one stream, and all of a
-- processor.
use Rattle.std.specs.Prelude.{◌≡◌, ℕ, true, List, All}
use Rattle.task_set.specs.TaskSet.{SetData, IsTaskSet}
use Rattle.strong_apa.specs.declared.reply.Entry.{Entry}
use Rattle.strong_apa.specs.State.{State, start_of, is_ready, is_linked}
use Rattle.strong_apa.specs.History.{IsLegal, state_after}
use Rattle.trace_reader.specs.declared.posted.Posted.{Posted}
use Rattle.replay.specs.Merge.{IsMerge}
use Rattle.scheduling_laws.specs.OneEnd.{is_of_task, is_of_processor}

-- all events of each task are on its stream, and all of each processor
pub record HaveStreams (of_task of_processor : ℕ → ℕ) (events : List Posted) : Type 0 where
  pub tasks : (t : ℕ) → All (λ (posted : Posted). is_of_task t posted.event ≡ true
      → posted.stream ≡ of_task t) events
  pub processors : (p : ℕ) → All (λ (posted : Posted). is_of_processor p posted.event ≡ true
      → posted.stream ≡ of_processor p) events

-- two states have the same tasks ready, and the same tasks linked
pub record HaveSameTasksLinked (one other : State) : Type 0 where
  pub ready : (t : ℕ) → is_ready one t ≡ is_ready other t
  pub linked : (t : ℕ) → is_linked one t ≡ is_linked other t

-- all legal merges of such events end with the same tasks ready, and the same tasks linked
abbrev pub MergesHaveOneEnd : Type 0
MergesHaveOneEnd =
    (set : SetData) (events : List Posted) (one other : List Entry) (of_task of_processor : ℕ → ℕ)
    → IsTaskSet set → HaveStreams of_task of_processor events
    → IsMerge events one → IsMerge events other → IsLegal set one → IsLegal set other
    → HaveSameTasksLinked (state_after (start_of set) one) (state_after (start_of set) other)
