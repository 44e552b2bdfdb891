-- What `large` writes: a summary of the schedule of the input that its four numbers make.
use Rattle.std.specs.Prelude.{◌≡◌, ℕ, List, map}
use Rattle.task_set.specs.TaskSet.{SetData}
use Rattle.task_set.specs.declared.context.Context.{Context}
use Rattle.strong_apa.specs.declared.reply.Entry.{Entry}
use Rattle.strong_apa.specs.Dispatch.{contexts_of}
use Rattle.strong_apa.specs.History.{IsLegal, IsBestThroughout}
use Rattle.trace_reader.specs.declared.posted.Posted.{Posted}
use Rattle.replay.specs.Merge.{posted_of}
use Rattle.commands.specs.Generating.{IsInputOf}
use Rattle.commands.specs.Summary.{summary_text}
use Rattle.commands.specs.declared.sizes.Sizes.{Sizes}

-- the schedule of these events: the history has an entry for each event, in their order, and is
-- legal; and the context of each task, in task order, is the one that the history gives it
pub record Schedules (set : SetData) (events : List Posted) (entries : List Entry)
    (contexts : List Context) : Type 0 where
  pub each_event : map posted_of entries ≡ events
  pub legal : IsLegal set entries
  pub each_context : contexts ≡ contexts_of set entries

-- the text is the summary of a legal history of the events of the input of these numbers, in their
-- order, and of the contexts that it gives
pub record Summarizes (sizes : Sizes) (put : List ℕ) : Type 0 where
  pub set : SetData
  pub events : List Posted
  pub history : List Entry
  pub contexts : List Context
  pub generated : IsInputOf sizes set events
  pub schedules : Schedules set events history contexts
  pub best : IsBestThroughout set history
  pub text : put ≡ summary_text sizes history contexts

-- what `large` writes: that text and no other
pub record IsLargeOf (sizes : Sizes) (put : List ℕ) : Type 0 where
  pub summarizes : Summarizes sizes put
  pub only : (other : List ℕ) → Summarizes sizes other → other ≡ put
