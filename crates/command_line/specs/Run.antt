-- What a replay of an input is: the bytes read are the text of one input, and the bytes written are
-- the schedule text of one history, which is a legal merge of its events, keeps the best set linked
-- after every entry, so that no chain of shifts would bring a waiting task in without displacing a
-- more urgent one, and gives the contexts that are printed.
use Rattle.strong_apa.specs.Dispatch.{contexts_of}
use Rattle.std.specs.Prelude.{◌≡◌, ℕ, List}
use Rattle.task_set.specs.TaskSet.{SetData}
use Rattle.task_set.specs.declared.context.Context.{Context}
use Rattle.strong_apa.specs.declared.reply.Entry.{Entry}
use Rattle.strong_apa.specs.History.{IsLegal, IsBestThroughout}
use Rattle.strong_apa.specs.Improving.{HasNoImprovingChainThroughout}
use Rattle.trace_reader.specs.declared.posted.Posted.{Posted}
use Rattle.trace_reader.specs.InputText.{IsInputText}
use Rattle.commands.specs.Valid.{IsTextOf, IsValid}
use Rattle.replay.specs.Merge.{IsMerge, IsOnOneStream}
use Rattle.schedule_text.specs.Schedule.{ScheduleData}
use Rattle.schedule_text.specs.ScheduleText.{schedule_text}

-- the headline: from the bytes read to the bytes written, by one history
pub record Replays (read put : List ℕ) : Type 0 where
  pub version : ℕ
  pub set : SetData
  pub events : List Posted
  pub history : List Entry
  pub printed : List Context
  pub input : IsInputText version read set events
  pub text : put ≡ schedule_text version set history printed
  pub merge : IsMerge events history
  pub legal : IsLegal set history
  pub best : IsBestThroughout set history
  pub no_improving_chain : HasNoImprovingChainThroughout set history
  pub contexts : printed ≡ contexts_of set history

-- the headline; where the events read are of one stream, it allows no other text, so that the bytes
-- written are one function of the bytes read; and the bytes written are the text of a valid
-- schedule, as a check says of it
pub record IsRunOf (read put : List ℕ) : Type 0 where
  pub replayed : Replays read put
  pub schedule : ScheduleData
  pub is_text : IsTextOf put schedule
  pub valid : IsValid schedule
  pub one_stream : IsOnOneStream replayed.events → (other : List ℕ) → Replays read other
      → other ≡ put

-- the schedule text of one replay of these events, with the contexts that its history gives
pub record IsTextOfReplay (version : ℕ) (set : SetData) (events : List Posted)
    (put : List ℕ) : Type 0 where
  pub history : List Entry
  pub printed : List Context
  pub merge : IsMerge events history
  pub legal : IsLegal set history
  pub contexts : printed ≡ contexts_of set history
  pub text : put ≡ schedule_text version set history printed
