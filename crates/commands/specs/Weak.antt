-- The comparison of an input, from bytes to bytes: the bytes read are the text of one input, and
-- the bytes written are the text that compares what the weak and the strong scheduler do at its
-- events.
use Rattle.std.specs.Prelude.{ℕ, List}
use Rattle.task_set.specs.TaskSet.{SetData}
use Rattle.trace_reader.specs.declared.posted.Posted.{Posted}
use Rattle.trace_reader.specs.InputText.{IsInputText}
use Rattle.weak_apa.specs.WeakText.{IsWeakTextOf}

-- what is written of the bytes read
pub record IsWeakOf (read put : List ℕ) : Type 0 where
  pub version : ℕ
  pub set : SetData
  pub events : List Posted
  pub input : IsInputText version read set events
  pub compared : IsWeakTextOf set events put
