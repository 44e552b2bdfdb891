-- The scheduler without a history.
use Rattle.std.specs.Prelude.{ℕ, Bool, List, Option}
use Rattle.strong_apa.specs.declared.reply.Reply.{Reply}
use Rattle.strong_apa.specs.State.{State}
use Rattle.live_core.specs.declared.moves.Move.{Move}

-- the links, the reply to the last event, the moves that it or a help after it asks for, and by
-- task whether its slot is in use; by task the processor on which it is seen, and by processor who
-- holds it, where that was asked and nothing has changed since
pub record LiveData : Type 0 where
  pub links : State
  pub last : Reply
  pub moves : List Move
  pub in_use : List Bool
  pub seen : List (Option ℕ)
  pub holders : Option (List (Option ℕ))
