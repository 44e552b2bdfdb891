-- What a closed board gives back: one history, of which each pass saw a beginning, and a sender for
-- each processor.
use Rattle.std.specs.Prelude.{◌≡◌, Bool, true, List, [], ◌∷◌}
use mathlib.Core.List.{IsPrefix}
use Rattle.strong_apa.specs.declared.reply.Entry.{Entry}
use Rattle.strong_apa.specs.State.{start_of}
use Rattle.strong_apa.specs.History.{IsLegal}
use Rattle.sched_core.specs.CoreData.{CoreData}
use Rattle.order_queues.specs.Ends.{SenderData}
use Rattle.event_history.specs.Boards.{BoardData, PassData}
use Rattle.event_history.specs.Holdings.{queues_of, SentBegins}
use Rattle.event_history.specs.Places.{own_places, CallersBelow}

-- what the pass says is so of this history
pub record Tells (history : List Entry) (closed : Bool) (pass : PassData) : Type 0 where
  pub seen : IsPrefix pass.seen history
  pub close : pass.saw_close ≡ true → (pass.seen ≡ history) × (closed ≡ true)
  pub mine : pass.mine ≡ own_places pass.caller history

-- what each of these passes says is so of this history
abbrev pub AllTell : List Entry → Bool → List PassData → Type 0
AllTell history closed [] = Unit {0}
AllTell history closed (pass ∷ rest) = Tells history closed pass × AllTell history closed rest

-- the core of a board, at its end
pub record IsCoreOf (board : BoardData) (passes : List PassData) (core : CoreData) : Type 0 where
  pub start : core.start ≡ start_of board.set
  pub legal : IsLegal board.set core.history
  pub told : AllTell core.history core.closed passes
  pub callers : CallersBelow board.callers core.history

-- the senders of a board, at its end: one of each queue, in order, which sent a beginning of its
-- processor's orders
pub record AreSendersOf (board : BoardData) (core : CoreData)
    (senders : List SenderData) : Type 0 where
  pub queues : queues_of senders ≡ board.queues
  pub sent : SentBegins core senders
