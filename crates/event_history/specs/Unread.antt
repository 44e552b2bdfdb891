-- Entries whose reply nobody reads: what their callers are told of them.
use Rattle.std.specs.Prelude.{◌≡◌, Bool, true, false}
use Rattle.task_set.specs.TaskSet.{SetData}
use Rattle.task_set.specs.declared.event.Event.{Event}
use Rattle.strong_apa.specs.declared.reply.Reply.{Reply}
use Rattle.strong_apa.specs.declared.reply.Reply.TheVariants.{Waits, Left, AlreadyReady, NotReady}
use Rattle.strong_apa.specs.declared.reply.Reply.TheVariants.{Masked, AlreadyOff, AlreadyOn}
use Rattle.event_history.specs.declared.fault.Receipt.{Receipt}
use Rattle.event_history.specs.declared.fault.Unread.{Unread}
use Rattle.event_history.specs.Boards.{PassData}
use Rattle.event_history.specs.Posting.{Posted}

-- whether a reply may come with orders: it does not say that nobody ran, came to a processor or
-- left one
abbrev pub may_give_orders : Reply → Bool
may_give_orders (Waits _) = false
may_give_orders Left = false
may_give_orders AlreadyReady = false
may_give_orders NotReady = false
may_give_orders Masked = false
may_give_orders AlreadyOff = false
may_give_orders AlreadyOn = false
may_give_orders _ = true

-- what the caller of an entry takes that does not read its reply
abbrev pub unread_of : Receipt → Unread
unread_of receipt = record { place = receipt.place; gives_orders = may_give_orders receipt.reply }

-- the entry was posted, with some reply
pub record PostedUnread (set : SetData) (old : PassData) (event : Event) (unread : Unread)
    (new : PassData) : Type 0 where
  pub reply : Reply
  pub posted : Posted set old event record { place = unread.place; reply = reply } new
  pub orders : unread.gives_orders ≡ may_give_orders reply
