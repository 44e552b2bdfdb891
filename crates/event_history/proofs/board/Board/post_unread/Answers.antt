use Rattle.std.proofs.Common.{refl}
use Rattle.event_history.specs.Unread.{unread_of}
use Rattle.event_history.proofs.Taking.{taken}
use Rattle.event_history.proofs.board.Board.post_unread.Goals as goal

pub returns-clause-posted : goal.returns-clause-posted
returns-clause-posted g c =
    taken unread_of _ _ _ (λ receipt posted. record { reply = receipt.reply; posted = posted; orders = refl })
    c.post_as.result c.post_as.ensures.posted

pub returns-clause-turn : goal.returns-clause-turn
returns-clause-turn g c = taken unread_of _ _ _ (λ receipt took. took) c.post_as.result c.post_as.ensures.turn
