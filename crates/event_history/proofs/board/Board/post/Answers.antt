use Rattle.event_history.proofs.Taking.{taken}
use Rattle.event_history.proofs.board.Board.post.Goals as goal

pub returns-clause-posted : goal.returns-clause-posted
returns-clause-posted g c = taken (λ receipt. receipt) _ _ _ (λ receipt holds. holds) c.post_as.result c.post_as.ensures.posted

pub returns-clause-turn : goal.returns-clause-turn
returns-clause-turn g c = taken (λ receipt. receipt) _ _ _ (λ receipt holds. holds) c.post_as.result c.post_as.ensures.turn
