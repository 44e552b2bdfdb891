use Rattle.order_queues.proofs.Batches.{first_obeyable}
use Rattle.order_queues.proofs.parts.SenderParts.send_all.Goals as goal

pub push-requires-clause-obeyable : goal.push-requires-clause-obeyable
push-requires-clause-obeyable g c = first_obeyable _ _ _ _ c.split_at.ensures.front c.requires.obeyable
