use Rattle.trace_losses.specs.Passages.{ready_by, ready_after_passages}
use Rattle.trace_losses.proofs.walk.enter.Goals as goal

pub returns : goal.returns
returns c = record {
  used = c.follow-2.ensures.used;
  placed = λ task_set earlier placed.
      c.follow-2.ensures.placed task_set (λ t. ready_by c.args.passage.first t (ready_after_passages earlier t))
      (c.follow.ensures.placed task_set (ready_after_passages earlier) placed);
}
