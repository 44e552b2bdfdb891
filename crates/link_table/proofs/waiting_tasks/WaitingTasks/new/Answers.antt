use Rattle.std.proofs.Common.{ℕ, List, length, ap, arith}
use Rattle.link_table.proofs.Ranks.{nobody_at_first}
use Rattle.link_table.proofs.waiting_tasks.WaitingTasks.new.Goals as goal

pub returns : goal.returns
returns c = ap (λ (masks : List ℕ). record { priorities = c.args.by_task.items; masks = masks })
    (nobody_at_first (length c.args.by_task.items) c.in_ok-ranks.ranks.items c.in_ok-sets.sets
    (omega (arith, c.in_ok-ranks.ensures.count, c.in_ok-order.ensures.count)) c.in_ok-sets.ensures.empty)
