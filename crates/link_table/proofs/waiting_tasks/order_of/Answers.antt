use Rattle.std.proofs.Common.{◌∙◌}
use Rattle.std.proofs.lemmas.List.Sorted.{length_permutation}
use Rattle.link_table.proofs.Urgent.{sorted_entries, apart_moved}
use Rattle.link_table.proofs.waiting_tasks.order_of.Goals as goal

pub returns-clause-order : goal.returns-clause-order
returns-clause-order c = sorted_entries c.args.by_task.now c.in_ok-order.order.items c.sort_by_priority.new.entries.items
    c.in_ok-order.ensures.entries c.sort_by_priority.ensures.moved c.sort_by_priority.ensures.sorted

pub returns-clause-apart : goal.returns-clause-apart
returns-clause-apart c = apart_moved c.in_ok-order.order.items c.sort_by_priority.new.entries.items c.in_ok-order.ensures.numbered
    c.sort_by_priority.ensures.moved

pub returns-clause-count : goal.returns-clause-count
returns-clause-count c = length_permutation c.in_ok-order.order.items c.sort_by_priority.new.entries.items c.sort_by_priority.ensures.moved
    ∙ c.in_ok-order.ensures.count
