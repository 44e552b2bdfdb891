use Rattle.std.proofs.Common.{refl}
use Rattle.link_table.proofs.Steps.{Reordered-from_swap}
use Rattle.link_table.proofs.reordering.swap_with_next.Goals as goal

pub returns-clause-moved : goal.returns-clause-moved
returns-clause-moved c =
    Reordered-from_swap c.args.order.now c.args.r c.requires.next c.args.ranks.now c.args.sets.now c.requires.inverse c.requires.row
    c.swap.new.self _ c.swap-2.new.self c.swap.ensures.after refl c.swap-2.ensures
