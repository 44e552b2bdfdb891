use Rattle.link_table.proofs.Steps.{Reordered-trans}
use Rattle.link_table.proofs.reordering.move_to_place.Goals as goal

pub returns-clause-moved : goal.returns-clause-moved
returns-clause-moved c =
    let first = c.move_later-rank.new in
    let then = c.move_earlier.new in
    Reordered-trans c.args.order.now c.args.ranks.now c.args.sets.now first.order first.ranks first.sets then.order then.ranks then.sets
    c.move_later-rank.ensures.moved c.move_earlier.ensures.moved
