use Rattle.std.proofs.Common.{arith}
use Rattle.link_table.proofs.Trees.{IsLevel-one, IsLevel-twice, IsLevel-positive, level_past}
use Rattle.link_table.proofs.set_tree.width_for.Goals as goal

pub loop-width-init : goal.loop-width-init
loop-width-init c = record { level = IsLevel-one; least = λ other level room. IsLevel-positive other level; bound = omega arith }

pub loop-width-preserved : goal.loop-width-preserved
loop-width-preserved c =
    let i = c.loop-width.invariant in
    record {
      level = IsLevel-twice c.loop-width.width i.level;
      least = λ other level room. level_past c.loop-width.width other i.level level (omega arith);
      bound = omega arith;
    }

pub loop-width-smaller : goal.loop-width-smaller
loop-width-smaller c = let low = IsLevel-positive c.loop-width.width c.loop-width.invariant.level in omega arith

pub returns-clause-width : goal.returns-clause-width
returns-clause-width c = record { level = c.loop-width.invariant.level; room = omega arith; least = c.loop-width.invariant.least }
