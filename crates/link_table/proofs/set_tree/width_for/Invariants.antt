use Rattle.std.proofs.Common.{ℕ, ◌≤◌, ◌-◌}
use Rattle.link_table.specs.SetTree.{IsTreeLevel}
use Rattle.link_table.proofs.set_tree.width_for.Given as goal

abbrev pub invariant-loop-width : goal.invariant-loop-width
invariant-loop-width l = record {
  level : IsTreeLevel l.width;
  least : (other : ℕ) → IsTreeLevel other → l.least ≤ other → l.width ≤ other;
  bound : l.width ≤ 2048;
}

abbrev pub decreases-loop-width : goal.decreases-loop-width
decreases-loop-width l = l.least - l.width
