use Rattle.std.proofs.Common.{◌-◌}
use Rattle.link_table.proofs.Trees.{IsOnTheWay}
use Rattle.link_table.proofs.set_tree.SetTree.first_meeting.Given as goal

abbrev pub invariant-loop-k : goal.invariant-loop-k
invariant-loop-k l = IsOnTheWay l.self-inside.width l.self-inside.nodes.items l.other l.k

abbrev pub decreases-loop-k : goal.decreases-loop-k
decreases-loop-k l = l.self-inside.width - l.k
