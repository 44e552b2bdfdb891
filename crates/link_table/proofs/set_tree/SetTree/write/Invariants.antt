use Rattle.std.proofs.Common.{set}
use Rattle.link_table.proofs.Trees.{IsHalfWritten}
use Rattle.link_table.proofs.set_tree.SetTree.write.Given as goal

abbrev pub invariant-loop-k : goal.invariant-loop-k
invariant-loop-k l = IsHalfWritten l.self-inside.width l.self-inside.nodes.items (set l.fn.self l.r l.fn.item) l.k l.sum

abbrev pub decreases-loop-k : goal.decreases-loop-k
decreases-loop-k l = l.k
