use Rattle.std.proofs.Common.{arith}
use Rattle.affinity_mask.proofs.CanonicalLists.{one_run}
use Rattle.affinity_mask.proofs.canonical_list.one_run_of.Goals as goal

pub returns-then-is_empty : goal.returns-then-is_empty
returns-then-is_empty c =
    one_run c.args.text.now c.in_ok-rest.rest.now c.range.result c.likely_ends-low.result.0 c.likely_ends-low.result.1
    c.if-low-high.false (omega arith) c.range.ensures c.in_ok-rest.ensures (grind arith)
