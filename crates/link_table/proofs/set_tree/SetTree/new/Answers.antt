use Rattle.std.proofs.Common.{◌≡◌, length, drop, ap, ◌∙◌, arith}
use Rattle.std.proofs.lemmas.List.{length-drop, length-replicate}
use Rattle.affinity_mask.specs.ProcSet.{empty}
use Rattle.link_table.proofs.Trees.{IsTree-empty, empty_row}
use Rattle.link_table.proofs.set_tree.SetTree.new.Goals as goal

pub invariant_of-result : goal.invariant_of-result
invariant_of-result c = IsTree-empty c.width_for-width.result c.loop-k._k c.loop-k.nodes.items c.width_for-width.ensures.width.level
    (omega arith) c.loop-k.invariant

pub returns-clause-width : goal.returns-clause-width
returns-clause-width c =
    let width = c.width_for-width.result in
    let long = ap length c.loop-k.invariant ∙ length-replicate c.loop-k._k empty in
    let rest = length-drop width c.loop-k.nodes.items in
    let same : length (drop width c.loop-k.nodes.items) ≡ width = omega arith in
    rw same c.width_for-width.ensures.width

pub returns-clause-empty : goal.returns-clause-empty
returns-clause-empty c = λ r. rw c.loop-k.invariant (empty_row c.width_for-width.result c.loop-k._k r)
