use Rattle.std.proofs.Common.{◌∙◌, ◌++◌, ◌∷◌, []}
use Rattle.std.proofs.lemmas.List.{replicate_more}
use Rattle.sched_core.specs.CoreRows.{empty_row}
use Rattle.sched_core.proofs.order_rows.empty_rows.Goals as goal

pub loop-p-preserved : goal.loop-p-preserved
loop-p-preserved c = c.in_ok-push.ensures.items ∙ (λ k. c.loop-p.invariant k ++ c.new.ensures k ∷ []) ∙ replicate_more c.loop-p._p empty_row
