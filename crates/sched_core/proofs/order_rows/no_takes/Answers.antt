use Rattle.std.proofs.Common.{◌∙◌, ◌++◌, ◌∷◌, [], List, ℕ, ap}
use Rattle.std.proofs.lemmas.List.{replicate_more}
use Rattle.sched_core.proofs.order_rows.no_takes.Goals as goal

pub loop-t-preserved : goal.loop-t-preserved
loop-t-preserved c = c.in_ok-push.ensures.items ∙ ap (λ (l : List ℕ). l ++ 0 ∷ []) c.loop-t.invariant ∙ replicate_more c.loop-t._t 0
