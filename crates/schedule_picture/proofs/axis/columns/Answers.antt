use Rattle.std.proofs.Common.{◌∙◌, ap, ◌++◌, ◌∷◌, [], ℕ}
use Rattle.schedule_picture.proofs.Moments.{columns_more}
use Rattle.schedule_picture.proofs.axis.columns.Goals as goal

pub loop-n-preserved : goal.loop-n-preserved
loop-n-preserved c =
    columns_more c.loop-n.n _ _ c.loop-n.invariant
    (c.in_ok-push.ensures.items ∙ ap (λ (n : ℕ). c.loop-n.places.items ++ n ∷ []) c.saturating_sub.ensures)
