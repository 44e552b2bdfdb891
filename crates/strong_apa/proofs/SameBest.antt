-- States with the same tasks and the same masks have the same best sets.
use Rattle.std.proofs.Common.{◌≡◌, ℕ, refl, sym, ap, ◌∙◌}
use Rattle.affinity_mask.specs.ProcSet.{has}
use Rattle.strong_apa.specs.State.{State, HasSameTasks, HasSameMasks, priority_of, effective_mask}
use Rattle.strong_apa.specs.Placement.{TaskTest, IsBest}

pub priority_of-same : (old new : State) → HasSameTasks old new → (t : ℕ) → priority_of new t ≡ priority_of old t
priority_of-same old new same t = rw same.priorities refl

module _ (old new : State) (same : HasSameTasks old new) (same_masks : HasSameMasks old new) where
  effective_mask-same : (t : ℕ) → effective_mask new t ≡ effective_mask old t
  effective_mask-same t = rw (same_masks.masks, same_masks.online) refl

  -- what is best in the one is best in the other, by tests that give the same answers
  pub IsBest-same : (R R' best best' : TaskTest) → ((t : ℕ) → R t ≡ R' t) → ((t : ℕ) → best t ≡ best' t) → IsBest new R best
      → IsBest old R' best'
  IsBest-same R R' best best' same_R same_best is_best = record {
    subset = λ t h. sym (same_R t) ∙ is_best.subset t (same_best t ∙ h);
    placeable = (
      is_best.placeable.0,
      record {
        allowed = λ t h. ap (λ (X : ℕ). has X (is_best.placeable.0 t)) (sym (effective_mask-same t))
            ∙ is_best.placeable.1.allowed t (same_best t ∙ h);
        apart = λ t u h k. is_best.placeable.1.apart t u (same_best t ∙ h) (same_best u ∙ k);
      },
    );
    none_better = λ other subset placeable better. is_best.none_better other (λ t h. same_R t ∙ subset t h) (
      placeable.0,
      record {
        allowed = λ t h. ap (λ (X : ℕ). has X (placeable.0 t)) (effective_mask-same t) ∙ placeable.1.allowed t h;
        apart = placeable.1.apart;
      },
    )
        record {
          task = better.task;
          in_first = better.in_first;
          not_in_second = same_best better.task ∙ better.not_in_second;
          most_urgent = λ u differ. rw (priority_of-same old new same better.task, priority_of-same old new same u)
              (better.most_urgent u (λ e. differ (e ∙ sym (same_best u))));
        };
  }
