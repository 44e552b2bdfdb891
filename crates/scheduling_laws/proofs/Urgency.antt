-- The urgent part of the best subset of a set is the best subset of its urgent part: a better one would be better than the
-- best subset itself.
use Rattle.std.proofs.Common.{sym, ◌∙◌, inl, inr, arith}
use Rattle.std.proofs.lemmas.Bool.{cases_Bool, cases_lt, true≢false, and_from, and_parts, le-leb, leb-true}
use Rattle.std.proofs.Math.Bool.{and-true}
use Rattle.strong_apa.specs.State.{priority_of}
use Rattle.scheduling_laws.specs.Urgency.{BestRestricts}

pub best_restricts : BestRestricts
best_restricts s R best bound is_best = record {
  subset = λ t h. let parts = and_parts (best t) _ h in and_from _ _ (is_best.subset t parts.0) parts.1;
  placeable = (
    is_best.placeable.0,
    record {
      allowed = λ t h. is_best.placeable.1.allowed t (and_parts (best t) _ h).0;
      apart = λ t u h k. is_best.placeable.1.apart t u (and_parts (best t) _ h).0 (and_parts (best u) _ k).0;
    },
  );
  none_better = λ other subset placeable better.
      let urgent = leb-true _ _ (and_parts (R better.task) _ (subset better.task better.in_first)).1 in
      is_best.none_better other (λ t h. (and_parts (R t) _ (subset t h)).0) placeable record {
        task = better.task;
        in_first = better.in_first;
        not_in_second = elim (cases_Bool (best better.task)) [
          | inl member ↦ absurd (true≢false (sym (and_from _ _ member (le-leb _ _ urgent)) ∙ better.not_in_second))
          | inr out ↦ out
        ];
        most_urgent = λ u differ. elim (cases_lt bound (priority_of s u)) [
          | inl later ↦ omega arith
          | inr within ↦ better.most_urgent u (λ e. differ (e ∙ rw (le-leb _ _ within) (and-true (best u))))
        ];
      };
}
