-- The set of the idle processors: those on line but for the occupied ones.
use Rattle.std.proofs.Common.{◌≡◌, ℕ, false, not, ◌&&◌, Option, Some, None, refl, sym, ap, ◌∙◌, subst, IsTrue, ◌↔◌}
use Rattle.std.specs.Prelude.{is_some}
use Rattle.std.proofs.lemmas.Bool.{and_parts, and_from, not-true, not_from_false, true≢false}
use Rattle.affinity_mask.specs.ProcSet.{has}
use Rattle.strong_apa.specs.State.{State, IsIdle, task_on}

nobody_from : (o : Option ℕ) → is_some o ≡ false → o ≡ None
nobody_from None e = refl
nobody_from (Some u) e = absurd (true≢false e)

pub idle_of_sets : (s : State) (online linked idle : ℕ) → online ≡ s.online → ((q : ℕ) → has linked q ≡ is_some (task_on s q))
    → ((q : ℕ) → has idle q ≡ (has online q && not (has linked q)))
    → (q : ℕ) → IsTrue (has idle q) ↔ IsIdle s q
idle_of_sets s online linked idle is_online is_linked is_idle q = (there, back)
  where
    there : IsTrue (has idle q) → IsIdle s q
    there h =
        let parts = and_parts (has online q) (not (has linked q)) (sym (is_idle q) ∙ h) in (
          subst (λ (X : ℕ). IsTrue (has X q)) is_online parts.0,
          nobody_from (task_on s q) (sym (is_linked q) ∙ not-true (has linked q) parts.1),
        )

    back : IsIdle s q → IsTrue (has idle q)
    back idle_q =
        is_idle q ∙ and_from (has online q) (not (has linked q)) (subst (λ (X : ℕ). IsTrue (has X q)) (sym is_online) (idle_q.0))
        (not_from_false (has linked q) (is_linked q ∙ ap (λ (o : Option ℕ). is_some o) (idle_q.1)))
