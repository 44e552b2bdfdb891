-- The weak scheduler is never better than the strong one: what it has linked is a placeable set of the ready tasks, of which
-- the strong one has the best, and the largest, linked.
use Rattle.std.proofs.Common.{◌≡◌, ℕ, ◌≤◌, true, Option, Some, None, length, sym, ap, ◌∙◌, subst, inl, inr}
use Rattle.std.specs.Prelude.{IfSome}
use Rattle.std.proofs.lemmas.Bool.{cases_Bool}
use Rattle.std.proofs.lemmas.Option.{same_Some}
use Rattle.affinity_mask.specs.ProcSet.{passing_below}
use Rattle.strong_apa.specs.State.{State, IsState, task_on, task_count, is_linked, is_ready, effective_mask}
use Rattle.strong_apa.specs.Placement.{IsPlaceable, IsSubset, IsBetter}
use Rattle.strong_apa.proofs.Linked.{place_in, task_on-linked}
use Rattle.strong_apa.specs.Certified.{HasCertificates}
use Rattle.strong_apa.proofs.Best.{linked_is_best, linked_is_largest}
use Rattle.weak_apa.specs.Stable.{IsWeaklyStable}
use Rattle.weak_apa.specs.Step.{without_links}
use Rattle.weak_apa.specs.Compared.{Compares, IsNoBetter, IsFirstApart, linked_count}
use Rattle.weak_apa.specs.declared.comparison.Comparison.{Comparison}

module _ (weak strong : State) (ok_weak : IsState weak) (ok_strong : IsState strong)
    (alike : without_links weak ≡ without_links strong) where
  mask_alike : (t : ℕ) → effective_mask weak t ≡ effective_mask strong t
  mask_alike t = ap (λ (s : State). effective_mask s t) alike

  weak_is_ready : IsSubset (is_linked weak) (is_ready strong)
  weak_is_ready t linked =
      sym (ap (λ (s : State). is_ready s t) alike) ∙ ok_weak.linked_ready (place_in t weak.on) t (task_on-linked weak t linked)

  weak_is_placeable : IsPlaceable strong (is_linked weak)
  weak_is_placeable = (
    (λ t. place_in t weak.on),
    record {
      allowed = λ t linked. rw (← mask_alike t) (ok_weak.allowed (place_in t weak.on) t (task_on-linked weak t linked));
      apart = λ t u ht hu e. same_Some t u (sym (task_on-linked weak t ht) ∙ ap (task_on weak) e ∙ task_on-linked weak u hu);
    },
  )

  module _ (certificates : HasCertificates strong) where
    never_better : IsBetter strong (is_linked weak) (is_linked strong) → ⊥
    never_better better = (linked_is_best strong ok_strong certificates).none_better (is_linked weak) weak_is_ready weak_is_placeable better

    -- the most urgent task that just one has linked is one of the strong scheduler
    named : (first : Option ℕ) → IsFirstApart weak strong first → IfSome first (λ t. is_linked strong t ≡ true)
    named None none = tt
    named (Some t) first = elim (cases_Bool (is_linked strong t)) [
      | inl in_strong ↦ in_strong
      | inr not_in_strong ↦ elim (cases_Bool (is_linked weak t)) [
        | inl in_weak ↦ absurd (never_better record { task = t; in_first = in_weak; not_in_second = not_in_strong; most_urgent = first.1 })
        | inr not_in_weak ↦ absurd (first.0 (not_in_weak ∙ sym not_in_strong))
      ]
    ]

    no_more : linked_count weak ≤ linked_count strong
    no_more =
        let largest = linked_is_largest strong ok_strong certificates (is_linked weak) weak_is_ready weak_is_placeable in
        let same : task_count weak ≡ task_count strong = ap task_count alike in
        subst (λ (n : ℕ). length (passing_below (is_linked weak) n) ≤ linked_count strong) (sym same) largest

    pub no_better : (found : Comparison) → IsWeaklyStable weak → Compares weak strong found → IsNoBetter weak strong found
    no_better found stable compares = record {
      stable = stable;
      ready = ap (λ (s : State). s.ready) alike;
      best = linked_is_best strong ok_strong certificates;
      never_better = never_better;
      no_more = (let le = no_more in rw (compares.weak_count, compares.strong_count) le);
      named = named found.first compares.first;
    }
