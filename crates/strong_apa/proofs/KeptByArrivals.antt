-- After an arrival each waiting task has a certificate again, along whatever chain the arriving task was shifted: that
-- task where it waits, the task that it displaces, and all who waited before.
use Rattle.std.proofs.Common.{◌≡◌, ℕ, ◌<◌, ◌≤◌, true, false, List, Some, sym, ◌∙◌, subst, inl, inr, IsTrue, get_or-set_other}
use Rattle.std.proofs.lemmas.Bool.{cases_eq}
use Rattle.std.proofs.lemmas.Option.{same_Some}
use Rattle.affinity_mask.specs.ProcSet.{has, Within}
use Rattle.strong_apa.specs.declared.reply.Came.{Came}
use Rattle.strong_apa.specs.declared.reply.Came.TheVariants.{Placed, Displaced, Waits}
use Rattle.strong_apa.specs.State.{State, IsState, is_ready, task_count, task_on, effective_mask, priority_of, state_with_ready}
use Rattle.strong_apa.specs.Chain.{state_after_shift}
use Rattle.strong_apa.specs.Certificate.{IsCertificate}
use Rattle.strong_apa.specs.History.{state_after_came}
use Rattle.strong_apa.proofs.Readiness.{IsState-state_with_ready, IsWaiting-state_with_ready}
use Rattle.strong_apa.proofs.Steps.{IsChainOf-state_with_ready}
use Rattle.strong_apa.specs.Certified.{HasCertificates}
use Rattle.strong_apa.specs.Justification.{WaitsBehind, JustifiesCame}
use Rattle.strong_apa.specs.Passing.{PlacedPasses, DisplacedPasses, CamePasses}
use Rattle.strong_apa.proofs.Closed.{IsClosed}
use Rattle.strong_apa.proofs.KeptByShifts.{OthersHaveCertificates, kept_by_placing, kept_by_displacing, certified_out}

-- once t is ready, the others have the certificates that they had
pub others_have : (s : State) → HasCertificates s → (t : ℕ) → OthersHaveCertificates (state_with_ready s t) t
others_have s certificates t v h other =
    let old = certificates v record { ready = sym (get_or-set_other s.ready t v true false other) ∙ h.ready; not_linked = h.not_linked } in
    (old.0, record { within = old.1.within; occupied = old.1.occupied })

module _ (s : State) (ok : IsState s) (certificates : HasCertificates s) (t : ℕ) (number : t < task_count s)
    (absent : is_ready s t ≡ false) where
  kept_by_placed : (chain : List ℕ) → PlacedPasses s t chain → HasCertificates (state_after_shift (state_with_ready s t) t chain)
  kept_by_placed chain passes =
      let end = passes.ends in
      kept_by_placing (state_with_ready s t) (IsState-state_with_ready s ok t number) t (IsWaiting-state_with_ready s ok t number absent)
      chain end.0 (IsChainOf-state_with_ready s t chain end.0 end.1) passes.simple (others_have s certificates t) end.2.1

  -- a set of a reply that displaces somebody is closed, and full of tasks that are no less urgent
  module _ (chain : List ℕ) (out reach : ℕ) (passes : DisplacedPasses s t chain out reach) where
    displacing_closed : IsClosed s reach
    displacing_closed p u inside on =
        let occupant = passes.full p inside in
        subst (λ (z : ℕ). Within (effective_mask s z) reach) (same_Some occupant.0 u (sym occupant.1 ∙ on)) occupant.2

    least_urgent_out : (p u : ℕ) → IsTrue (has reach p) → task_on s p ≡ Some u → priority_of s u ≤ priority_of s out
    least_urgent_out p u inside on =
        let occupant = passes.full p inside in
        subst (λ (z : ℕ). priority_of s z ≤ priority_of s out) (same_Some occupant.0 u (sym occupant.1 ∙ on)) occupant.3

    kept_by_displaced : HasCertificates (state_after_shift (state_with_ready s t) t chain)
    kept_by_displaced =
        let end = passes.ends in
        kept_by_displacing (state_with_ready s t) (IsState-state_with_ready s ok t number) t
        (IsWaiting-state_with_ready s ok t number absent)
        chain end.0 (IsChainOf-state_with_ready s t chain end.0 end.1) passes.simple (others_have s certificates t)
        reach displacing_closed passes.mask (λ p inside. let occupant = passes.full p inside in (occupant.0, occupant.1))
        out end.2 least_urgent_out passes.out_less_urgent

    -- the set certifies the displaced task, which waits then
    displaced_justification : WaitsBehind (state_after_shift (state_with_ready s t) t chain) out reach
    displaced_justification =
        let end = passes.ends in
        certified_out (state_with_ready s t) (IsState-state_with_ready s ok t number) t (IsWaiting-state_with_ready s ok t number absent)
        chain end.0 (IsChainOf-state_with_ready s t chain end.0 end.1) passes.simple
        reach displacing_closed passes.mask (λ p inside. let occupant = passes.full p inside in (occupant.0, occupant.1))
        out end.2 least_urgent_out passes.out_less_urgent

  -- t waits behind the set
  waits_justification : (reach : ℕ) → IsCertificate s t reach → WaitsBehind (state_with_ready s t) t reach
  waits_justification reach passes = record {
    waits = IsWaiting-state_with_ready s ok t number absent;
    certified = record { within = passes.within; occupied = passes.occupied };
  }

  kept_by_waits : (reach : ℕ) → IsCertificate s t reach → HasCertificates (state_with_ready s t)
  kept_by_waits reach passes v h = elim (cases_eq v t) [
    | inl same ↦ (
      reach,
      subst (λ (z : ℕ). IsCertificate (state_with_ready s t) z reach) (sym same)
          (waits_justification reach passes).certified,
    )
    | inr other ↦ others_have s certificates t v h other
  ]

  pub kept_by_came : (came : Came) → CamePasses s t came → HasCertificates (state_after_came s t came)
  kept_by_came (Placed chain) passes = kept_by_placed chain passes
  kept_by_came (Displaced chain out reach) passes = kept_by_displaced chain out reach passes
  kept_by_came (Waits reach) passes = kept_by_waits reach passes

  pub came_justified : (came : Came) → CamePasses s t came → JustifiesCame (state_after_came s t came) t came
  came_justified (Placed chain) passes = tt
  came_justified (Displaced chain out reach) passes = displaced_justification chain out reach passes
  came_justified (Waits reach) passes = waits_justification reach passes
