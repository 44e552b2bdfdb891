-- What certificates become when a task becomes absent: those of the others stay, but for the processor that it leaves.
use Rattle.std.proofs.Common.{◌≡◌, ◌≢◌, ℕ, ◌<◌, true, false, not, length, nat_eq, Some, sym, ap, ◌∙◌, get_or-set_same, get_or-set_other}
use Rattle.std.proofs.Common.{eq-eqb}
use Rattle.std.proofs.lemmas.Bool.{true≢false, and_parts, and_from, not-true}
use Rattle.affinity_mask.specs.ProcSet.{has, without_member, Within}
use Rattle.affinity_mask.proofs.Sets.{has-without_member}
use Rattle.strong_apa.specs.declared.reply.Gone.{Gone}
use Rattle.strong_apa.specs.State.{State, IsState, IsWaiting, is_ready, task_count, task_on, effective_mask, state_with_absent}
use Rattle.strong_apa.specs.State.{state_with_offline, state_after_leaving}
use Rattle.strong_apa.specs.History.{state_after_gone}
use Rattle.strong_apa.proofs.Changes.{effective_mask-offline}
use Rattle.strong_apa.proofs.Leaving.{task_on-stays, task_on-left, IsState-state_after_leaving}
use Rattle.strong_apa.proofs.Linked.{not_on, not_linked-from_on}
use Rattle.strong_apa.specs.Certified.{HasCertificates}
use Rattle.strong_apa.specs.Justification.{LeavesNobody}
use Rattle.strong_apa.specs.Passing.{GonePasses}
use Rattle.strong_apa.proofs.KeptByFilling.{kept_by_filling, filling_justified}

module _ (s : State) (ok : IsState s) (certificates : HasCertificates s) (t : ℕ) (number : t < task_count s) where
  -- who is ready then is another task, and was ready before
  another : (v : ℕ) → is_ready (state_with_absent s t) v ≡ true → v ≢ t
  another v ready same =
      let in_column : t < length s.ready = rw ok.ready_count number in
      true≢false (sym ready ∙ ap (is_ready (state_with_absent s t)) same ∙ get_or-set_same s.ready t false false in_column)

  ready_before : (v : ℕ) → is_ready (state_with_absent s t) v ≡ true → is_ready s v ≡ true
  ready_before v ready = sym (get_or-set_other s.ready t v false false (another v ready)) ∙ ready

  -- it waited, so no link changes
  pub kept_by_left : HasCertificates (state_with_absent s t)
  kept_by_left v h =
      let old = certificates v record { ready = ready_before v h.ready; not_linked = h.not_linked } in
      (old.0, record { within = old.1.within; occupied = old.1.occupied })

  -- it was linked, and its processor has no task then
  module _ (place : ℕ) (linked : task_on s place ≡ Some t) where
    abbrev left : State
    left = state_after_leaving s t

    waited_before : (v : ℕ) → IsWaiting left v → IsWaiting s v
    waited_before v h = record {
      ready = ready_before v h.ready;
      not_linked = not_linked-from_on s v (λ p on. not_on left p v h.not_linked (task_on-stays s t p v on (another v h.ready)));
    }

    -- the task of another processor stays
    stays : (p u : ℕ) → p ≢ place → task_on s p ≡ Some u → task_on left p ≡ Some u
    stays p u elsewhere on = task_on-stays s t p u on (λ same. elsewhere (ok.once p place t (on ∙ ap (λ (n : ℕ). Some n) same) linked))

    within_without : (u X : ℕ) → Within (effective_mask s u) X
        → Within (effective_mask (state_with_offline left place) u) (without_member X place)
    within_without u X within q allowed =
        let parts = and_parts (has (effective_mask left u) q) (not (nat_eq q place))
        (sym (effective_mask-offline left place u q) ∙ allowed) in
        has-without_member X place q ∙ and_from (has X q) (not (nat_eq q place)) (within q parts.0) parts.1

    -- where the processor does not count, each has the certificate that it had, without the processor
    pub kept_without : HasCertificates (state_with_offline left place)
    kept_without v h =
        let old = certificates v (waited_before v record { ready = h.ready; not_linked = h.not_linked }) in (
          without_member old.0 place,
          record {
            within = within_without v old.0 old.1.within;
            occupied = λ q inside.
                let parts = and_parts (has old.0 q) (not (nat_eq q place)) (sym (has-without_member old.0 place q) ∙ inside) in
                let occupant = old.1.occupied q parts.0 in (
                  occupant.0,
                  stays q occupant.0 (λ same. true≢false (sym (eq-eqb q place same) ∙ not-true (nat_eq q place) parts.1)) occupant.1,
                  occupant.2,
                  within_without occupant.0 old.0 occupant.3,
                );
          },
        )

    -- who comes in at its processor
    pub kept_by_gone : (gone : Gone) → GonePasses left place gone → HasCertificates (state_after_gone left gone)
    kept_by_gone gone passes =
        kept_by_filling left (IsState-state_after_leaving s ok t) place (task_on-left s t place linked) kept_without gone passes

    pub gone_justified : (gone : Gone) → GonePasses left place gone → LeavesNobody (state_after_gone left gone) gone.entered gone.back
    gone_justified gone passes =
        filling_justified left (IsState-state_after_leaving s ok t) place (task_on-left s t place linked) gone passes
