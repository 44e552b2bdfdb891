-- What certificates become when the mask of an absent task changes, when a processor goes off line, and when one comes on
-- line and others fill it. A change of an absent task is none for the others; and where fewer processors are on line, every
-- certificate stays one, since the effective masks only lose processors.
use Rattle.std.proofs.Common.{◌≡◌, ◌≢◌, ℕ, ◌<◌, false, not, nat_eq, Option, Some, None, refl, sym, ap, ◌∙◌, subst, IsTrue, inl, inr}
use Rattle.std.proofs.lemmas.Bool.{true≢false, and_parts, and_from, or_cases, not-true}
use Rattle.affinity_mask.specs.ProcSet.{has, with_member, without_member, Within}
use Rattle.affinity_mask.proofs.Sets.{has-intersection, has-with_member, has-without_member}
use Rattle.strong_apa.specs.declared.reply.Gone.{Gone}
use Rattle.strong_apa.specs.State.{State, IsState, is_ready, mask_of, effective_mask, task_on, state_with_mask, state_with_online}
use Rattle.strong_apa.specs.State.{state_with_offline}
use Rattle.strong_apa.specs.History.{state_after_gone}
use Rattle.strong_apa.proofs.Changes.{IsState-state_with_online, effective_mask-other, occupant_is_other}
use Rattle.strong_apa.proofs.Masks.{effective_mask_online}
use Rattle.strong_apa.specs.Certified.{HasCertificates}
use Rattle.strong_apa.specs.Justification.{LeavesNobody}
use Rattle.strong_apa.specs.Passing.{GonePasses}
use Rattle.strong_apa.proofs.KeptByFilling.{kept_by_filling, filling_justified}

-- the mask of an absent task changes
pub kept_by_mask : (s : State) → IsState s → HasCertificates s → (t mask : ℕ) → is_ready s t ≡ false
    → HasCertificates (state_with_mask s t mask)
kept_by_mask s ok certificates t mask absent v h =
    let old = certificates v record { ready = h.ready; not_linked = h.not_linked } in (
      old.0,
      record {
        within = same_mask v old.0 (λ same. true≢false (sym h.ready ∙ ap (is_ready s) same ∙ absent)) old.1.within;
        occupied = λ q inside.
            let occupant = old.1.occupied q inside in (
              occupant.0,
              occupant.1,
              occupant.2,
              same_mask occupant.0 old.0 (occupant_is_other s t mask ok absent q occupant.0 occupant.1)
                  occupant.3,
            );
      },
    )
  where
    same_mask : (u X : ℕ) → u ≢ t → Within (effective_mask s u) X → Within (effective_mask (state_with_mask s t mask) u) X
    same_mask u X other within = subst (λ (mask : ℕ). Within mask X) (sym (effective_mask-other s t mask u other)) within

-- fewer processors are on line, or the same ones
kept_by_fewer : (s : State) (online : ℕ) → Within online s.online → HasCertificates s → HasCertificates (record s { online = online })
kept_by_fewer s online fewer certificates v h =
    let old = certificates v record { ready = h.ready; not_linked = h.not_linked } in (
      old.0,
      record {
        within = λ q allowed. old.1.within q (allowed_before v q allowed);
        occupied = λ q inside.
            let occupant = old.1.occupied q inside in
            (occupant.0, occupant.1, occupant.2, λ r allowed. occupant.3 r (allowed_before occupant.0 r allowed));
      },
    )
  where
    allowed_before : (u q : ℕ) → IsTrue (has (effective_mask (record s { online = online }) u) q) → IsTrue (has (effective_mask s u) q)
    allowed_before u q allowed =
        let parts = and_parts (has (mask_of s u) q) (has online q) (sym (has-intersection (mask_of s u) online q) ∙ allowed) in
        has-intersection (mask_of s u) s.online q ∙ and_from (has (mask_of s u) q) (has s.online q) parts.0 (fewer q parts.1)

-- a processor goes off line
pub kept_by_offline : (s : State) → HasCertificates s → (p : ℕ) → HasCertificates (state_with_offline s p)
kept_by_offline s certificates p = kept_by_fewer s (without_member s.online p)
    (λ q inside. (and_parts (has s.online q) (not (nat_eq q p)) (sym (has-without_member s.online p q) ∙ inside)).0) certificates

-- ---- a processor comes on line
-- where it does not count, nothing has changed
kept_without_new : (s : State) → HasCertificates s → (p : ℕ) → HasCertificates (state_with_offline (state_with_online s p) p)
kept_without_new s certificates p = kept_by_fewer s (without_member (with_member s.online p) p) fewer certificates
  where
    fewer : Within (without_member (with_member s.online p) p) s.online
    fewer q inside =
        let parts = and_parts (has (with_member s.online p) q) (not (nat_eq q p)) (sym (has-without_member (with_member s.online p) p q)
        ∙ inside) in
        elim (or_cases (has s.online q) (nat_eq q p) (sym (has-with_member s.online p q) ∙ parts.0)) [
          | inl there ↦ there
          | inr same ↦ absurd (true≢false (sym same ∙ not-true (nat_eq q p) parts.1))
        ]

-- nobody is on a processor that is off line
pub nobody_off : (s : State) → IsState s → (p : ℕ) → has s.online p ≡ false → task_on s p ≡ None
nobody_off s ok p off = of_occupant (task_on s p) refl
  where
    of_occupant : (occupant : Option ℕ) → task_on s p ≡ occupant → task_on s p ≡ None
    of_occupant None e = e
    of_occupant (Some u) e = absurd (true≢false (sym (effective_mask_online s u p (ok.allowed p u e)) ∙ off))

module _ (s : State) (ok : IsState s) (p : ℕ) (number : p < s.processors) (off : has s.online p ≡ false) (parts : Gone)
    (passes : GonePasses (state_with_online s p) p parts) where
  pub kept_by_online : HasCertificates s → HasCertificates (state_after_gone (state_with_online s p) parts)
  kept_by_online certificates = kept_by_filling (state_with_online s p) (IsState-state_with_online s p ok number) p (nobody_off s ok p off)
      (kept_without_new s certificates p) parts passes

  pub online_justified : LeavesNobody (state_after_gone (state_with_online s p) parts) parts.entered parts.back
  online_justified =
      filling_justified (state_with_online s p) (IsState-state_with_online s p ok number) p (nobody_off s ok p off) parts passes
