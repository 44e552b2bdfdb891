-- A processor has become idle, and others fill it. Before, each waiting task had a certificate without it: one for the
-- state in which the processor does not count. Afterwards each has one again, by whatever chain somebody comes in. Where a
-- task may run on no processor of the set, into which no shift leads, the part of its certificate outside that set is one
-- still. Where it may, and a more urgent task comes in, the certificates of both and the processor, taken together, are one.
use Rattle.std.proofs.Common.{◌≡◌, ◌≢◌, ℕ, ◌+◌, ◌%◌, ◌<◌, min, false, not, ◌&&◌, List, reverse, bit_or, bit_and, bit_xor, nat_eq, Option}
use Rattle.std.proofs.Common.{Some, None, refl, sym, ap, ◌∙◌, subst, inl, inr, ◌⊎◌, IsTrue, arith, le_antisymm, eq-eqb, eqb-true}
use Rattle.std.specs.Int.{bit_at}
use Rattle.std.proofs.lemmas.Bool.{cases_eq, cases_lt, cases_Bool, true≢false, and_parts, and_from, and_right, or_left, or_right, or_cases}
use Rattle.std.proofs.lemmas.Bool.{not-true, not_from_false}
use Rattle.std.proofs.lemmas.Option.{same_Some}
use Rattle.std.proofs.lemmas.Nat.Bits.{bit_at_xor, bit_at_and, bit_at-lt}
use Rattle.affinity_mask.specs.ProcSet.{has, with_member, Within}
use Rattle.affinity_mask.proofs.Sets.{has-with_member}
use Rattle.strong_apa.specs.declared.reply.Gone.{Gone}
use Rattle.strong_apa.specs.State.{State, IsState, IsWaiting, IsMoreUrgent, effective_mask, task_on, priority_of, state_with_offline}
use Rattle.strong_apa.specs.Chain.{IsChainOf, IsSimple, CanEnterAt, state_after_shift}
use Rattle.strong_apa.specs.Certificate.{IsCertificate}
use Rattle.strong_apa.specs.Step.{IsNobodyInto, IsMostUrgentInto}
use Rattle.strong_apa.specs.History.{state_after_entering, state_after_gone}
use Rattle.strong_apa.proofs.Changes.{effective_mask-left}
use Rattle.strong_apa.proofs.Paths.{IsChainOf-reverse}
use Rattle.strong_apa.proofs.Simple.{IsSimple-reverse}
use Rattle.strong_apa.proofs.Unique.{ready_number}
use Rattle.strong_apa.specs.Held.{IsHeldAgainst}
use Rattle.strong_apa.specs.Certified.{HasCertificates}
use Rattle.strong_apa.specs.Justification.{LeavesNobody}
use Rattle.strong_apa.specs.Passing.{IsBackClosed, EnteringPasses, GonePasses}
use Rattle.strong_apa.proofs.Closed.{IsClosed, IsCertificate-closed}
use Rattle.strong_apa.proofs.KeptByShifts.{waited, certificate_past, full_then, certificate_joined}

-- ---- the members of a set that are not in another one
abbrev pub difference : ℕ → ℕ → ℕ
difference X Y = bit_xor X (bit_and X Y)

odd_of : (x y : ℕ) → x < 2 → y < 2 → nat_eq ((x + min x y) % 2) 1 ≡ (nat_eq x 1 && not (nat_eq y 1))
odd_of x y p q = elim (cases_lt x 1) [
  | inl a ↦ (let x0 : x ≡ 0 = omega arith in let m : min x y ≡ 0 = omega arith in rw (m, x0) refl)
  | inr a ↦ (let x1 : x ≡ 1 = omega arith in elim (cases_lt y 1) [
    | inl b ↦ (let y0 : y ≡ 0 = omega arith in rw (x1, y0) refl)
    | inr b ↦ (let y1 : y ≡ 1 = omega arith in rw (x1, y1) refl)
  ])
]

pub has-difference : (X Y q : ℕ) → has (difference X Y) q ≡ (has X q && not (has Y q))
unfolding has
has-difference X Y q =
    rw (bit_at_xor X (bit_and X Y) q, bit_at_and X Y q) (odd_of (bit_at X q) (bit_at Y q) (bit_at-lt X q) (bit_at-lt Y q))

-- p has become idle in s, and where it does not count, each waiting task has a certificate
module _ (s : State) (ok : IsState s) (p : ℕ) (idle : task_on s p ≡ None) (certificates : HasCertificates (state_with_offline s p)) where
  abbrev without : State
  without = state_with_offline s p

  certificate_without : (v : ℕ) → IsWaiting s v → (set : ℕ) × IsCertificate without v set
  certificate_without v waits = certificates v record { ready = waits.ready; not_linked = waits.not_linked }

  -- ---- a set and p
  in_with : (X q : ℕ) → (q ≢ p → IsTrue (has X q)) → IsTrue (has (with_member X p) q)
  in_with X q but = has-with_member X p q ∙ elim (cases_eq q p) [
    | inl same ↦ or_right (has X q) (nat_eq q p) (eq-eqb q p same)
    | inr other ↦ or_left (has X q) (nat_eq q p) (but other)
  ]

  from_with : (X q : ℕ) → IsTrue (has (with_member X p) q) → IsTrue (has X q) ⊎ (q ≡ p)
  from_with X q inside = elim (or_cases (has X q) (nat_eq q p) (sym (has-with_member X p q) ∙ inside)) [
    | inl there ↦ inl there
    | inr same ↦ inr (eqb-true q p same)
  ]

  within_with : (u X : ℕ) → Within (effective_mask without u) X → Within (effective_mask s u) (with_member X p)
  within_with u X within q allowed = in_with X q (λ other. within q (effective_mask-left s p u q allowed other))

  module _ (back : ℕ) (back_first : IsTrue (has back p)) (back_next : IsBackClosed s back) where
    outside_differs : (q : ℕ) → (IsTrue (has back q) → ⊥) → q ≢ p
    outside_differs q outside same = outside (subst (λ (r : ℕ). IsTrue (has back r)) (sym same) back_first)

    -- the part of a certificate outside the set, of a task that may not run in it
    certificate_less_back : (v X : ℕ) → IsCertificate without v X → ((q : ℕ) → IsTrue (has back q) → CanEnterAt s v q → ⊥)
        → IsCertificate s v (difference X back)
    certificate_less_back v X certificate cannot_enter = record {
      within = λ q allowed.
          let outside : IsTrue (has back q) → ⊥ = λ in_back. cannot_enter q in_back allowed in
          still_in q (certificate.within q (effective_mask-left s p v q allowed (outside_differs q outside))) outside;
      occupied = λ q inside.
          let parts = and_parts (has X q) (not (has back q)) (sym (has-difference X back q) ∙ inside) in
          let occupant = certificate.occupied q parts.0 in (
            occupant.0,
            occupant.1,
            occupant.2,
            λ r allowed.
                let outside : IsTrue (has back r) → ⊥ = λ in_back. true≢false (sym (back_next q r in_back (occupant.0, occupant.1, allowed))
                ∙ not-true (has back q) parts.1) in
                still_in r (occupant.3 r (effective_mask-left s p occupant.0 r allowed (outside_differs r outside))) outside,
          );
    }
      where
        still_in : (q : ℕ) → IsTrue (has X q) → (IsTrue (has back q) → ⊥) → IsTrue (has (difference X back) q)
        still_in q inside outside = has-difference X back q
            ∙ and_from (has X q) (not (has back q)) inside (not_from_false (has back q) (elim (cases_Bool (has back q)) [
              | inl h ↦ absurd (outside h)
              | inr h ↦ h
            ]))

    kept_by_nobody : IsNobodyInto s back → HasCertificates s
    kept_by_nobody nobody_enters v h =
        let old = certificate_without v h in
        (difference old.0 back, certificate_less_back v old.0 old.1 (λ q in_back allowed. nobody_enters v q h in_back allowed))

    -- w enters, and is shifted along a chain to p
    module _ (w : ℕ) (entering : IsMostUrgentInto s back w) (chain : List ℕ) (is_chain : IsChainOf s w chain p)
        (simple : IsSimple chain) where
      -- a less urgent task
      certificate_with : (v X Y : ℕ) → IsCertificate without v X → IsCertificate without w Y → IsMoreUrgent s w v
          → IsCertificate (state_after_shift s w chain) v (bit_or (with_member X p) (with_member Y p))
      certificate_with v X Y of_v of_w urgent =
          certificate_joined s ok w entering.waits chain p is_chain simple (with_member Y p) closed (within_with w Y of_w.within) v
          (with_member X p) (within_with v X of_v.within) alone
          (full_then s ok w entering.waits chain p is_chain simple (with_member Y p) closed (within_with w Y of_w.within) v occupied urgent
          (λ y u inside on _. more_urgent y u inside on))
        where
          closed : IsClosed s (with_member Y p)
          closed q u inside on = elim (from_with Y q inside) [
            | inl there ↦ within_with u Y (IsCertificate-closed without w Y of_w q u there on)
            | inr same ↦ absurd (let nobody : task_on s q ≡ None = ap (task_on s) same ∙ idle in cc)
          ]

          -- a processor of X alone is not p
          alone : (q : ℕ) → IsTrue (has (with_member X p) q) → has (with_member Y p) q ≡ false → IsHeldAgainst s v (with_member X p) q
          alone q inside outside = elim (from_with X q inside) [
            | inl there ↦ (let occupant = of_v.occupied q there in
                (occupant.0, occupant.1, occupant.2, within_with occupant.0 X occupant.3))
            | inr same ↦ absurd (true≢false (sym (in_with Y q (λ other. absurd (other same))) ∙ outside))
          ]

          occupied : (q : ℕ) → IsTrue (has (with_member Y p) q) → (task_on s q ≢ None) ⊎ (q ≡ p)
          occupied q inside = elim (from_with Y q inside) [
            | inl there ↦ inl (λ nobody. let occupant = of_w.occupied q there in let on = occupant.1 in cc)
            | inr same ↦ inr same
          ]

          more_urgent : (y u : ℕ) → IsTrue (has (with_member Y p) y) → task_on s y ≡ Some u → IsMoreUrgent s u v
          more_urgent y u inside on = elim (from_with Y y inside) [
            | inl there ↦ (
                let occupant = of_w.occupied y there in
                let lt : IsMoreUrgent s u w = subst (λ (z : ℕ). IsMoreUrgent s z w) (same_Some occupant.0 u (sym occupant.1 ∙ on))
                occupant.2 in
                omega arith
                )
            | inr same ↦ absurd (let nobody : task_on s y ≡ None = ap (task_on s) same ∙ idle in cc)
          ]

      -- a more urgent task, which cannot enter
      certificate_apart : (v X : ℕ) → IsCertificate without v X → ((q : ℕ) → IsTrue (has back q) → CanEnterAt s v q → ⊥)
          → IsCertificate (state_after_shift s w chain) v (difference X back)
      certificate_apart v X certificate cannot_enter =
          certificate_past s ok w entering.waits chain p is_chain simple v (difference X back)
          (certificate_less_back v X certificate cannot_enter)
          (has-difference X back p ∙ and_right (has X p) (not (has back p)) (ap not back_first))

      kept_by_entering : HasCertificates (state_after_shift s w chain)
      kept_by_entering v h =
          let before = waited s ok w entering.waits chain p is_chain simple v h in
          elim before.1 [
            | inl waits ↦
                let of_v = certificate_without v waits in
                let of_w = certificate_without w entering.waits in
                elim (cases_lt (priority_of s w) (priority_of s v)) [
                  | inl urgent ↦ (
                    bit_or (with_member of_v.0 p) (with_member of_w.0 p),
                    certificate_with v of_v.0 of_w.0 of_v.1 of_w.1 urgent,
                  )
                  | inr as_late ↦ (
                    difference of_v.0 back,
                    certificate_apart v of_v.0 of_v.1 (λ q in_back allowed.
                        let first = entering.most_urgent v q waits in_back allowed in
                        before.0 (ok.distinct v w (ready_number s ok v waits.ready) (ready_number s ok w entering.waits.ready)
                        (le_antisymm as_late first))),
                  )
                ]
            | inr out ↦ absurd (let nobody = idle in cc)
          ]

    kept_by_entry : (entered : Option ℕ) (chain : List ℕ) → EnteringPasses s p entered chain back
        → HasCertificates (state_after_entering s entered chain)
    kept_by_entry None chain enters = kept_by_nobody enters.0
    kept_by_entry (Some w) chain enters = let end = enters.1 in kept_by_entering w enters.0 (reverse chain)
        (IsChainOf-reverse s p w chain end.0 end.1 end.2) (IsSimple-reverse chain enters.2)

  pub kept_by_filling : (gone : Gone) → GonePasses s p gone → HasCertificates (state_after_gone s gone)
  kept_by_filling gone passes = kept_by_entry gone.back passes.has_place passes.closed gone.entered gone.chain passes.enters

-- who still waits and may run on a processor of the set is less urgent than the one that came in
entry_justified : (s : State) → IsState s → (p : ℕ) → task_on s p ≡ None → (back : ℕ) (entered : Option ℕ) (chain : List ℕ)
    → EnteringPasses s p entered chain back → LeavesNobody (state_after_entering s entered chain) entered back
entry_justified s ok p idle back None chain enters = enters.0
entry_justified s ok p idle back (Some w) chain enters = λ v q h urgent in_back allowed.
    let end = enters.1 in
    let before = waited s ok w enters.0.waits (reverse chain) p (IsChainOf-reverse s p w chain end.0 end.1 end.2)
    (IsSimple-reverse chain enters.2) v h in
    elim before.1 [
      | inl waits ↦ (let late = enters.0.most_urgent v q waits in_back allowed in absurd (omega arith))
      | inr out ↦ absurd (let nobody = idle in cc)
    ]

pub filling_justified : (s : State) → IsState s → (p : ℕ) → task_on s p ≡ None → (gone : Gone) → GonePasses s p gone
    → LeavesNobody (state_after_gone s gone) gone.entered gone.back
filling_justified s ok p idle gone passes = entry_justified s ok p idle gone.back gone.entered gone.chain passes.enters
