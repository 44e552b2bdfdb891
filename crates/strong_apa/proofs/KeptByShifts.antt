-- A waiting task is shifted along a simple chain of it. Where the chain ends on an idle processor, or on one whose task
-- then waits behind a full set, each waiting task has a certificate again.
use Rattle.std.proofs.Common.{◌≡◌, ◌≢◌, ℕ, ◌<◌, ◌≤◌, true, false, List, bit_or, Some, None, sym, ap, ◌∙◌, subst, inl, inr, ◌⊎◌, IsTrue}
use Rattle.std.proofs.Common.{arith, le_antisymm}
use Rattle.std.proofs.lemmas.Bool.{cases_Bool, cases_lt, true≢false, or_left, or_right, or_cases}
use Rattle.std.proofs.lemmas.Option.{same_Some}
use Rattle.std.proofs.lemmas.List.FromFn.{get_or-map-range_with_len}
use Rattle.affinity_mask.specs.ProcSet.{has, Within}
use Rattle.affinity_mask.proofs.Sets.{has-or}
use Rattle.strong_apa.specs.State.{State, IsState, IsWaiting, IsMoreUrgent, is_linked, task_on, effective_mask, priority_of}
use Rattle.strong_apa.specs.Chain.{IsChainOf, IsSimple, occupant_after_shift, state_after_shift}
use Rattle.strong_apa.specs.Certificate.{IsCertificate}
use Rattle.strong_apa.proofs.Linked.{place_in, task_on-linked, is_linked-from_on, not_on, not_linked-from_on, linked_number}
use Rattle.strong_apa.proofs.Masks.{effective_mask_below}
use Rattle.strong_apa.proofs.Shifts.{occupant_allowed, handed_on-end, task_on-state_after_shift, task_put_out-end}
use Rattle.strong_apa.proofs.Simple.{Avoids-none}
use Rattle.strong_apa.specs.Held.{IsHeldAgainst}
use Rattle.strong_apa.specs.Certified.{HasCertificates}
use Rattle.strong_apa.specs.Justification.{WaitsBehind}
use Rattle.strong_apa.proofs.Closed.{IsClosed, IsCertificate-closed, chain_inside, chain_past, chain_within, chain_fills, chain_puts_out}
use Rattle.strong_apa.proofs.Closed.{occupant_within, still_somewhere}

-- each processor of the set is held against v
abbrev pub IsFullAbove : State → ℕ → ℕ → Type 0
IsFullAbove s v R = (p : ℕ) → IsTrue (has R p) → IsHeldAgainst s v R p

-- each waiting task but t has a certificate
abbrev pub OthersHaveCertificates : State → ℕ → Type 0
OthersHaveCertificates s t = (v : ℕ) → IsWaiting s v → v ≢ t → (set : ℕ) × IsCertificate s v set

within_first : (X R Y : ℕ) → Within X R → Within X (bit_or R Y)
within_first X R Y within p h = has-or R Y p ∙ or_left (has R p) (has Y p) (within p h)

within_second : (X R Y : ℕ) → Within X Y → Within X (bit_or R Y)
within_second X R Y within p h = has-or R Y p ∙ or_right (has R p) (has Y p) (within p h)

module _ (s : State) (ok : IsState s) (t : ℕ) (waits : IsWaiting s t) (chain : List ℕ) (q : ℕ) (is_chain : IsChainOf s t chain q)
    (simple : IsSimple chain) where
  -- whoever comes to a processor is on it then
  occupant_comes : (p u : ℕ) → occupant_after_shift s (Some t) chain p ≡ Some u → task_on (state_after_shift s t chain) p ≡ Some u
  occupant_comes p u e =
      let below : p < s.processors = effective_mask_below s ok u p (occupant_allowed s ok t chain q is_chain p u e) in
      get_or-map-range_with_len (occupant_after_shift s (Some t) chain) 0 s.processors p p None below (omega arith) ∙ e

  -- t and each linked task are linked then, but for the one on which the chain ends
  pub linked_or_out : (u : ℕ) → (t ≡ u) ⊎ (is_linked s u ≡ true) → (is_linked (state_after_shift s t chain) u ≡ true)
      ⊎ (task_on s q ≡ Some u)
  linked_or_out u before = elim (still_somewhere s (λ y. ⊥) (Some t) chain u (Avoids-none chain simple) (elim before [
    | inl it ↦ inl (ap (λ (n : ℕ). Some n) it)
    | inr linked ↦ inr (place_in u s.on, (λ none. none), task_on-linked s u linked)
  ])) [
    | inl there ↦ inl (is_linked-from_on (state_after_shift s t chain) there.0 u (occupant_comes there.0 u there.2))
    | inr out ↦ inr (sym (handed_on-end s t chain q is_chain ∙ task_put_out-end s t chain q is_chain) ∙ out)
  ]

  -- who waits then is not t, and waited before or was displaced
  pub waited : (v : ℕ) → IsWaiting (state_after_shift s t chain) v → (v ≢ t) × (IsWaiting s v ⊎ (task_on s q ≡ Some v))
  waited v h = (
    (λ same. elim (linked_or_out v (inl (sym same))) [
      | inl linked ↦ true≢false (sym linked ∙ h.not_linked)
      | inr out ↦ not_on s q t waits.not_linked (out ∙ ap (λ (n : ℕ). Some n) same)
    ]),
    elim (cases_Bool (is_linked s v)) [
      | inl linked ↦ elim (linked_or_out v (inr linked)) [
        | inl still ↦ absurd (true≢false (sym still ∙ h.not_linked))
        | inr out ↦ inr out
      ]
      | inr not_linked ↦ inl record { ready = h.ready; not_linked = not_linked }
    ],
  )

  -- a certificate in which the chain does not end stays one
  pub certificate_past : (v X : ℕ) → IsCertificate s v X → has X q ≡ false → IsCertificate (state_after_shift s t chain) v X
  certificate_past v X certificate past = record {
    within = certificate.within;
    occupied = λ p inside.
        let occupant = certificate.occupied p inside in (
          occupant.0,
          occupant_comes p occupant.0
              (chain_past s X (IsCertificate-closed s v X certificate) (Some t) t chain q is_chain past p inside ∙ occupant.1),
          occupant.2,
          occupant.3,
        );
  }

  -- ---- a closed set that has the mask of t, and with it the chain
  module _ (R : ℕ) (closed : IsClosed s R) (first : Within (effective_mask s t) R) where
    -- it is full then, where t and all who stay are more urgent than v
    pub full_then : (v : ℕ) → ((p : ℕ) → IsTrue (has R p) → (task_on s p ≢ None) ⊎ (p ≡ q)) → IsMoreUrgent s t v
        → ((y u : ℕ) → IsTrue (has R y) → task_on s y ≡ Some u → task_on s q ≢ Some u → IsMoreUrgent s u v)
        → IsFullAbove (state_after_shift s t chain) v R
    full_then v occupied urgent urgent_others p inside =
        let occupant = chain_fills s t chain q is_chain p (occupied p inside) in
        let u = occupant.0 in
        let stays : (IsMoreUrgent s u v) × Within (effective_mask s u)
        R = elim (occupant_within s R closed t first chain q is_chain p u inside occupant.1) [
          | inl it ↦ (subst (λ (z : ℕ). IsMoreUrgent s z v) it urgent, subst (λ (z : ℕ). Within (effective_mask s z) R) it first)
          | inr there ↦ (
            urgent_others there.0 u there.1 there.2
                (λ end. chain_puts_out s ok.once t chain q is_chain simple u
                (λ same. not_on s q t waits.not_linked (end ∙ ap (λ (n : ℕ). Some n) (sym same))) end p occupant.1),
            closed there.0 u there.1 there.2,
          )
        ] in
        (u, occupant_comes p u occupant.1, stays.0, stays.1)

    -- with it another set certifies v, where it has the mask of v, and certified v before wherever it stands alone
    pub certificate_joined : (v X : ℕ) → Within (effective_mask s v) X
        → ((p : ℕ) → IsTrue (has X p) → has R p ≡ false → IsHeldAgainst s v X p)
        → IsFullAbove (state_after_shift s t chain) v R → IsCertificate (state_after_shift s t chain) v (bit_or X R)
    certificate_joined v X within alone full = record {
      within = within_first (effective_mask s v) X R within;
      occupied = λ p inside. elim (cases_Bool (has R p)) [
        | inl in_R ↦ (let occupant = full p in_R in
            (occupant.0, occupant.1, occupant.2, within_second (effective_mask s occupant.0) X R occupant.3))
        | inr outside ↦
            let in_X : IsTrue (has X p) = elim (or_cases (has X p) (has R p) (sym (has-or X R p) ∙ inside))
            [ inl h ↦ h | inr h ↦ absurd (true≢false (sym h ∙ outside)) ] in
            let occupant = alone p in_X outside in (
              occupant.0,
              occupant_comes p occupant.0 (chain_within s R closed t first chain q is_chain p outside ∙ occupant.1),
              occupant.2,
              within_first (effective_mask s occupant.0) X R occupant.3,
            )
      ];
    }

  -- ---- the chain ends on the least urgent task of a closed set that is all occupied, and t is more urgent than that
  module _ (R : ℕ) (closed : IsClosed s R) (first : Within (effective_mask s t) R) (occupied : (p : ℕ) → IsTrue (has R p)
      → (u : ℕ) × (task_on s p ≡ Some u))
      (d : ℕ) (end : task_on s q ≡ Some d) (least_urgent : (p u : ℕ) → IsTrue (has R p) → task_on s p ≡ Some u
      → priority_of s u ≤ priority_of s d) (urgent : IsMoreUrgent s t d) where
    full_above_it : IsFullAbove (state_after_shift s t chain) d R
    full_above_it =
        full_then R closed first d (λ p inside. inl (λ nobody. let on = (occupied p inside).1 in cc)) urgent
        (λ y u inside on stays.
        let late = least_urgent y u inside on in
        elim (cases_lt (priority_of s u) (priority_of s d)) [
          | inl more_urgent ↦ more_urgent
          | inr as_late ↦ absurd (stays (end ∙ ap (λ (n : ℕ). Some n)
              (ok.distinct d u (linked_number s q d ok end) (linked_number s y u ok on) (le_antisymm as_late late))))
        ])

    -- then the set certifies that task, which waits
    pub certified_out : WaitsBehind (state_after_shift s t chain) d R
    certified_out = record {
      waits = record {
        ready = ok.linked_ready q d end;
        not_linked = not_linked-from_on (state_after_shift s t chain) d (λ p on.
            chain_puts_out s ok.once t chain q is_chain simple d
            (λ same. not_on s q t waits.not_linked (end ∙ ap (λ (n : ℕ). Some n) (sym same))) end p
            (task_on-state_after_shift s t chain p d on));
      };
      certified = record {
        within = closed q d (chain_inside s R closed t first chain q is_chain) end;
        occupied = full_above_it;
      };
    }

    -- it is more urgent than one whose certificate has its processor
    above_such : (w X : ℕ) → IsCertificate s w X → IsTrue (has X q) → IsFullAbove (state_after_shift s t chain) w R
    above_such w X certificate ends p inside =
        let at_end = certificate.occupied q ends in
        let d_urgent : IsMoreUrgent s d w = subst (λ (z : ℕ). IsMoreUrgent s z w) (same_Some at_end.0 d (sym at_end.1 ∙ end)) at_end.2 in
        let occupant = full_above_it p inside in
        (occupant.0, occupant.1, (let lt = occupant.2 in omega arith), occupant.3)

  -- ---- where the others had certificates
  module _ (others : OthersHaveCertificates s t) where
    -- it is enough that whoever had a certificate in which the chain ends has another one then, and so the displaced task
    kept_by_shift : ((v X : ℕ) → IsCertificate s v X → IsTrue (has X q) → (set : ℕ) × IsCertificate (state_after_shift s t chain) v set)
        → ((v : ℕ) → task_on s q ≡ Some v → (set : ℕ) × IsCertificate (state_after_shift s t chain) v set)
        → HasCertificates (state_after_shift s t chain)
    kept_by_shift met put_out v h =
        let before = waited v h in
        elim before.1 [
          | inl waited_before ↦
              let old = others v waited_before before.0 in
              elim (cases_Bool (has old.0 q)) [
                | inl ends ↦ met v old.0 old.1 ends
                | inr past ↦ (old.0, certificate_past v old.0 old.1 past)
              ]
          | inr out ↦ put_out v out
        ]

    -- the chain ends on an idle processor
    pub kept_by_placing : task_on s q ≡ None → HasCertificates (state_after_shift s t chain)
    kept_by_placing idle = kept_by_shift
        (λ v X certificate ends. absurd (let occupant = certificate.occupied q ends in let on = occupant.1 in cc))
        (λ v out. absurd (cc))

    -- the chain displaces the least urgent task of such a set
    module _ (R : ℕ) (closed : IsClosed s R) (first : Within (effective_mask s t) R) (occupied : (p : ℕ) → IsTrue (has R p)
        → (u : ℕ) × (task_on s p ≡ Some u))
        (d : ℕ) (end : task_on s q ≡ Some d) (least_urgent : (p u : ℕ) → IsTrue (has R p) → task_on s p ≡ Some u
        → priority_of s u ≤ priority_of s d) (urgent : IsMoreUrgent s t d) where
      pub kept_by_displacing : HasCertificates (state_after_shift s t chain)
      kept_by_displacing = kept_by_shift
          (λ v X certificate ends. (
            bit_or X R,
            certificate_joined R closed first v X certificate.within
                (λ p inside _. certificate.occupied p inside)
                (above_such R closed first occupied d end least_urgent urgent v X certificate ends),
          ))
          (λ v out. (
            R,
            subst (λ (z : ℕ). IsCertificate (state_after_shift s t chain) z R) (same_Some d v (sym end ∙ out))
                (certified_out R closed first occupied d end least_urgent urgent).certified,
          ))
