-- A task is admitted: it waits then, with a certificate, or a shift along a chain to an idle processor links it, which
-- puts nobody out and leaves each waiting task a certificate.
use Rattle.std.proofs.Common.{◌≡◌, ℕ, ◌<◌, true, false, ◌||◌, List, nat_eq, Some, refl, sym, ap, ◌∙◌, inl, inr, ◌⊎◌, ne_eqb, eq-eqb}
use Rattle.std.proofs.Common.{eqb-true, get_or-set_other}
use Rattle.std.proofs.Math.Bool.{or-false}
use Rattle.std.proofs.lemmas.Bool.{cases_eq, true≢false, or_cases, or_left, or_right}
use Rattle.std.proofs.lemmas.Option.{same_Some}
use Rattle.affinity_mask.specs.ProcSet.{empty}
use Rattle.affinity_mask.proofs.Sets.{has-zero}
use Rattle.strong_apa.specs.State.{State, IsState, HasSameTasks, HasSameMasks, IsWaiting, task_count, is_ready, is_linked, task_on}
use Rattle.strong_apa.specs.State.{state_with_ready, IsMoreUrgent}
use Rattle.strong_apa.specs.Chain.{state_after_shift}
use Rattle.strong_apa.specs.Certificate.{IsCertificate}
use Rattle.strong_apa.proofs.Linked.{place_in, task_on-linked, is_linked-from_on, not_on}
use Rattle.strong_apa.proofs.Shifts.{occupant_from, task_on-state_after_shift}
use Rattle.strong_apa.proofs.Simple.{Avoids-none}
use Rattle.reach_certificate.specs.Admission.{Admitted}
use Rattle.strong_apa.specs.Certified.{HasCertificates}
use Rattle.reach_certificate.specs.Search.{IsWay, IsFull}
use Rattle.strong_apa.proofs.KeptByArrivals.{others_have}
use Rattle.strong_apa.proofs.KeptByShifts.{linked_or_out, kept_by_placing}
use Rattle.affinity_mask.proofs.Unions.{same_answer}

module _ (old : State) (t : ℕ) (number : t < task_count old) (absent : is_ready old t ≡ false) (ok : IsState (state_with_ready old t))
    (waits : IsWaiting (state_with_ready old t) t)
    (least_urgent : (u : ℕ) → is_ready old u ≡ true → IsMoreUrgent old u t) (certificates : HasCertificates old) where
  abbrev s : State
  s = state_with_ready old t

  ready_again : (u : ℕ) → is_ready s u ≡ (is_ready old u || nat_eq u t)
  ready_again u = elim (cases_eq u t) [
    | inl same ↦ rw same (waits.ready ∙ sym (or_right (is_ready old t) _ (eq-eqb t t refl)))
    | inr other ↦ get_or-set_other old.ready t u true false other ∙ rw (ne_eqb u t other) (sym (or-false (is_ready old u)))
  ]

  same_tasks : HasSameTasks old s
  same_tasks = record { processors = refl; priorities = refl }

  same_masks : HasSameMasks old s
  same_masks = record { masks = refl; online = refl }

  -- a linked task is more urgent than t
  linked_first : (p u : ℕ) → task_on s p ≡ Some u → IsMoreUrgent s u t
  linked_first p u on = least_urgent u (sym (get_or-set_other old.ready t u true false
      (λ e. not_on s p t waits.not_linked (on ∙ ap (λ (n : ℕ). Some n) e))) ∙ ok.linked_ready p u on)

  -- no shift leads out of a full set: it certifies t
  pub Admitted-full : (X : ℕ) → IsFull s t empty X → Admitted old t false s
  Admitted-full X full = record {
    tasks = same_tasks;
    masks = same_masks;
    ready = ready_again;
    linked = λ u. sym (or-false (is_linked old u));
    certificates = λ w waiting. elim (cases_eq w t) [
      | inl same ↦ rw same (X, certificate)
      | inr other ↦ others_have old certificates t w waiting other
    ];
  }
    where
      certificate : IsCertificate s t X
      certificate = record {
        within = full.mask;
        occupied = λ p inside. elim (full.occupied p inside) [
          | inl visited ↦ absurd (true≢false (sym visited ∙ has-zero p))
          | inr held ↦ (held.0, held.1, linked_first p held.0 held.1, held.2)
        ];
      }

  module _ (chain : List ℕ) (way : IsWay s t empty chain) where
    abbrev new : State
    new = state_after_shift s t chain

    abbrev end : ℕ
    end = way.ends_idle.0

    -- t and each linked task are linked then
    linked_then : (u : ℕ) → (t ≡ u) ⊎ (is_linked s u ≡ true) → is_linked new u ≡ true
    linked_then u before = elim (linked_or_out s ok t waits chain end way.ends_idle.1 way.simple u before) [
      | inl linked ↦ linked
      | inr out ↦ absurd (let e = sym way.ends_idle.2.1 ∙ out in cc)
    ]

    linked_either : (u : ℕ) → is_linked new u ≡ (is_linked old u || nat_eq u t)
    linked_either u = same_answer _ _
        (λ linked. elim (occupant_from s (λ y. ⊥) (Some t) chain (place_in u new.on) u (Avoids-none chain way.simple) (λ v. v)
        (task_on-state_after_shift s t chain (place_in u new.on) u (task_on-linked new u linked))) [
          | inl it ↦ or_right (is_linked old u) _ (eq-eqb u t (sym (same_Some t u it)))
          | inr there ↦ or_left (is_linked old u) _ (is_linked-from_on old there.0 u there.2)
        ])
        (λ either. elim (or_cases (is_linked old u) _ either) [
          | inl linked ↦ linked_then u (inr linked)
          | inr it ↦ linked_then u (inl (sym (eqb-true u t it)))
        ])

    pub Admitted-way : Admitted old t true new
    Admitted-way = record {
      tasks = record { processors = refl; priorities = refl };
      masks = record { masks = refl; online = refl };
      ready = ready_again;
      linked = linked_either;
      certificates = kept_by_placing s ok t waits chain end way.ends_idle.1 way.simple (others_have old certificates t) way.ends_idle.2.1;
    }
