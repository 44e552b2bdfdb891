-- The certificates of all waiting tasks that are as urgent as a bound, taken together, are full: each of their
-- processors has a task that is as urgent, and whose mask stays inside. Take a placeable set of ready tasks. A task of
-- it that is put on a processor inside is paired with the occupant of that processor; one that is put outside does not
-- wait, and is paired with itself. No two are paired with one task: an occupant inside is itself put inside.
use Rattle.std.proofs.Common.{◌≡◌, ℕ, ◌≤◌, true, ◌&&◌, Some, refl, sym, ap, ◌∙◌, inl, inr, ◌⊎◌, IsTrue, arith, nat_le}
use Rattle.std.proofs.lemmas.Bool.{cases_Bool, cases_lt, true≢false, and_from, and_parts, le-leb, leb-true}
use Rattle.std.proofs.lemmas.Option.{same_Some}
use Rattle.affinity_mask.specs.ProcSet.{has}
use Rattle.strong_apa.specs.State.{State, IsState, IsWaiting, is_ready, is_linked, task_on, effective_mask, priority_of, task_count}
use Rattle.strong_apa.specs.Placement.{TaskTest, IsPlacement, IsSubset}
use Rattle.strong_apa.specs.Certificate.{IsCertificate}
use Rattle.strong_apa.proofs.Linked.{place_in, task_on-linked, is_linked-from_on, linked_number}
use Rattle.strong_apa.proofs.Unique.{ready_number}
use Rattle.strong_apa.specs.Certified.{HasCertificates}
use Rattle.strong_apa.specs.CertificateLaws.{HoldsWhereCertified, LinkedKeepsUp}
use Rattle.strong_apa.proofs.Counts.{IsInjection, count_below-injection, search_below}

pub waiting_decided : (s : State) (t : ℕ) → IsWaiting s t ⊎ (IsWaiting s t → ⊥)
waiting_decided s t = elim (cases_Bool (is_ready s t)) [
  | inl ready ↦ elim (cases_Bool (is_linked s t)) [
    | inl linked ↦ inr (λ waits. true≢false (sym linked ∙ waits.not_linked))
    | inr not_linked ↦ inl record { ready = ready; not_linked = not_linked }
  ]
  | inr absent ↦ inr (λ waits. true≢false (sym waits.ready ∙ absent))
]

module _ (s : State) (ok : IsState s) (certificates : HasCertificates s) where
  -- the certificate of a waiting task, and no matter what of another one
  abbrev set_for : (t : ℕ) → IsWaiting s t ⊎ (IsWaiting s t → ⊥) → ℕ
  set_for t (inl waits) = (certificates t waits).0
  set_for t (inr other) = 0

  abbrev set_of : ℕ → ℕ
  set_of t = set_for t (waiting_decided s t)

  certified_by : (t : ℕ) → IsWaiting s t → IsCertificate s t (set_of t)
  certified_by t waits = go (waiting_decided s t)
    where
      go : (d : IsWaiting s t ⊎ (IsWaiting s t → ⊥)) → IsCertificate s t (set_for t d)
      go (inl w) = (certificates t w).1
      go (inr other) = absurd (other waits)

  module _ (bound : ℕ) where
    -- the processor is in the certificate of a waiting task that is as urgent as the bound
    record IsInside (p : ℕ) : Type 0 where
      task : ℕ
      waits : IsWaiting s task
      urgent : priority_of s task ≤ bound
      there : IsTrue (has (set_of task) p)

    inside_by_task : (p t : ℕ) → (IsWaiting s t × (priority_of s t ≤ bound) × IsTrue (has (set_of t) p))
        ⊎ (IsWaiting s t × (priority_of s t ≤ bound) × IsTrue (has (set_of t) p) → ⊥)
    inside_by_task p t = elim (waiting_decided s t) [
      | inl waits ↦ elim (cases_lt bound (priority_of s t)) [
        | inl late ↦ inr (λ h. let le = h.1 in omega arith)
        | inr urgent ↦ elim (cases_Bool (has (set_of t) p)) [
          | inl there ↦ inl (waits, urgent, there)
          | inr elsewhere ↦ inr (λ h. true≢false (sym h.2 ∙ elsewhere))
        ]
      ]
      | inr other ↦ inr (λ h. other h.0)
    ]

    inside_decided : (p : ℕ) → IsInside p ⊎ (IsInside p → ⊥)
    inside_decided p = elim (search_below (λ t. IsWaiting s t × (priority_of s t ≤ bound) × IsTrue (has (set_of t) p)) (task_count s)
        (λ t lt. inside_by_task p t)) [
          | inl found ↦ inl record { task = found.0; waits = found.2.0; urgent = found.2.1; there = found.2.2 }
          | inr none ↦ inr (λ inside. none inside.task (ready_number s ok inside.task inside.waits.ready)
              (inside.waits, inside.urgent, inside.there))
        ]

    -- inside, each processor has a task that is as urgent as the bound, and whose mask stays inside
    record HasOccupant (p : ℕ) : Type 0 where
      task : ℕ
      on : task_on s p ≡ Some task
      urgent : priority_of s task ≤ bound
      stays : (q : ℕ) → IsTrue (has (effective_mask s task) q) → IsInside q

    occupant_inside : (p : ℕ) → IsInside p → HasOccupant p
    occupant_inside p inside =
        let held = (certified_by inside.task inside.waits).occupied p inside.there in
        record {
          task = held.0;
          on = held.1;
          urgent = (let more_urgent = held.2 in let urgent = inside.urgent in omega arith);
          stays = λ q h. record { task = inside.task; waits = inside.waits; urgent = inside.urgent; there = held.3 q h };
        }

    module _ (B : TaskTest) (subset : IsSubset B (is_ready s)) (place : ℕ → ℕ) (placed : IsPlacement s B place) where
      -- whom the placement puts outside is linked
      linked_outside : (t : ℕ) → B t ≡ true → priority_of s t ≤ bound → (IsInside (place t) → ⊥) → is_linked s t ≡ true
      linked_outside t in_B urgent outside = elim (cases_Bool (is_linked s t)) [
        | inl linked ↦ linked
        | inr not_linked ↦
            let waits : IsWaiting s t = record { ready = subset t in_B; not_linked = not_linked } in
            absurd (outside record {
              task = t;
              waits = waits;
              urgent = urgent;
              there = (certified_by t waits).within (place t)
                  (placed.allowed t in_B);
            })
      ]

      -- a linked task for each task of B: the occupant of its place inside, itself outside
      abbrev partner_at : (t : ℕ) → IsInside (place t) ⊎ (IsInside (place t) → ⊥) → ℕ
      partner_at t (inl inside) = (occupant_inside (place t) inside).task
      partner_at t (inr outside) = t

      abbrev partner : ℕ → ℕ
      partner t = partner_at t (inside_decided (place t))

      record IsPartner (t u : ℕ) : Type 0 where
        linked : is_linked s u ≡ true
        urgent : priority_of s u ≤ bound
        which : (IsInside (place t) × (task_on s (place t) ≡ Some u)) ⊎ ((IsInside (place t) → ⊥) × (u ≡ t))

      is_partner : (t : ℕ) → B t ≡ true → priority_of s t ≤ bound → IsPartner t (partner t)
      is_partner t in_B urgent = go (inside_decided (place t))
        where
          go : (d : IsInside (place t) ⊎ (IsInside (place t) → ⊥)) → IsPartner t (partner_at t d)
          go (inl inside) = let occupant = occupant_inside (place t) inside in record {
            linked = is_linked-from_on s (place t) occupant.task occupant.on;
            urgent = occupant.urgent;
            which = inl (inside, occupant.on);
          }
          go (inr outside) = record { linked = linked_outside t in_B urgent outside; urgent = urgent; which = inr (outside, refl) }

      -- the occupant of a place inside is put inside
      put_inside : (t u : ℕ) → IsInside (place t) → task_on s (place t) ≡ Some u → B u ≡ true → IsInside (place u)
      put_inside t u inside on in_B =
          let occupant = occupant_inside (place t) inside in
          let same : occupant.task ≡ u = same_Some occupant.task u (sym occupant.on ∙ on) in
          occupant.stays (place u) (rw same (placed.allowed u in_B))

      partners_differ : (t u : ℕ) → B t ≡ true → B u ≡ true → (a b : ℕ) → IsPartner t a → IsPartner u b → a ≡ b → t ≡ u
      partners_differ t u in_B in_B' a b p q e = go p.which q.which
        where
          go : (IsInside (place t) × (task_on s (place t) ≡ Some a)) ⊎ ((IsInside (place t) → ⊥) × (a ≡ t))
              → (IsInside (place u) × (task_on s (place u) ≡ Some b)) ⊎ ((IsInside (place u) → ⊥) × (b ≡ u)) → t ≡ u
          go (inl x) (inl y) = placed.apart t u in_B in_B' (ok.once (place t) (place u) b (rw e at x.1) y.1)
          go (inl x) (inr y) = absurd (y.0 (put_inside t u x.0 (x.1 ∙ ap (λ (n : ℕ). Some n) (e ∙ y.1)) in_B'))
          go (inr x) (inl y) = absurd (x.0 (put_inside u t y.0 (y.1 ∙ ap (λ (n : ℕ). Some n) (sym e ∙ x.1)) in_B))
          go (inr x) (inr y) = sym x.1 ∙ e ∙ y.1

      partners : IsInjection (λ t. B t && nat_le (priority_of s t) bound) (task_count s)
          (λ t. is_linked s t && nat_le (priority_of s t) bound) (task_count s) partner
      partners = record {
        below = λ t lt h. let u = is_partner t (and_parts _ _ h).0 (leb-true _ _ (and_parts _ _ h).1) in
            linked_number s (place_in (partner t) s.on) (partner t) ok (task_on-linked s (partner t) u.linked);
        passes = λ t lt h. let u = is_partner t (and_parts _ _ h).0 (leb-true _ _ (and_parts _ _ h).1) in
            and_from _ _ u.linked (le-leb _ _ u.urgent);
        apart = λ t u lt lu h k. partners_differ t u (and_parts _ _ h).0 (and_parts _ _ k).0 (partner t) (partner u)
            (is_partner t (and_parts _ _ h).0 (leb-true _ _ (and_parts _ _ h).1))
            (is_partner u (and_parts _ _ k).0 (leb-true _ _ (and_parts _ _ k).1));
      }

pub linked_keeps_up : HoldsWhereCertified LinkedKeepsUp
linked_keeps_up s ok certificates B subset placeable bound =
    count_below-injection _ _ _ _ _ (partners s ok certificates bound B subset placeable.0 placeable.1)
