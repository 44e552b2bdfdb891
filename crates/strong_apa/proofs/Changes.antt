-- What stays when the mask of an absent task changes, and when a processor goes off line or comes on line.
use Rattle.std.proofs.Common.{◌≡◌, ◌≢◌, ℕ, ◌<◌, Bool, true, false, not, ◌&&◌, ◌||◌, ◌==◌, IsTrue, Some, None, refl, sym, ap, ◌∙◌, subst}
use Rattle.std.proofs.Common.{inl, inr, length-set, get_or-set_same, get_or-set_other, arith, ne_eqb}
use Rattle.std.proofs.lemmas.Bool.{cases_eq, true≢false, and_parts, lt-ltb}
use Rattle.affinity_mask.specs.ProcSet.{has, empty, all_below, intersection, with_member, without_member}
use Rattle.affinity_mask.proofs.Sets.{has-intersection, has-with_member, has-without_member, has-all_below}
use Rattle.task_set.specs.TaskSet.{IsMask}
use Rattle.strong_apa.specs.State.{State, IsState, task_count, task_on, is_ready, mask_of, effective_mask, state_with_mask}
use Rattle.strong_apa.specs.State.{state_with_online, state_with_offline}

-- ---- the mask of a task changes
module _ (s : State) (t mask : ℕ) where
  pub mask_of-other : (u : ℕ) → u ≢ t → mask_of (state_with_mask s t mask) u ≡ mask_of s u
  mask_of-other u other = get_or-set_other s.masks t u mask empty other

  pub effective_mask-other : (u : ℕ) → u ≢ t → effective_mask (state_with_mask s t mask) u ≡ effective_mask s u
  effective_mask-other u other = ap (λ (X : ℕ). intersection X s.online) (mask_of-other u other)

  module _ (ok : IsState s) where
    pub mask_of-changed : t < task_count s → mask_of (state_with_mask s t mask) t ≡ mask
    mask_of-changed number = get_or-set_same s.masks t mask empty (rw ok.masks_count number)

    -- whoever is linked is another task
    pub occupant_is_other : is_ready s t ≡ false → (p u : ℕ) → task_on s p ≡ Some u → u ≢ t
    occupant_is_other absent p u on same = true≢false (sym (ok.linked_ready p u on) ∙ ap (is_ready s) same ∙ absent)

    pub IsState-state_with_mask : t < task_count s → IsMask s.processors mask → is_ready s t ≡ false → IsState (state_with_mask s t mask)
    IsState-state_with_mask number lawful absent = record {
      processors = ok.processors;
      count = ok.count;
      masks_count = length-set s.masks t mask ∙ ok.masks_count;
      ready_count = ok.ready_count;
      on_count = ok.on_count;
      online = ok.online;
      masks = λ u known. elim (cases_eq u t) [
        | inl same ↦ rw (same, mask_of-changed number) lawful
        | inr other ↦ rw (mask_of-other u other) (ok.masks u known)
      ];
      distinct = ok.distinct;
      allowed = λ p u on. rw (effective_mask-other u (occupant_is_other absent p u on)) (ok.allowed p u on);
      once = ok.once;
      linked_ready = ok.linked_ready;
    }

-- ---- a processor goes off line or comes on line
module _ (s : State) (p : ℕ) where
  pub effective_mask-offline : (u q : ℕ) → has (effective_mask (state_with_offline s p) u) q ≡ (has (effective_mask s u) q && not (q == p))
  effective_mask-offline u q = rw (
    has-intersection (mask_of s u) (without_member s.online p) q,
    has-without_member s.online p q,
    has-intersection (mask_of s u) s.online q,
  ) (moved (has (mask_of s u) q) (has s.online q) (not (q == p)))
    where
      moved : (a b c : Bool) → (a && (b && c)) ≡ ((a && b) && c)
      moved a b c = grind arith

  pub effective_mask-online : (u q : ℕ) → has (effective_mask (state_with_online s p) u) q
      ≡ (has (mask_of s u) q && (has s.online q || (q == p)))
  effective_mask-online u q = rw (has-intersection (mask_of s u) (with_member s.online p) q, has-with_member s.online p q) refl

  -- whoever may run on a processor that is on line may still do so
  pub effective_mask-still : (u q : ℕ) → IsTrue (has (effective_mask s u) q) → IsTrue (has (effective_mask (state_with_online s p) u) q)
  effective_mask-still u q h =
      let parts = and_parts (has (mask_of s u) q) (has s.online q) (sym (has-intersection (mask_of s u) s.online q) ∙ h) in
      rw (effective_mask-online u q, parts.0, parts.1) refl

  -- and, but on p, when p goes off line
  pub effective_mask-left : (u q : ℕ) → IsTrue (has (effective_mask s u) q) → q ≢ p
      → IsTrue (has (effective_mask (state_with_offline s p) u) q)
  effective_mask-left u q h other = rw (effective_mask-offline u q, h, ne_eqb q p other) refl

  module _ (ok : IsState s) where
    pub IsState-state_with_offline : task_on s p ≡ None → IsState (state_with_offline s p)
    IsState-state_with_offline nobody = record {
      processors = ok.processors;
      count = ok.count;
      masks_count = ok.masks_count;
      ready_count = ok.ready_count;
      on_count = ok.on_count;
      online = λ q h. ok.online q (and_parts (has s.online q) (not (q == p)) (sym (has-without_member s.online p q) ∙ h)).0;
      masks = ok.masks;
      distinct = ok.distinct;
      allowed = λ q u on. effective_mask-left u q (ok.allowed q u on)
          (λ same. (let on' = subst (λ (r : ℕ). task_on s r ≡ Some u) same on in cc));
      once = ok.once;
      linked_ready = ok.linked_ready;
    }

    pub IsState-state_with_online : p < s.processors → IsState (state_with_online s p)
    IsState-state_with_online number = record {
      processors = ok.processors;
      count = ok.count;
      masks_count = ok.masks_count;
      ready_count = ok.ready_count;
      on_count = ok.on_count;
      online = λ q h. within q (sym (has-with_member s.online p q) ∙ h);
      masks = ok.masks;
      distinct = ok.distinct;
      allowed = λ q u on. effective_mask-still u q (ok.allowed q u on);
      once = ok.once;
      linked_ready = ok.linked_ready;
    }
      where
        or_false : (a : Bool) → (a || false) ≡ true → a ≡ true
        or_false a e = grind arith

        within : (q : ℕ) → (has s.online q || (q == p)) ≡ true → IsTrue (has (all_below s.processors) q)
        within q h = elim (cases_eq q p) [
          | inl same ↦ rw (same, has-all_below s.processors p) (lt-ltb p s.processors number)
          | inr other ↦ ok.online q (let e = (rw (ne_eqb q p other) at h) in or_false (has s.online q) e)
        ]
