-- Say that t is in the best set of R, and not in that of a smaller set to which it belongs. A set X of processors certifies
-- that t is left out there. Of the best set of R, let those whom its placement puts on X make way for the occupants of X: no
-- fewer tasks are placed then, all more urgent than t. But the best set keeps up with every placeable one.
use Rattle.std.proofs.Common.{◌≡◌, ℕ, suc, ◌-◌, ◌<◌, ◌≤◌, Bool, true, false, not, ◌&&◌, ◌||◌, ◌⊎◌, Some, if◌then◌else◌, nat_le, nat_lt}
use Rattle.std.proofs.Common.{refl, sym, ap, ◌∙◌, subst, inl, inr, IsTrue, arith}
use Rattle.std.proofs.lemmas.Bool.{cases_Bool, cases_eq, cases_lt, true≢false, and_from, and_right, and_parts, or_left, or_right, or_cases}
use Rattle.std.proofs.lemmas.Bool.{le-leb, lt-leb, leb-true, lt-ltb}
use Rattle.affinity_mask.specs.ProcSet.{has, Within}
use Rattle.strong_apa.specs.State.{State, IsState, IsWaiting, task_count, task_on, is_linked, priority_of, effective_mask}
use Rattle.strong_apa.specs.Placement.{TaskTest, IsSubset, IsPlacement, IsBest}
use Rattle.strong_apa.specs.Certificate.{IsCertificate}
use Rattle.strong_apa.proofs.Counts.{count_below, count_below-agree, count_below-one_more, IsInjection, count_below-injection}
use Rattle.strong_apa.proofs.Fullness.{linked_keeps_up}
use Rattle.strong_apa.proofs.Masks.{effective_mask_below}
use Rattle.scheduling_laws.specs.Staying.{BestStays}
use Rattle.scheduling_laws.proofs.PlacedState.{who, placed_state, ready_is, on_is, linked_is, placed_ok, placed_certificates}

-- the tasks that count have the same priorities in both states. The processors of their effective masks in the first state are in those of
-- the second one, and there are no others among its processors, but for the least urgent task
pub record IsNarrower (s s' : State) (tasks : TaskTest) : Type 0 where
  pub priority : (t : ℕ) → tasks t ≡ true → priority_of s' t ≡ priority_of s t
  pub within : (t : ℕ) → tasks t ≡ true → (p : ℕ) → has (effective_mask s t) p ≡ true
      → (has (effective_mask s' t) p && nat_lt p s.processors) ≡ true
  pub all : (t u : ℕ) → tasks t ≡ true → tasks u ≡ true → priority_of s t < priority_of s u → (p : ℕ)
      → (has (effective_mask s' t) p && nat_lt p s.processors) ≡ true → has (effective_mask s t) p ≡ true

module _ (s s' : State) (ok : IsState s) (ok' : IsState s') (R fewer best best' : TaskTest) (number : (t : ℕ) → R t ≡ true
    → t < task_count s) (number' : (t : ℕ) → fewer t ≡ true → t < task_count s') (subset : IsSubset fewer R) (is_best : IsBest s R best)
    (is_best' : IsBest s' fewer best') (narrower : IsNarrower s s' fewer) where
  abbrev here : ℕ → ℕ
  here u = is_best.placeable.0 u

  abbrev there : ℕ → ℕ
  there u = is_best'.placeable.0 u

  -- the state of the smaller set
  abbrev smaller : State
  smaller = placed_state s' ok' fewer number' best' is_best'

  module _ (t : ℕ) (member : best t ≡ true) (inside : fewer t ≡ true) (out : best' t ≡ false) where
    waits : IsWaiting smaller t
    waits = record {
      ready = ready_is s' ok' fewer number' best' is_best' t ∙ inside;
      not_linked = linked_is s' ok' fewer number' best' is_best' t ∙ out;
    }

    abbrev X : ℕ
    X = (placed_certificates s' ok' fewer number' best' is_best' t waits).0

    certificate : IsCertificate smaller t X
    certificate = (placed_certificates s' ok' fewer number' best' is_best' t waits).1

    -- whether a processor of X is one of the first state
    abbrev in_X : ℕ → Bool
    in_X p = has X p && nat_lt p s.processors

    -- what stays within X stays there in the first state
    stays_within : (w : ℕ) → fewer w ≡ true → Within (effective_mask s' w) X → (q : ℕ) → IsTrue (has (effective_mask s w) q)
        → IsTrue (in_X q)
    stays_within w h within q there =
        let parts = and_parts (has (effective_mask s' w) q) (nat_lt q s.processors) (narrower.within w h q there) in
        and_from _ _ (within q parts.0) parts.1

    -- t itself stands on X
    t_on_X : IsTrue (in_X (here t))
    t_on_X = stays_within t inside certificate.within (here t) (is_best.placeable.1.allowed t member)

    -- the occupant of a processor of X in the state of the smaller set
    record Holds (p w : ℕ) : Type 0 where
      chosen : best' w ≡ true
      place : there w ≡ p
      urgent : priority_of s w < priority_of s t
      within : (q : ℕ) → IsTrue (has (effective_mask s w) q) → IsTrue (in_X q)
      on : task_on smaller p ≡ Some w

    holder : (p : ℕ) → IsTrue (in_X p) → (w : ℕ) × Holds p w
    holder p there =
        let held = certificate.occupied p (and_parts (has X p) (nat_lt p s.processors) there).0 in
        let is = on_is s' ok' fewer number' best' is_best' p held.0 held.1 in
        let h = is_best'.subset held.0 is.0 in
        let a = narrower.priority held.0 h in
        let b = narrower.priority t inside in
        let less = held.2 in
        (held.0, record { chosen = is.0; place = is.1; urgent = omega arith; within = stays_within held.0 h held.3; on = held.1 })

    -- the tasks that make way, and those that do not
    abbrev comes : ℕ → Bool
    comes u = best' u && in_X (there u)

    abbrev stays : ℕ → Bool
    stays u = best u && not (in_X (here u))

    abbrev D : TaskTest
    D u = comes u || stays u

    abbrev place_of : ℕ → ℕ
    place_of u = if comes u then there u else here u

    place-comes : (u : ℕ) → comes u ≡ true → place_of u ≡ there u
    place-comes u h = rw h refl

    place-stays : (u : ℕ) → comes u ≡ false → place_of u ≡ here u
    place-stays u h = rw h refl

    stays-from : (u : ℕ) → D u ≡ true → comes u ≡ false → stays u ≡ true
    stays-from u h not_comes = elim (or_cases (comes u) (stays u) h) [
      | inl c ↦ absurd (true≢false (sym c ∙ not_comes))
      | inr k ↦ k
    ]

    off_X : (u : ℕ) → stays u ≡ true → in_X (here u) ≡ false
    off_X u h = elim (cases_Bool (in_X (here u))) [
      | inl on_X ↦ absurd (true≢false (sym (and_parts (best u) _ h).1 ∙ ap not on_X))
      | inr off ↦ off
    ]

    D-subset : IsSubset D R
    D-subset u h = elim (or_cases (comes u) (stays u) h) [
      | inl c ↦ subset u (is_best'.subset u (and_parts (best' u) _ c).0)
      | inr k ↦ is_best.subset u (and_parts (best u) _ k).0
    ]

    -- whoever comes is the occupant, and more urgent than t, so that it may run there in the first state too
    moves_in : (u : ℕ) → comes u ≡ true → IsTrue (has (effective_mask s u) (there u))
    moves_in u c =
        let parts = and_parts (best' u) _ c in
        let w = holder (there u) parts.1 in
        let same : w.0 ≡ u = is_best'.placeable.1.apart w.0 u w.1.chosen parts.0 w.1.place in
        let urgent : priority_of s u < priority_of s t = subst (λ (v : ℕ). priority_of s v < priority_of s t) same w.1.urgent in
        narrower.all u t (is_best'.subset u parts.0) inside urgent (there u)
        (and_from _ _ (is_best'.placeable.1.allowed u parts.0) (and_parts (has X (there u)) _ parts.1).1)

    D-placement : IsPlacement s D place_of
    D-placement = record {
      allowed = λ u h. elim (cases_Bool (comes u)) [
        | inl c ↦ subst (λ (q : ℕ). IsTrue (has (effective_mask s u) q)) (sym (place-comes u c)) (moves_in u c)
        | inr k ↦ subst (λ (q : ℕ). IsTrue (has (effective_mask s u) q)) (sym (place-stays u k))
            (is_best.placeable.1.allowed u (and_parts (best u) _ (stays-from u h k)).0)
      ];
      apart = λ u v hu hv e. elim (cases_Bool (comes u)) [
        | inl c ↦ elim (cases_Bool (comes v)) [
          | inl d ↦ is_best'.placeable.1.apart u v (and_parts (best' u) _ c).0 (and_parts (best' v) _ d).0 (sym (place-comes u c) ∙ e
              ∙ place-comes v d)
          | inr d ↦ absurd (true≢false (sym (and_parts (best' u) _ c).1 ∙ ap in_X (sym (place-comes u c) ∙ e ∙ place-stays v d)
              ∙ off_X v (stays-from v hv d)))
        ]
        | inr c ↦ elim (cases_Bool (comes v)) [
          | inl d ↦ absurd (true≢false (sym (and_parts (best' v) _ d).1 ∙ ap in_X (sym (place-comes v d) ∙ sym e ∙ place-stays u c)
              ∙ off_X u (stays-from u hu c)))
          | inr d ↦ is_best.placeable.1.apart u v (and_parts (best u) _ (stays-from u hu c)).0 (and_parts (best v) _ (stays-from v hv d)).0
              (sym (place-stays u c) ∙ e ∙ place-stays v d)
        ]
      ];
    }

    -- ---- no fewer tasks
    abbrev bound : ℕ
    bound = priority_of s t - 1

    later : 1 ≤ priority_of s t
    later = (let lt = (holder (here t) t_on_X).1.urgent in omega arith)

    -- who stays is more urgent than t
    more_urgent : (u : ℕ) → stays u ≡ true → priority_of s u ≤ priority_of s t → priority_of s u ≤ bound
    more_urgent u h le = elim (cases_eq (priority_of s u) (priority_of s t)) [
      | inl e ↦ absurd (
          let same = ok.distinct u t (number u (is_best.subset u (and_parts (best u) _ h).0)) (number t (is_best.subset t member)) e in
          true≢false (sym t_on_X ∙ ap (λ (x : ℕ). in_X (here x)) (sym same) ∙ off_X u h))
      | inr ne ↦ (let some = later in omega arith)
    ]

    -- whom the placement puts on X makes way for the occupant there
    record IsPartner (u w : ℕ) : Type 0 where
      in_D : D w ≡ true
      early : priority_of s w ≤ bound
      which : (IsTrue (in_X (here u)) × Holds (here u) w) ⊎ ((in_X (here u) ≡ false) × (w ≡ u))

    abbrev partner : ℕ → ℕ
    partner u = if in_X (here u) then who (task_on smaller (here u)) else u

    is_partner : (u : ℕ) → best u ≡ true → priority_of s u ≤ priority_of s t → IsPartner u (partner u)
    is_partner u in_best le = elim (cases_Bool (in_X (here u))) [
      | inl on_X ↦ (
          let w = holder (here u) on_X in
          let it : partner u ≡ w.0 = rw on_X (ap who w.1.on) in
          subst (IsPartner u) (sym it) record {
            in_D = or_left _ _ (and_from _ _ w.1.chosen (ap in_X w.1.place ∙ on_X));
            early = (let lt = w.1.urgent in omega arith);
            which = inl (on_X, w.1);
          })
      | inr off ↦ (
          let k : stays u ≡ true = and_from _ _ in_best (ap not off) in
          let it : partner u ≡ u = rw off refl in
          subst (IsPartner u) (sym it) record {
            in_D = or_right (comes u) (stays u) k;
            early = more_urgent u k le;
            which = inr (off, refl);
          })
    ]

    -- the placement puts such an occupant on X as well
    put_on_X : (p w : ℕ) → Holds p w → best w ≡ true → IsTrue (in_X (here w))
    put_on_X p w holds in_best = holds.within (here w) (is_best.placeable.1.allowed w in_best)

    partners_differ : (u v w : ℕ) → best u ≡ true → best v ≡ true → IsPartner u w → IsPartner v w → u ≡ v
    partners_differ u v w hu hv a b = go a.which b.which
      where
        go : (IsTrue (in_X (here u)) × Holds (here u) w) ⊎ ((in_X (here u) ≡ false) × (w ≡ u))
            → (IsTrue (in_X (here v)) × Holds (here v) w) ⊎ ((in_X (here v) ≡ false) × (w ≡ v)) → u ≡ v
        go (inl x) (inl y) = is_best.placeable.1.apart u v hu hv (sym x.1.place ∙ y.1.place)
        go (inl x) (inr y) = absurd (true≢false (sym (put_on_X (here u) w x.1 (ap best y.1 ∙ hv)) ∙ ap (λ (z : ℕ). in_X (here z)) y.1
            ∙ y.0))
        go (inr x) (inl y) = absurd (true≢false (sym (put_on_X (here v) w y.1 (ap best x.1 ∙ hu)) ∙ ap (λ (z : ℕ). in_X (here z)) x.1
            ∙ x.0))
        go (inr x) (inr y) = sym x.1 ∙ y.1

    -- the tasks of a set up to the priority of t, and those before it
    abbrev upto : TaskTest → TaskTest
    upto A u = A u && nat_le (priority_of s u) (priority_of s t)

    abbrev before : TaskTest → TaskTest
    before A u = A u && nat_le (priority_of s u) bound

    partners : IsInjection (upto best) (task_count s) (before D) (task_count s) partner
    partners = record {
      below = λ u lt h. number (partner u) (D-subset (partner u) (of u h).in_D);
      passes = λ u lt h. and_from _ _ (of u h).in_D (le-leb _ _ (of u h).early);
      apart = λ u v lu lv hu hv e. partners_differ u v (partner u) (and_parts (best u) _ hu).0 (and_parts (best v) _ hv).0 (of u hu)
          (subst (IsPartner v) (sym e) (of v hv));
    }
      where
        of : (u : ℕ) → upto best u ≡ true → IsPartner u (partner u)
        of u h = is_partner u (and_parts (best u) _ h).0 (leb-true _ _ (and_parts (best u) _ h).1)

    -- ---- but t is one more
    one_more : count_below (upto best) (task_count s) ≡ suc (count_below (before best) (task_count s))
    one_more =
        count_below-one_more (upto best) (before best) t (task_count s) (number t (is_best.subset t member))
        (and_from _ _ member (le-leb _ _ (omega arith)))
        (and_right (best t) _ (lt-leb _ _ (let some = later in omega arith)))
        (λ y lt ne. ap (λ (b : Bool). best y && b) (elim (cases_lt (priority_of s t) (priority_of s y)) [
          | inl late ↦ lt-leb _ _ late ∙ sym (lt-leb _ _ (omega arith))
          | inr le ↦ elim (cases_eq (priority_of s y) (priority_of s t)) [
            | inl e ↦ absurd (ne (ok.distinct y t lt (number t (is_best.subset t member)) e))
            | inr other ↦ le-leb _ _ le ∙ sym (le-leb _ _ (let some = later in omega arith))
          ]
        ]))

    keeps_up : count_below (before D) (task_count s) ≤ count_below (before best) (task_count s)
    keeps_up =
        let larger = placed_state s ok R number best is_best in
        let kept = linked_keeps_up larger (placed_ok s ok R number best is_best) (placed_certificates s ok R number best is_best) D
        (λ u h. ready_is s ok R number best is_best u
        ∙ D-subset u h) (place_of, record { allowed = D-placement.allowed; apart = D-placement.apart }) bound in
        let same = count_below-agree (λ u. is_linked larger u && nat_le (priority_of s u) bound) (before best) (task_count s)
        (λ u lt. ap (λ (b : Bool). b && nat_le (priority_of s u) bound) (linked_is s ok R number best is_best u)) in
        omega arith

    left_out : ⊥
    left_out = let more = one_more in let most = keeps_up in let few = count_below-injection (upto best) (task_count s) (before D)
        (task_count s) partner partners in omega arith

pub stays_with_more : (s s' : State) → IsState s → IsState s' → (R fewer best best' : TaskTest) → ((t : ℕ) → R t ≡ true
    → t < task_count s) → ((t : ℕ) → fewer t ≡ true → t < task_count s')
    → IsSubset fewer R → IsBest s R best → IsBest s' fewer best' → IsNarrower s s' fewer → (t : ℕ) → best t ≡ true → fewer t ≡ true
    → best' t ≡ true
stays_with_more s s' ok ok' R fewer best best' number number' subset is_best is_best' narrower t member inside =
    elim (cases_Bool (best' t)) [
      | inl chosen ↦ chosen
      | inr out ↦ absurd (left_out s s' ok ok' R fewer best best' number number' subset is_best is_best' narrower t member inside out)
    ]

pub best_stays : BestStays
best_stays s R fewer best best' ok number subset is_best is_best' =
    stays_with_more s s ok ok R fewer best best' number (λ t h. number t (subset t h)) subset is_best is_best' record {
      priority = λ t h. refl;
      within = λ t h p there. and_from _ _ there (lt-ltb _ _ (effective_mask_below s ok t p there));
      all = λ t u h k less p there. (and_parts (has (effective_mask s t) p) _ there).0;
    }
