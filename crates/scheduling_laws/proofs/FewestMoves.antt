-- Follow from the task that comes: a placement of the new linked tasks has it on some processor, whose occupant it has on another one, and
-- so on, until a processor is idle, or its task is linked no more. No processor comes twice, so this is a chain, and all its occupants are
-- moved. The step shifts along a least chain, and moves no more tasks than that has occupants.
use Rattle.std.proofs.Common.{◌≡◌, ◌≢◌, ℕ, zero, suc, ◌+◌, ◌-◌, ◌<◌, ◌≤◌, ◌⊎◌, Bool, true, false, not, ◌&&◌, ◌||◌, ◌==◌, if◌then◌else◌}
use Rattle.std.proofs.Common.{List, [], ◌∷◌, length, get_or, take, reverse, Option, Some, None, refl, sym, ap, ◌∙◌, subst, inl, inr, IsTrue}
use Rattle.std.proofs.Common.{arith, eq-eqb, eqb-true, ne_eqb, get_or-set_same}
use Rattle.std.specs.Prelude.{slice_get}
use Rattle.std.proofs.lemmas.Bool.{cases_Bool, cases_eq, cases_lt, true≢false, and_from, and_right, and_parts, or_cases}
use Rattle.std.proofs.lemmas.List.{length-reverse}
use Rattle.std.proofs.lemmas.Option.{same_Some}
use Rattle.affinity_mask.specs.ProcSet.{has, Within}
use Rattle.affinity_mask.proofs.Sets.{has-intersection}
use Rattle.task_set.specs.declared.event.Event.{Event}
use Rattle.task_set.specs.declared.event.Event.TheVariants.{Arrive, Depart, Tick, Affinity, Offline, Online}
use Rattle.strong_apa.specs.declared.reply.Came.{Came}
use Rattle.strong_apa.specs.declared.reply.Came.TheVariants.{Placed, Displaced, Waits}
use Rattle.strong_apa.specs.declared.reply.Reply.{Reply}
use Rattle.strong_apa.specs.declared.reply.Entry.{Entry}
use Rattle.strong_apa.specs.State.{State, IsState, IsWaiting, IsIdle, task_count, task_on, is_task, is_ready, is_linked, mask_of}
use Rattle.strong_apa.specs.State.{effective_mask, start_of, state_with_ready, state_with_absent, state_with_online, state_with_offline}
use Rattle.strong_apa.specs.State.{state_after_leaving}
use Rattle.strong_apa.specs.Chain.{CanShift, IsPath, IsWalk, IsChainOf, IsSimple, EndsIdle, EndsOnTask, EntersBy, IsLeastSuch}
use Rattle.strong_apa.specs.Chain.{occupant_after_shift, state_after_shift}
use Rattle.strong_apa.specs.Placement.{IsPlacement}
use Rattle.strong_apa.specs.Certificate.{IsCertificate}
use Rattle.strong_apa.specs.Certified.{HasCertificates}
use Rattle.strong_apa.specs.Step.{SchedulerStep, Comes, EnterStep, ArriveStep, DepartStep, OfflineStep, OnlineStep}
use Rattle.strong_apa.specs.History.{IsLegalFrom, effect_of, state_after, state_at}
use Rattle.strong_apa.proofs.Changes.{effective_mask-left, effective_mask-offline, effective_mask-online, IsState-state_with_online}
use Rattle.strong_apa.proofs.Counts.{count_below, count_below-zero, count_below-more, count_below-same, count_below-bound}
use Rattle.strong_apa.proofs.Counts.{count_below-agree, count_below-one_more, IsInjection, count_below-injection}
use Rattle.strong_apa.proofs.Ends.{least_chain_is_simple, least_back_chain_is_simple}
use Rattle.strong_apa.proofs.Kept.{HasCertificates-start, step_keeps_certificates}
use Rattle.strong_apa.proofs.KeptByDepartures.{kept_without}
use Rattle.strong_apa.proofs.KeptByShifts.{linked_or_out}
use Rattle.strong_apa.proofs.Leaving.{task_on-state_after_leaving, task_on-stays, task_on-left, IsState-state_after_leaving}
use Rattle.strong_apa.proofs.Linked.{place_in, is_task-true, is_task-same, is_linked-from_on, task_on-linked, not_on, not_linked-from_on}
use Rattle.strong_apa.proofs.Linked.{linked_number}
use Rattle.strong_apa.proofs.Paths.{Reaches-online, IsChainOf-reverse}
use Rattle.strong_apa.proofs.Readiness.{absent_not_linked, IsWaiting-state_with_ready, IsState-state_with_ready}
use Rattle.strong_apa.proofs.Shifts.{occupant-first, occupant-later, task_on-state_after_shift}
use Rattle.strong_apa.proofs.Simple.{IsSimple-reverse}
use Rattle.strong_apa.proofs.Start.{IsState-start}
use Rattle.strong_apa.proofs.Steps.{IsChainOf-state_with_ready, IsState-moved, absent_moved, step_keeps_state}
use Rattle.scheduling_laws.specs.FewestMoves.{is_moved, moved_count, IsPlaceOf, MovesFewest, ChangesNoMask, StepMovesFewest}
use Rattle.scheduling_laws.specs.FewestMoves.{LegalMovesFewest}
use Rattle.scheduling_laws.proofs.Faces.{best_is_certified}
use Rattle.strong_apa.proofs.KeptByChanges.{nobody_off}
use Rattle.affinity_mask.proofs.Unions.{same_answer}
use Rattle.scheduling_laws.proofs.PlacedState.{who}

all_count : (n : ℕ) → count_below (λ k. true) n ≡ n
all_count zero = count_below-zero (λ k. true)
all_count (suc n) = count_below-more (λ k. true) n refl ∙ ap (λ (m : ℕ). suc m) (all_count n)

not_false : (b : Bool) → b ≡ false → not b ≡ true
not_false true e = sym e
not_false false e = refl

-- a least chain is not longer than another one
no_longer : (Has : List ℕ → Type 0) (chain other : List ℕ) → IsLeastSuch Has chain → Has other → length chain ≤ length other
no_longer Has chain other least has = elim (least.least other has) [
  | inl same ↦ (let e = ap (λ (xs : List ℕ). length xs) same in omega arith)
  | inr less ↦ elim less [ inl shorter ↦ (omega arith) | inr as_long ↦ (let e = as_long.0 in omega arith) ]
]

-- who stays where it was is not moved
stay_put : (s new : State) (own : ℕ → ℕ) → IsState s → ((p u : ℕ) → task_on new p ≡ Some u → task_on s p ≡ Some u) → IsPlaceOf new own
    → moved_count s new own ≤ 0
stay_put s new own ok same is_own = none (task_count s)
  where
    none : (n : ℕ) → count_below (is_moved s new own) n ≤ 0
    none zero = let e = count_below-zero (is_moved s new own) in omega arith
    none (suc n) = elim (cases_Bool (is_moved s new own n)) [
      | inr stays ↦ (let e = count_below-same (is_moved s new own) n stays in let before = none n in omega arith)
      | inl moved ↦ absurd (
          let parts = and_parts (is_linked s n && is_linked new n) _ moved in
          let both = and_parts (is_linked s n) (is_linked new n) parts.0 in
          let there : task_on s (own n) ≡ Some n = same (own n) n (is_own n both.1) in
          true≢false (sym (sym (ap not (ap (is_task n) there ∙ is_task-same n)) ∙ parts.1)))
    ]

-- ---- what a shift moves
abbrev index : ℕ → List ℕ → ℕ
index p [] = 0
index p (x ∷ rest) = if p == x then 0 else suc (index p rest)

index-first : (x : ℕ) (rest : List ℕ) → index x (x ∷ rest) ≡ 0
index-first x rest = rw (eq-eqb x x refl) refl

index-later : (p x : ℕ) (rest : List ℕ) → p ≢ x → index p (x ∷ rest) ≡ suc (index p rest)
index-later p x rest ne = rw (ne_eqb p x ne) refl

index-is : (p : ℕ) (xs : List ℕ) → index p xs < length xs → get_or xs (index p xs) 0 ≡ p
index-is p [] below = absurd (omega arith)
index-is p (x ∷ rest) below = elim (cases_eq p x) [
  | inl same ↦ subst (λ (q : ℕ). get_or (x ∷ rest) (index q (x ∷ rest)) 0 ≡ q) (sym same)
      (ap (λ (i : ℕ). get_or (x ∷ rest) i 0) (index-first x rest))
  | inr ne ↦ (let e = index-later p x rest ne in ap (λ (i : ℕ). get_or (x ∷ rest) i 0) e ∙ index-is p rest (omega arith))
]

-- whoever is on p after a shift was there before, or p is one of its processors
stays_or_shifts : (s : State) (guest : Option ℕ) (rest : List ℕ) (p u : ℕ) → occupant_after_shift s guest rest p ≡ Some u
    → (task_on s p ≡ Some u) ⊎ (index p rest < length rest)
stays_or_shifts s guest [] p u e = inl e
stays_or_shifts s guest (x ∷ rest) p u e = elim (cases_eq p x) [
  | inl same ↦ inr (let first = index-first x rest in let e = ap (λ (q : ℕ). index q (x ∷ rest)) same in omega arith)
  | inr ne ↦ elim (stays_or_shifts s (task_on s x) rest p u (sym (occupant-later s guest x rest p ne) ∙ e)) [
    | inl stays ↦ inl stays
    | inr later ↦ inr (let next = index-later p x rest ne in omega arith)
  ]
]

module _ (s new : State) (w : ℕ) (chain : List ℕ) (own : ℕ → ℕ) (out : is_linked s w ≡ false) (is_own : IsPlaceOf new own)
    (shifted : (p u : ℕ) → task_on new p ≡ Some u → occupant_after_shift s (Some w) chain p ≡ Some u) where
  -- a task that is moved is on a processor of the chain that is not its first
  on_rest : (x : ℕ) (rest : List ℕ) → chain ≡ x ∷ rest → (u : ℕ) → is_moved s new own u ≡ true → index (own u) rest < length rest
  on_rest x rest is u moved =
      let parts = and_parts (is_linked s u && is_linked new u) _ moved in
      let both = and_parts (is_linked s u) (is_linked new u) parts.0 in
      let on = is_own u both.1 in
      let now : occupant_after_shift s (Some w) (x ∷ rest) (own u) ≡ Some u = ap (λ (c : List ℕ). occupant_after_shift s (Some w) c (own u))
      (sym is) ∙ shifted (own u) u on in
      elim (cases_eq (own u) x) [
        | inl same ↦ absurd (
            let w_is : Some w ≡ Some u = sym (occupant-first s (Some w) x rest)
            ∙ ap (λ (p : ℕ). occupant_after_shift s (Some w) (x ∷ rest) p) (sym same) ∙ now in
            true≢false (sym both.0 ∙ ap (is_linked s) (sym (same_Some w u w_is)) ∙ out))
        | inr ne ↦ elim (stays_or_shifts s (task_on s x) rest (own u) u (sym (occupant-later s (Some w) x rest (own u) ne) ∙ now)) [
          | inr later ↦ later
          | inl stays ↦ absurd (true≢false (sym (sym (ap not (ap (is_task u) stays ∙ is_task-same u)) ∙ parts.1)))
        ]
      ]

  own_few : (xs : List ℕ) → chain ≡ xs → count_below (is_moved s new own) (task_count s) ≤ length xs - 1
  own_few [] is = none (task_count s)
    where
      none : (n : ℕ) → count_below (is_moved s new own) n ≤ 0
      none zero = let e = count_below-zero (is_moved s new own) in omega arith
      none (suc n) = elim (cases_Bool (is_moved s new own n)) [
        | inr stays ↦ (let same = count_below-same (is_moved s new own) n stays in let before = none n in omega arith)
        | inl moved ↦ absurd (
            let parts = and_parts (is_linked s n && is_linked new n) _ moved in
            let both = and_parts (is_linked s n) (is_linked new n) parts.0 in
            let there : task_on s (own n) ≡ Some n = ap (λ (c : List ℕ). occupant_after_shift s (Some w) c (own n)) (sym is)
            ∙ shifted (own n) n (is_own n both.1) in
            true≢false (sym (sym (ap not (ap (is_task n) there ∙ is_task-same n)) ∙ parts.1)))
      ]
  own_few (x ∷ rest) is =
      let most = count_below-injection (is_moved s new own) (task_count s) (λ k. true) (length rest) (λ u. index (own u) rest) injection in
      let all = all_count (length rest) in
      omega arith
    where
      linked_then : (u : ℕ) → is_moved s new own u ≡ true → is_linked new u ≡ true
      linked_then u moved = (and_parts (is_linked s u) (is_linked new u) (and_parts (is_linked s u && is_linked new u) _ moved).0).1

      injection : IsInjection (is_moved s new own) (task_count s) (λ k. true) (length rest) (λ u. index (own u) rest)
      injection = record {
        below = λ u lt moved. on_rest x rest is u moved;
        passes = λ u lt moved. refl;
        apart = λ u v lu lv hu hv e.
            let same : own u ≡ own v = sym (index-is (own u) rest (on_rest x rest is u hu)) ∙ ap (λ (i : ℕ). get_or rest i 0) e
            ∙ index-is (own v) rest (on_rest x rest is v hv) in
            same_Some u v (sym (is_own u (linked_then u hu)) ∙ ap (task_on new) same ∙ is_own v (linked_then v hv));
      }

-- ---- what any placement moves
-- w comes into s, and the placement is one of the tasks that are linked then
module _ (s new : State) (w : ℕ) (place : ℕ → ℕ) (ok : IsState s) (out : is_linked s w ≡ false) (comes : is_linked new w ≡ true)
    (placement : IsPlacement new (is_linked new) place)
    (same_mask : (u p : ℕ) → has (effective_mask new u) p ≡ has (effective_mask s u) p) where
  -- where the placement has w, then where it has the occupant of that processor, and so on
  abbrev stop : ℕ → ℕ
  stop zero = place w
  stop (suc n) = place (who (task_on s (stop n)))

  record GoesOn (n : ℕ) : Type 0 where
    task : ℕ
    on : task_on s (stop n) ≡ Some task
    linked : is_linked new task ≡ true

  -- p is idle, or its task is linked no more
  abbrev EndsOn : ℕ → Type 0
  EndsOn p = (task_on s p ≡ None) ⊎ ((u : ℕ) × (task_on s p ≡ Some u) × (is_linked new u ≡ false))

  abbrev Ends : ℕ → Type 0
  Ends n = EndsOn (stop n)

  next : (n : ℕ) (g : GoesOn n) → stop (suc n) ≡ place g.task
  next n g = ap (λ (o : Option ℕ). place (who o)) g.on

  -- no processor comes twice
  differ : (i j : ℕ) → i < j → ((k : ℕ) → k < j → GoesOn k) → stop i ≡ stop j → ⊥
  differ i zero lt goes e = absurd (omega arith)
  differ zero (suc j) lt goes e =
      let g = goes j (omega arith) in
      let same : w ≡ g.task = placement.apart w g.task comes g.linked (e ∙ next j g) in
      not_on s (stop j) w out (g.on ∙ ap (λ (n : ℕ). Some n) (sym same))
  differ (suc i) (suc j) lt goes e =
      let a = goes i (omega arith) in
      let b = goes j (omega arith) in
      let same : a.task ≡ b.task = placement.apart a.task b.task a.linked b.linked (sym (next i a) ∙ e ∙ next j b) in
      differ i j (omega arith) (λ k below. goes k (omega arith)) (ok.once (stop i) (stop j) b.task (a.on
      ∙ ap (λ (n : ℕ). Some n) same) b.on)

  -- each occupant is moved
  is_moved_on : (n : ℕ) → ((k : ℕ) → k < suc n → GoesOn k) → (u : ℕ) → task_on s (stop n) ≡ Some u → is_linked new u ≡ true
      → is_moved s new place u ≡ true
  is_moved_on n goes u on linked =
      and_from _ _ (and_from _ _ (is_linked-from_on s (stop n) u on) linked) (elim (cases_Bool (is_task u (task_on s (place u)))) [
        | inr other ↦ not_false _ other
        | inl there ↦ absurd (
            let stays : place u ≡ stop n = ok.once (place u) (stop n) u (is_task-true u (task_on s (place u)) there) on in
            differ n (suc n) (omega arith) goes (sym stays ∙ ap (λ (o : Option ℕ). place (who o)) (sym on)))
      ])

  -- and there are as many of them as stops
  enough : (n : ℕ) → ((k : ℕ) → k < n → GoesOn k) → n ≤ count_below (is_moved s new place) (task_count s)
  enough n goes = let all = all_count n in let most = count_below-injection (λ k. true) n (is_moved s new place) (task_count s)
      (λ k. who (task_on s (stop k))) injection in omega arith
    where
      injection : IsInjection (λ k. true) n (is_moved s new place) (task_count s) (λ k. who (task_on s (stop k)))
      injection = record {
        below = λ k lt h. let g = goes k lt in subst (λ (z : ℕ). z < task_count s) (sym (ap who g.on))
            (linked_number s (stop k) g.task ok g.on);
        passes = λ k lt h. let g = goes k lt in subst (λ (z : ℕ). is_moved s new place z ≡ true) (sym (ap who g.on))
            (is_moved_on k (λ i below. goes i (omega arith)) g.task g.on g.linked);
        apart = λ x y lx ly hx hy e.
            let a = goes x lx in
            let b = goes y ly in
            let same : a.task ≡ b.task = sym (ap who a.on) ∙ e ∙ ap who b.on in
            let once : stop x ≡ stop y = ok.once (stop x) (stop y) b.task (a.on ∙ ap (λ (n : ℕ). Some n) same) b.on in
            elim (cases_lt x y) [
              | inl lt ↦ absurd (differ x y lt (λ k below. goes k (omega arith)) once)
              | inr ge ↦ elim (cases_lt y x) [
                | inl gt ↦ absurd (differ y x gt (λ k below. goes k (omega arith)) (sym once))
                | inr le ↦ (omega arith)
              ]
            ];
      }

  goes_or_ends : (n : ℕ) → GoesOn n ⊎ Ends n
  goes_or_ends n = go (task_on s (stop n)) refl
    where
      go : (o : Option ℕ) → task_on s (stop n) ≡ o → GoesOn n ⊎ Ends n
      go None e = inr (inl e)
      go (Some u) e = elim (cases_Bool (is_linked new u)) [
        | inl linked ↦ inl record { task = u; on = e; linked = linked }
        | inr gone ↦ inr (inr (u, e, gone))
      ]

  record HasEnd : Type 0 where
    number : ℕ
    goes : (k : ℕ) → k < number → GoesOn k
    ends : Ends number

  looked : (n : ℕ) → ((k : ℕ) → k < n → GoesOn k) ⊎ HasEnd
  looked zero = inl (λ k below. absurd (omega arith))
  looked (suc n) = elim (looked n) [
    | inr found ↦ inr found
    | inl goes ↦ elim (goes_or_ends n) [
      | inr ends ↦ inr record { number = n; goes = goes; ends = ends }
      | inl on ↦ inl (λ k below. elim (cases_eq k n) [
        | inl same ↦ subst GoesOn (sym same) on
        | inr other ↦ goes k (omega arith)
      ])
    ]
  ]

  has_end : HasEnd
  has_end = elim (looked (suc (task_count s))) [
    | inr found ↦ found
    | inl goes ↦ absurd (let many = enough (suc (task_count s)) goes in let most = count_below-bound (is_moved s new place)
        (task_count s) in omega arith)
  ]

  -- ---- the stops are a chain of w
  shifts : (n : ℕ) → GoesOn n → CanShift s (stop n) (stop (suc n))
  shifts n g = (
    g.task,
    g.on,
    subst (λ (q : ℕ). IsTrue (has (effective_mask s g.task) q)) (sym (next n g))
        (sym (same_mask g.task (place g.task)) ∙ placement.allowed g.task g.linked),
  )

  enters : IsTrue (has (effective_mask s w) (place w))
  enters = sym (same_mask w (place w)) ∙ placement.allowed w comes

  abbrev stops : ℕ → ℕ → List ℕ
  stops i zero = []
  stops i (suc d) = stop (suc i) ∷ stops (suc i) d

  length-stops : (i d : ℕ) → length (stops i d) ≡ d
  length-stops i zero = refl
  length-stops i (suc d) = ap (λ (n : ℕ). suc n) (length-stops (suc i) d)

  walk : (i d : ℕ) → ((k : ℕ) → k < i + d → GoesOn k) → IsWalk s (stop i) (stops i d) (stop (i + d))
  walk i zero goes = ap stop (let e : i ≡ i + 0 = omega arith in e)
  walk i (suc d) goes =
      let e : suc i + d ≡ i + suc d = omega arith in (
        shifts i (goes i (omega arith)),
        subst (λ (n : ℕ). IsWalk s (stop (suc i)) (stops (suc i) d) (stop n)) e
            (walk (suc i) d (λ k below. goes k (omega arith))),
      )

  abbrev chain_to : ℕ → List ℕ
  chain_to n = place w ∷ stops 0 n

  is_chain_to : (n : ℕ) → ((k : ℕ) → k < n → GoesOn k) → IsChainOf s w (chain_to n) (stop n)
  is_chain_to n goes = let e : 0 + n ≡ n = omega arith in
      (enters, subst (λ (m : ℕ). IsWalk s (place w) (stops 0 n) (stop m)) e (walk 0 n (λ k below. goes k (omega arith))))

  -- and, read from its end, a back chain
  abbrev back_stops : ℕ → List ℕ
  back_stops zero = []
  back_stops (suc n) = stop n ∷ back_stops n

  length-back_stops : (n : ℕ) → length (back_stops n) ≡ n
  length-back_stops zero = refl
  length-back_stops (suc n) = ap (λ (m : ℕ). suc m) (length-back_stops n)

  back_walk : (n : ℕ) → ((k : ℕ) → k < n → GoesOn k) → IsPath (λ a b. CanShift s b a) (stop n) (back_stops n) (place w)
  back_walk zero goes = refl
  back_walk (suc n) goes = (shifts n (goes n (omega arith)), back_walk n (λ k below. goes k (omega arith)))

  is_back_chain_from : (n p : ℕ) → ((k : ℕ) → k < n → GoesOn k) → stop n ≡ p → EntersBy s p w (p ∷ back_stops n)
  is_back_chain_from n p goes e =
      (place w, (refl, subst (λ (q : ℕ). IsPath (λ a b. CanShift s b a) q (back_stops n) (place w)) e (back_walk n goes)), enters)

  -- ---- so what the step moves is no more
  -- where it shifts w along the least chain that ends so
  fewest_by_chain : (Has : List ℕ → Type 0) (chain : List ℕ) (own : ℕ → ℕ) → IsPlaceOf new own → ((p u : ℕ) → task_on new p ≡ Some u
      → occupant_after_shift s (Some w) chain p ≡ Some u)
      → IsLeastSuch Has chain → ((other : List ℕ) (e : ℕ) → IsChainOf s w other e → EndsOn e → Has other)
      → moved_count s new own ≤ moved_count s new place
  fewest_by_chain Has chain own is_own shifted least has =
      let end = has_end in
      let short = no_longer Has chain (chain_to end.number) least
      (has (chain_to end.number) (stop end.number) (is_chain_to end.number end.goes) end.ends) in
      let long = length-stops 0 end.number in
      let few = own_few s new w chain own out is_own shifted chain refl in
      let many = enough end.number end.goes in
      omega arith

  -- and where it does so along the least back chain, read from its end
  fewest_by_back_chain : (p : ℕ) (back : List ℕ) (own : ℕ → ℕ) → IsPlaceOf new own → ((q u : ℕ) → task_on new q ≡ Some u
      → occupant_after_shift s (Some w) (reverse back) q ≡ Some u)
      → IsLeastSuch (EntersBy s p w) back → ((other : List ℕ) (e : ℕ) → IsChainOf s w other e → EndsOn e → e ≡ p)
      → moved_count s new own ≤ moved_count s new place
  fewest_by_back_chain p back own is_own shifted least on_p =
      let end = has_end in
      let there = on_p (chain_to end.number) (stop end.number) (is_chain_to end.number end.goes) end.ends in
      let short = no_longer (EntersBy s p w) back (p ∷ back_stops end.number) least (is_back_chain_from end.number p end.goes there) in
      let long = length-back_stops end.number in
      let same = length-reverse back in
      let few = own_few s new w (reverse back) own out is_own shifted (reverse back) refl in
      let many = enough end.number end.goes in
      omega arith

-- ---- a shift of a waiting task
module _ (s : State) (ok : IsState s) (w : ℕ) (waits : IsWaiting s w) (chain : List ℕ) (q : ℕ) (is_chain : IsChainOf s w chain q)
    (simple : IsSimple chain) where
  abbrev shifted_state : State
  shifted_state = state_after_shift s w chain

  comes_in : is_linked shifted_state w ≡ true
  comes_in = elim (linked_or_out s ok w waits chain q is_chain simple w (inl refl)) [
    | inl linked ↦ linked
    | inr on ↦ absurd (not_on s q w waits.not_linked on)
  ]

  -- whose task is linked no more is the processor on which the chain ends
  put_out : (e u : ℕ) → task_on s e ≡ Some u → is_linked shifted_state u ≡ false → task_on s q ≡ Some u
  put_out e u on gone = elim (linked_or_out s ok w waits chain q is_chain simple u (inr (is_linked-from_on s e u on))) [
    | inl linked ↦ absurd (true≢false (sym linked ∙ gone))
    | inr there ↦ there
  ]

-- ---- a task that comes
nobody_there : (o : Option ℕ) (u : ℕ) → o ≡ None → o ≡ Some u → ⊥
nobody_there o u none some = cc

module _ (s : State) (ok : IsState s) (t : ℕ) (number : t < task_count s) (absent : is_ready s t ≡ false) where
  abbrev ready : State
  ready = state_with_ready s t

  comes_moves_fewest : (came : Came) (new : State) → Comes s t came new → MovesFewest s new
  comes_moves_fewest (Placed chain) new comes = subst (MovesFewest s) (sym comes.shifted) (λ own place is_own placement.
      fewest_by_chain ready (state_after_shift ready t chain) t place ready_ok (absent_not_linked s ok t number absent) entered placement
      (λ u p. refl)
      (EndsIdle s t) chain own is_own (task_on-state_after_shift ready t chain) comes.least ends)
    where
      ready_ok : IsState ready
      ready_ok = IsState-state_with_ready s ok t number

      waits : IsWaiting ready t
      waits = IsWaiting-state_with_ready s ok t number absent

      is_chain : IsChainOf ready t chain comes.least.itself.0
      is_chain = IsChainOf-state_with_ready s t chain comes.least.itself.0 comes.least.itself.1

      simple : IsSimple chain
      simple = least_chain_is_simple s ok t (IsIdle s) chain comes.least

      entered : is_linked (state_after_shift ready t chain) t ≡ true
      entered = comes_in ready ready_ok t waits chain comes.least.itself.0 is_chain simple

      ends : (other : List ℕ) (e : ℕ) → IsChainOf s t other e
          → (task_on s e ≡ None) ⊎ ((u : ℕ) × (task_on s e ≡ Some u) × (is_linked (state_after_shift ready t chain) u ≡ false))
          → EndsIdle s t other
      ends other e is_other (inl none) = (e, is_other, (Reaches-online s t e (other, is_other), none))
      ends other e is_other (inr gone) = absurd
          (nobody_there _ gone.0 comes.least.itself.2.1
          (put_out ready ready_ok t waits chain comes.least.itself.0 is_chain simple e gone.0 gone.1 gone.2))
  comes_moves_fewest (Displaced chain out reach) new comes = subst (MovesFewest s) (sym comes.shifted) (λ own place is_own placement.
      fewest_by_chain ready (state_after_shift ready t chain) t place ready_ok (absent_not_linked s ok t number absent) entered placement
      (λ u p. refl)
      (EndsOnTask s t out) chain own is_own (task_on-state_after_shift ready t chain) comes.least ends)
    where
      ready_ok : IsState ready
      ready_ok = IsState-state_with_ready s ok t number

      waits : IsWaiting ready t
      waits = IsWaiting-state_with_ready s ok t number absent

      is_chain : IsChainOf ready t chain comes.least.itself.0
      is_chain = IsChainOf-state_with_ready s t chain comes.least.itself.0 comes.least.itself.1

      simple : IsSimple chain
      simple = least_chain_is_simple s ok t (λ q. task_on s q ≡ Some out) chain comes.least

      entered : is_linked (state_after_shift ready t chain) t ≡ true
      entered = comes_in ready ready_ok t waits chain comes.least.itself.0 is_chain simple

      ends : (other : List ℕ) (e : ℕ) → IsChainOf s t other e
          → (task_on s e ≡ None) ⊎ ((u : ℕ) × (task_on s e ≡ Some u) × (is_linked (state_after_shift ready t chain) u ≡ false))
          → EndsOnTask s t out other
      ends other e is_other (inl none) =
          absurd (let on = comes.occupied e ((comes.reached e).1 (other, is_other)) in nobody_there _ on.0 none on.1)
      ends other e is_other (inr gone) =
          let there = put_out ready ready_ok t waits chain comes.least.itself.0 is_chain simple e gone.0 gone.1 gone.2 in
          let same = same_Some gone.0 out (sym there ∙ comes.least.itself.2) in
          (e, is_other, gone.1 ∙ ap (λ (n : ℕ). Some n) same)
  comes_moves_fewest (Waits reach) new comes = subst (MovesFewest s) (sym comes.waits)
      (λ own place is_own placement. (let none = stay_put s ready own ok (λ p u on. on) is_own in omega arith))

-- ---- a processor that has become idle
-- in the chains of w, nobody but on p can leave X
record IsHeldBeside (s : State) (p w X : ℕ) : Type 0 where
  first : (q : ℕ) → IsTrue (has (effective_mask s w) q) → (q ≡ p) ⊎ IsTrue (has X q)
  held : (q : ℕ) → IsTrue (has X q) → (u : ℕ) × (task_on s q ≡ Some u) × ((r : ℕ) → IsTrue (has (effective_mask s u) r)
      → (r ≡ p) ⊎ IsTrue (has X r))

module _ (s : State) (p w X : ℕ) (idle : task_on s p ≡ None) (held : IsHeldBeside s p w X) where
  walk_ends : (x : ℕ) (rest : List ℕ) (e : ℕ) → (x ≡ p) ⊎ IsTrue (has X x) → IsWalk s x rest e → task_on s e ≡ None → e ≡ p
  walk_ends x [] e (inl same) walk none = sym walk ∙ same
  walk_ends x [] e (inr inside) walk none = absurd (let on = held.held x inside in nobody_there _ on.0 (ap (task_on s) walk ∙ none) on.1)
  walk_ends x (r ∷ rest) e (inl same) walk none = absurd (nobody_there _ walk.0.0 (ap (task_on s) same ∙ idle) walk.0.1)
  walk_ends x (r ∷ rest) e (inr inside) walk none =
      let on = held.held x inside in
      let same : walk.0.0 ≡ on.0 = same_Some walk.0.0 on.0 (sym walk.0.1 ∙ on.1) in
      walk_ends r rest e (on.2 r (subst (λ (u : ℕ). IsTrue (has (effective_mask s u) r)) same walk.0.2)) walk.1 none

  chain_ends : (chain : List ℕ) (e : ℕ) → IsChainOf s w chain e → task_on s e ≡ None → e ≡ p
  chain_ends [] e is_chain none = absurd is_chain
  chain_ends (x ∷ rest) e is_chain none = walk_ends x rest e (held.first x is_chain.0) is_chain.1 none

module _ (s : State) (ok : IsState s) (p : ℕ) (idle : task_on s p ≡ None) (held : (w : ℕ) → IsWaiting s w
    → (X : ℕ) × IsHeldBeside s p w X) where
  enters_moves_fewest : (entered : Option ℕ) (chain : List ℕ) (back : ℕ) (new : State) → EnterStep s p entered chain back new
      → MovesFewest s new
  enters_moves_fewest None chain back new step = subst (MovesFewest s) (sym step.2)
      (λ own place is_own placement. (let none = stay_put s s own ok (λ q u on. on) is_own in omega arith))
  enters_moves_fewest (Some w) chain back new step = subst (MovesFewest s) (sym step.2) (λ own place is_own placement.
      fewest_by_back_chain s (state_after_shift s w (reverse chain)) w place ok waits.not_linked entered placement (λ u q. refl)
      p chain own is_own (task_on-state_after_shift s w (reverse chain)) least ends)
    where
      waits : IsWaiting s w
      waits = step.0.waits

      least : IsLeastSuch (EntersBy s p w) chain
      least = step.1

      is_chain : IsChainOf s w (reverse chain) p
      is_chain = IsChainOf-reverse s p w chain least.itself.0 least.itself.1 least.itself.2

      simple : IsSimple (reverse chain)
      simple = IsSimple-reverse chain (least_back_chain_is_simple s ok p w chain least)

      entered : is_linked (state_after_shift s w (reverse chain)) w ≡ true
      entered = comes_in s ok w waits (reverse chain) p is_chain simple

      ends : (other : List ℕ) (e : ℕ) → IsChainOf s w other e
          → (task_on s e ≡ None) ⊎ ((u : ℕ) × (task_on s e ≡ Some u) × (is_linked (state_after_shift s w (reverse chain)) u ≡ false))
          → e ≡ p
      ends other e is_other (inl none) = let X = held w waits in chain_ends s p w X.0 idle X.1 other e is_other none
      ends other e is_other (inr gone) =
          absurd (nobody_there _ gone.0 idle (put_out s ok w waits (reverse chain) p is_chain simple e gone.0 gone.1 gone.2))

-- without p each waiting task has a certificate
held_without : (s : State) (p : ℕ) → HasCertificates (state_with_offline s p) → (w : ℕ) → IsWaiting s w → (X : ℕ) × IsHeldBeside s p w X
held_without s p certificates w waits = (
  old.0,
  record {
    first = λ q allowed. beside w q allowed old.1.within;
    held = λ q inside. let on = old.1.occupied q inside in (on.0, on.1, λ r allowed. beside on.0 r allowed on.3);
  },
)
  where
    old : (X : ℕ) × IsCertificate (state_with_offline s p) w X
    old = certificates w record { ready = waits.ready; not_linked = waits.not_linked }

    beside : (u q : ℕ) → IsTrue (has (effective_mask s u) q) → Within (effective_mask (state_with_offline s p) u) old.0
        → (q ≡ p) ⊎ IsTrue (has old.0 q)
    beside u q allowed within = elim (cases_eq q p) [
      | inl same ↦ inl same
      | inr other ↦ inr (within q (effective_mask-left s p u q allowed other))
    ]

-- before p came on line each had one
held_before : (s : State) (p : ℕ) → HasCertificates s → (w : ℕ) → IsWaiting (state_with_online s p) w
    → (X : ℕ) × IsHeldBeside (state_with_online s p) p w X
held_before s p certificates w waits = (
  old.0,
  record {
    first = λ q allowed. beside w q allowed old.1.within;
    held = λ q inside. let on = old.1.occupied q inside in (on.0, on.1, λ r allowed. beside on.0 r allowed on.3);
  },
)
  where
    old : (X : ℕ) × IsCertificate s w X
    old = certificates w record { ready = waits.ready; not_linked = waits.not_linked }

    beside : (u q : ℕ) → IsTrue (has (effective_mask (state_with_online s p) u) q) → Within (effective_mask s u) old.0
        → (q ≡ p) ⊎ IsTrue (has old.0 q)
    beside u q allowed within =
        let parts = and_parts (has (mask_of s u) q) (has s.online q || (q == p)) (sym (effective_mask-online s p u q) ∙ allowed) in
        elim (or_cases (has s.online q) (q == p) parts.1) [
          | inl on_line ↦ inr (within q (has-intersection (mask_of s u) s.online q ∙ and_from _ _ parts.0 on_line))
          | inr same ↦ inl (eqb-true q p same)
        ]

-- ---- a task that leaves, and may come back
-- s' is s but for t, which is on no processor there
module _ (s s' new : State) (t : ℕ) (priorities : s'.priorities ≡ s.priorities) (left : is_linked s' t ≡ false)
    (stays : (p u : ℕ) → task_on s p ≡ Some u → u ≢ t → task_on s' p ≡ Some u) (stood : (p u : ℕ) → task_on s' p ≡ Some u
    → task_on s p ≡ Some u) where
  same_linked : (u : ℕ) → u ≢ t → is_linked s u ≡ is_linked s' u
  same_linked u other = same_answer _ _
      (λ h. is_linked-from_on s' (place_in u s.on) u (stays (place_in u s.on) u (task_on-linked s u h) other))
      (λ h. is_linked-from_on s (place_in u s'.on) u (stood (place_in u s'.on) u (task_on-linked s' u h)))

  same_on : (p u : ℕ) → u ≢ t → is_task u (task_on s p) ≡ is_task u (task_on s' p)
  same_on p u other = same_answer _ _
      (λ h. ap (is_task u) (stays p u (is_task-true u (task_on s p) h) other) ∙ is_task-same u)
      (λ h. ap (is_task u) (stood p u (is_task-true u (task_on s' p) h)) ∙ is_task-same u)

  same_moved : (place : ℕ → ℕ) (u : ℕ) → u ≢ t → is_moved s new place u ≡ is_moved s' new place u
  same_moved place u other = ap (λ (b : Bool). (b && is_linked new u) && not (is_task u (task_on s (place u)))) (same_linked u other)
      ∙ ap (λ (b : Bool). (is_linked s' u && is_linked new u) && not b) (same_on (place u) u other)

  not_moved : (place : ℕ → ℕ) → is_moved s' new place t ≡ false
  not_moved place = ap (λ (b : Bool). (b && is_linked new t) && not (is_task t (task_on s' (place t)))) left

  -- where t does not run then, it is not counted
  count_gone : (place : ℕ → ℕ) → is_linked new t ≡ false → moved_count s new place ≡ moved_count s' new place
  count_gone place gone = ap (λ (priorities : List ℕ). count_below (is_moved s new place) (length priorities)) (sym priorities)
      ∙ count_below-agree (is_moved s new place) (is_moved s' new place) (task_count s') (λ u lt. elim (cases_eq u t) [
        | inr other ↦ same_moved place u other
        | inl same ↦ subst (λ (v : ℕ). is_moved s new place v ≡ is_moved s' new place v) (sym same)
            (ap (λ (b : Bool). b && not (is_task t (task_on s (place t)))) (and_right (is_linked s t) (is_linked new t) gone)
            ∙ sym (not_moved place))
      ])

  -- and where every placement moves it, it is one more
  count_back : (place : ℕ → ℕ) → t < task_count s → is_moved s new place t ≡ true → moved_count s new place ≡ suc (moved_count s' new place)
  count_back place number moved = ap (λ (priorities : List ℕ). count_below (is_moved s new place) (length priorities)) (sym priorities)
      ∙ count_below-one_more (is_moved s new place) (is_moved s' new place) t (task_count s')
      (subst (λ (priorities : List ℕ). t < length priorities) (sym priorities) number) moved (not_moved place)
      (λ u lt other. same_moved place u other)

  fewest_gone : is_linked new t ≡ false → MovesFewest s' new → MovesFewest s new
  fewest_gone gone fewest own place is_own placement =
      let h = fewest own place is_own placement in let a = count_gone own gone in let b = count_gone place gone in omega arith

  fewest_back : t < task_count s → is_linked s t ≡ true → is_linked new t ≡ true → (p : ℕ) → ((q : ℕ) → task_on s q ≡ Some t → q ≡ p)
      → IsState new → (has (effective_mask new t) p ≡ false) → MovesFewest s' new → MovesFewest s new
  fewest_back number linked back p was ok barred fewest own place is_own placement =
      let h = fewest own place is_own placement in
      let a = count_back own number (moves own (ok.allowed (own t) t (is_own t back))) in
      let b = count_back place number (moves place (placement.allowed t back)) in
      omega arith
    where
      moves : (some : ℕ → ℕ) → IsTrue (has (effective_mask new t) (some t)) → is_moved s new some t ≡ true
      moves some allowed = and_from _ _ (and_from _ _ linked back) (elim (cases_Bool (is_task t (task_on s (some t)))) [
        | inr other ↦ not_false _ other
        | inl there ↦ absurd (true≢false (sym allowed
            ∙ ap (has (effective_mask new t)) (was (some t) (is_task-true t (task_on s (some t)) there)) ∙ barred))
      ])

-- ---- by event
same_state : (s new : State) → IsState s → new ≡ s → MovesFewest s new
same_state s new ok same =
    subst (MovesFewest s) (sym same) (λ own place is_own placement. (let none = stay_put s s own ok (λ p u on. on) is_own in omega arith))

arrive_moves_fewest : (s : State) → IsState s → (t : ℕ) (reply : Reply) (new : State) → t < task_count s → ArriveStep s t reply new
    → MovesFewest s new
arrive_moves_fewest s ok t reply new number (inl again) = same_state s new ok again.same
arrive_moves_fewest s ok t reply new number (inr arrives) = comes_moves_fewest s ok t number arrives.absent arrives.came new arrives.comes

depart_moves_fewest : (s : State) → IsState s → HasCertificates s → (t : ℕ) (reply : Reply) (new : State) → t < task_count s → IsState new
    → DepartStep s t reply new → MovesFewest s new
depart_moves_fewest s ok certificates t reply new number new_ok (inl again) = same_state s new ok again.same
depart_moves_fewest s ok certificates t reply new number new_ok (inr (inl waiting)) =
    subst (MovesFewest s) (sym waiting.left) (λ own place is_own placement.
    (let none = stay_put s (state_with_absent s t) own ok (λ p u on. on) is_own in omega arith))
depart_moves_fewest s ok certificates t reply new number new_ok (inr (inr linked)) =
    fewest_gone s (state_after_leaving s t) new t refl
    (not_linked-from_on (state_after_leaving s t) t (λ p on. (task_on-state_after_leaving s t p t on).1 refl))
    (λ p u on other. task_on-stays s t p u on other) (λ p u on. (task_on-state_after_leaving s t p u on).0)
    (gone linked.gone.entered linked.fills.enters)
    (enters_moves_fewest (state_after_leaving s t) (IsState-state_after_leaving s ok t) linked.place
    (task_on-left s t linked.place linked.linked)
    (held_without (state_after_leaving s t) linked.place (kept_without s ok certificates t number linked.place linked.linked))
    linked.gone.entered linked.gone.chain linked.gone.back new linked.fills.enters)
  where
    absent : is_ready (state_after_leaving s t) t ≡ false
    absent = get_or-set_same s.ready t false false (rw ok.ready_count number)

    absent_then : (entered : Option ℕ) (chain : List ℕ) (back : ℕ)
        → EnterStep (state_after_leaving s t) linked.place entered chain back new → is_ready new t ≡ false
    absent_then None chain back step = ap (λ (x : State). is_ready x t) step.2 ∙ absent
    absent_then (Some w) chain back step = ap (λ (x : State). is_ready x t) step.2 ∙ absent

    gone : (entered : Option ℕ)
        → EnterStep (state_after_leaving s t) linked.place linked.gone.entered linked.gone.chain linked.gone.back new
        → is_linked new t ≡ false
    gone entered step = not_linked-from_on new t (λ p on. true≢false (sym (new_ok.linked_ready p t on)
        ∙ absent_then linked.gone.entered linked.gone.chain linked.gone.back step))

offline_moves_fewest : (s : State) → IsState s → (p : ℕ) (reply : Reply) (new : State) → IsState new → OfflineStep s p reply new
    → MovesFewest s new
offline_moves_fewest s ok p reply new new_ok (inl again) = same_state s new ok again.same
offline_moves_fewest s ok p reply new new_ok (inr (inl idle)) =
    subst (MovesFewest s) (sym idle.off) (λ own place is_own placement.
    (let none = stay_put s (state_with_offline s p) own ok (λ q u on. on) is_own in omega arith))
offline_moves_fewest s ok p reply new new_ok (inr (inr occupied)) = elim (cases_Bool (is_linked new occupied.moved.task)) [
  | inr gone ↦ fewest_gone s (state_with_offline (state_after_leaving s occupied.moved.task) p) new occupied.moved.task refl left_t
      (λ q u on other. task_on-stays s occupied.moved.task q u on other)
      (λ q u on. (task_on-state_after_leaving s occupied.moved.task q u on).0) gone fewest
  | inl back ↦ fewest_back s (state_with_offline (state_after_leaving s occupied.moved.task) p) new occupied.moved.task refl left_t
      (λ q u on other. task_on-stays s occupied.moved.task q u on other)
      (λ q u on. (task_on-state_after_leaving s occupied.moved.task q u on).0)
      number (is_linked-from_on s p occupied.moved.task occupied.occupied) back p
      (λ q on. ok.once q p occupied.moved.task on occupied.occupied) new_ok (barred occupied.moved.came occupied.comes) fewest
]
  where
    number : occupied.moved.task < task_count s
    number = linked_number s p occupied.moved.task ok occupied.occupied

    left_t : is_linked (state_with_offline (state_after_leaving s occupied.moved.task) p) occupied.moved.task ≡ false
    left_t = not_linked-from_on (state_with_offline (state_after_leaving s occupied.moved.task) p) occupied.moved.task
        (λ q on. (task_on-state_after_leaving s occupied.moved.task q occupied.moved.task on).1 refl)

    fewest : MovesFewest (state_with_offline (state_after_leaving s occupied.moved.task) p) new
    fewest = comes_moves_fewest (state_with_offline (state_after_leaving s occupied.moved.task) p)
        (IsState-moved s ok p occupied.moved.task occupied.occupied) occupied.moved.task number
        (absent_moved s ok p occupied.moved.task occupied.occupied) occupied.moved.came new occupied.comes

    barred_there : has (effective_mask (state_with_offline (state_after_leaving s occupied.moved.task) p) occupied.moved.task) p ≡ false
    barred_there = effective_mask-offline (state_after_leaving s occupied.moved.task) p occupied.moved.task p
        ∙ and_right (has (effective_mask (state_after_leaving s occupied.moved.task) occupied.moved.task) p) (not (p == p))
        (ap not (eq-eqb p p refl))

    barred : (came : Came) → Comes (state_with_offline (state_after_leaving s occupied.moved.task) p) occupied.moved.task came new
        → has (effective_mask new occupied.moved.task) p ≡ false
    barred (Placed chain) comes = ap (λ (x : State). has (effective_mask x occupied.moved.task) p) comes.shifted ∙ barred_there
    barred (Displaced chain out reach) comes = ap (λ (x : State). has (effective_mask x occupied.moved.task) p) comes.shifted ∙ barred_there
    barred (Waits reach) comes = ap (λ (x : State). has (effective_mask x occupied.moved.task) p) comes.waits ∙ barred_there

online_moves_fewest : (s : State) → IsState s → HasCertificates s → (p : ℕ) (reply : Reply) (new : State) → p < s.processors
    → OnlineStep s p reply new → MovesFewest s new
online_moves_fewest s ok certificates p reply new number (inl again) = same_state s new ok again.same
online_moves_fewest s ok certificates p reply new number (inr fills) =
    enters_moves_fewest (state_with_online s p) (IsState-state_with_online s p ok number) p (nobody_off s ok p fills.off)
    (held_before s p certificates) fills.parts.entered fills.parts.chain fills.parts.back new fills.fills.enters

certified_step : (s : State) (event : Event) (reply : Reply) (new : State) → IsState s → HasCertificates s → IsState new
    → SchedulerStep s event reply new → ChangesNoMask event → MovesFewest s new
certified_step s (Arrive t) reply new ok certificates new_ok step no_mask = arrive_moves_fewest s ok t reply new step.0 step.1
certified_step s (Depart t) reply new ok certificates new_ok step no_mask =
    depart_moves_fewest s ok certificates t reply new step.0 new_ok step.1
certified_step s (Tick units) reply new ok certificates new_ok step no_mask = same_state s new ok step.1
certified_step s (Affinity t mask) reply new ok certificates new_ok step no_mask = absurd no_mask
certified_step s (Offline p) reply new ok certificates new_ok step no_mask = offline_moves_fewest s ok p reply new new_ok step.1
certified_step s (Online p) reply new ok certificates new_ok step no_mask = online_moves_fewest s ok certificates p reply new step.0 step.1

pub step_moves_fewest : StepMovesFewest
step_moves_fewest s event reply new ok best step no_mask =
    certified_step s event reply new ok ((best_is_certified s ok).0 best) (step_keeps_state s event reply new ok step) step no_mask

from_history : (s : State) (history : List Entry) (n : ℕ) (entry : Entry) → IsState s → HasCertificates s → IsLegalFrom s history
    → slice_get history n ≡ Some entry → ChangesNoMask entry.event
    → MovesFewest (state_after s (take n history)) (state_after s (take (suc n) history))
from_history s [] n entry ok certificates legal is no_mask = absurd (cc)
from_history s (first ∷ rest) zero entry ok certificates legal is no_mask =
    certified_step s first.event first.reply (effect_of s first) ok certificates
    (step_keeps_state s first.event first.reply (effect_of s first) ok legal.0) legal.0
    (subst (λ (e : Entry). ChangesNoMask e.event) (sym (same_Some first entry is)) no_mask)
from_history s (first ∷ rest) (suc n) entry ok certificates legal is no_mask =
    from_history (effect_of s first) rest n entry (step_keeps_state s first.event first.reply (effect_of s first) ok legal.0)
    (step_keeps_certificates s first.event first.reply (effect_of s first) ok certificates legal.0) legal.1 is no_mask

pub legal_moves_fewest : LegalMovesFewest
legal_moves_fewest set history n entry valid legal is no_mask =
    let next : n + 1 ≡ suc n = omega arith in
    subst (λ (m : ℕ). MovesFewest (state_at set history n) (state_at set history m)) (sym next)
    (from_history (start_of set) history n entry (IsState-start set valid) (HasCertificates-start set) legal is no_mask)
