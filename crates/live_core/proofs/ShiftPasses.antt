-- What the scheduler's shifts do, as occupants that are passed on.
use Rattle.std.proofs.Common.{◌≡◌, ◌≢◌, ℕ, zero, suc, ◌+◌, ◌<◌, ◌≤◌, List, [], ◌∷◌, length, get_or, reverse, Option, Some, None, false}
use Rattle.std.proofs.Common.{refl, sym, ap, subst, ◌∙◌, inl, inr, ◌⊎◌, arith, get_or-set_same}
use Rattle.std.proofs.lemmas.Bool.{cases_eq, false≢true}
use Rattle.std.proofs.lemmas.List.{length-reverse}
use Rattle.std.proofs.lemmas.List.FromFn.{get_or-map-range_with_len, length-map-range_with_len}
use Rattle.std.proofs.lemmas.Option.{same_Some}
use Rattle.strong_apa.specs.declared.reply.Came.{Came}
use Rattle.strong_apa.specs.declared.reply.Came.TheVariants.{Placed, Displaced, Waits}
use Rattle.strong_apa.specs.declared.reply.Gone.{Gone}
use Rattle.strong_apa.specs.Reply.{came_chain}
use Rattle.strong_apa.specs.State.{State, IsState, task_on, task_count, is_ready, state_with_ready, state_after_leaving}
use Rattle.strong_apa.specs.Chain.{IsWalk, IsChainOf, IsSimple, occupant_after_shift, state_after_shift}
use Rattle.strong_apa.specs.Step.{Comes, Fills, EnterStep}
use Rattle.strong_apa.proofs.Ends.{least_chain_to_idle, least_chain_to_task, least_back_chain}
use Rattle.strong_apa.proofs.Leaving.{task_on-state_after_leaving, task_on-stays, task_on-left, IsState-state_after_leaving}
use Rattle.strong_apa.proofs.Linked.{not_on, linked_number, occupied_number}
use Rattle.strong_apa.proofs.Paths.{IsChainOf-reverse}
use Rattle.strong_apa.proofs.Shifts.{occupant-first, occupant-later, chain_below}
use Rattle.strong_apa.proofs.Readiness.{IsState-state_with_ready}
use Rattle.strong_apa.proofs.Simple.{IsSimple-reverse}
use Rattle.strong_apa.proofs.Steps.{IsChainOf-state_with_ready}
use Rattle.live_core.specs.Moves.{occupant_at, IsNowhere}
use Rattle.live_core.specs.MoveData.{PassesOn, occupant_passed}
use Rattle.live_core.proofs.PassingOn.{passed-first, passed-later}

-- the occupants are those of a state but for one processor, which has nobody in the state
pub record AreOn (s : State) (on : List (Option ℕ)) (last : ℕ) : Type 0 where
  pub count : length on ≡ s.processors
  pub there : (p u : ℕ) → task_on s p ≡ Some u → occupant_at on p ≡ Some u
  pub same : (p : ℕ) → p ≢ last → occupant_at on p ≡ task_on s p

pub AreOn-itself : (s : State) → IsState s → (last : ℕ) → AreOn s s.on last
AreOn-itself s ok last = record { count = ok.on_count; there = λ p u h. h; same = λ p ne. refl }

-- each processor of a chain but the last has somebody
walk_somebody : (s : State) (p : ℕ) (rest : List ℕ) (q : ℕ) → IsWalk s p rest q → (i : ℕ) → i < length rest
    → (u : ℕ) × (task_on s (get_or (p ∷ rest) i 0) ≡ Some u)
walk_somebody s p [] q walk i fits = absurd (omega arith)
walk_somebody s p (r ∷ rest) q walk zero fits = (walk.0.0, walk.0.1)
walk_somebody s p (r ∷ rest) q walk (suc i) fits = walk_somebody s r rest q walk.1 i (omega arith)

chain_somebody : (s : State) (t : ℕ) (chain : List ℕ) (q : ℕ) → IsChainOf s t chain q → (i : ℕ) → i + 1 < length chain
    → (u : ℕ) × (task_on s (get_or chain i 0) ≡ Some u)
chain_somebody s t [] q c i fits = absurd c
chain_somebody s t (x ∷ rest) q c i fits = walk_somebody s x rest q c.1 i (omega arith)

-- occupants are passed on along a chain as a shift moves tasks
passed_walk : (s : State) (on : List (Option ℕ)) (last : ℕ) → AreOn s on last → (guest : Option ℕ) (x : ℕ) (rest : List ℕ)
    → IsWalk s x rest last → (p : ℕ) → occupant_passed on guest (x ∷ rest) p ≡ occupant_after_shift s guest (x ∷ rest) p
passed_walk s on last are guest x [] walk p = elim (cases_eq p x) [
  | inl same ↦ rw same (passed-first on guest x [] ∙ sym (occupant-first s guest x []))
  | inr ne ↦ passed-later on guest x [] p ne ∙ are.same p (λ e. ne (e ∙ sym walk)) ∙ sym (occupant-later s guest x [] p ne)
]
passed_walk s on last are guest x (r ∷ rest) walk p = go (cases_eq p x) (passed_walk s on last are (task_on s x) r rest walk.1 p)
  where
    go : (p ≡ x) ⊎ (p ≡ x → ⊥) → occupant_passed on (task_on s x) (r ∷ rest) p ≡ occupant_after_shift s (task_on s x) (r ∷ rest) p
        → occupant_passed on guest (x ∷ r ∷ rest) p ≡ occupant_after_shift s guest (x ∷ r ∷ rest) p
    go (inl same) later = rw same (passed-first on guest x (r ∷ rest) ∙ sym (occupant-first s guest x (r ∷ rest)))
    go (inr ne) later =
        passed-later on guest x (r ∷ rest) p ne
        ∙ ap (λ (o : Option ℕ). occupant_passed on o (r ∷ rest) p) (are.there x walk.0.0 walk.0.1 ∙ sym walk.0.1)
        ∙ later ∙ sym (occupant-later s guest x (r ∷ rest) p ne)

passed_chain : (s : State) (on : List (Option ℕ)) (t last : ℕ) → AreOn s on last → (guest : Option ℕ) (chain : List ℕ)
    → IsChainOf s t chain last → (p : ℕ) → occupant_passed on guest chain p ≡ occupant_after_shift s guest chain p
passed_chain s on t last are guest [] c p = absurd c
passed_chain s on t last are guest (x ∷ rest) c p = passed_walk s on last are guest x rest c.1 p

-- a shift of a task along a simple chain
pub shift_passes : (s : State) → IsState s → (on : List (Option ℕ)) (t last : ℕ) → AreOn s on last → (chain : List ℕ)
    → IsChainOf s t chain last → IsSimple chain → length chain ≤ 64 → IsNowhere on t
    → PassesOn on (Some t) chain (state_after_shift s t chain).on
shift_passes s ok on t last are chain is_chain simple fits nowhere = record {
  can = record {
    simple = simple;
    below = λ i lt. rw are.count (chain_below s ok t chain last is_chain i lt);
    somebody = λ i lt. let u = chain_somebody s t chain last is_chain i lt in (u.0, are.there (get_or chain i 0) u.0 u.1);
  };
  nowhere = λ some x e. subst (IsNowhere on) (same_Some t x e) nowhere;
  fits = fits;
  count = length-map-range_with_len (occupant_after_shift s (Some t) chain) 0 s.processors ∙ sym are.count;
  passed = λ p lt.
      get_or-map-range_with_len (occupant_after_shift s (Some t) chain) 0 s.processors p p None (rw (← are.count) lt) (omega arith)
      ∙ sym (passed_chain s on t last are (Some t) chain is_chain p);
}

-- nobody moves
pub nothing_passes : (on : List (Option ℕ)) (guest : Option ℕ) → PassesOn on guest [] on
nothing_passes on guest = record {
  can = record {
    simple = λ i j d lt fits. absurd (omega arith);
    below = λ i lt. absurd (omega arith);
    somebody = λ i lt. absurd (omega arith);
  };
  nowhere = λ some. absurd (omega arith);
  fits = omega arith;
  count = refl;
  passed = λ p lt. refl;
}

-- an absent task is on no processor
pub absent_is_nowhere : (s : State) → IsState s → (t : ℕ) → is_ready s t ≡ false → IsNowhere s.on t
absent_is_nowhere s ok t absent p on = false≢true (sym absent ∙ ok.linked_ready p t on)

along : (s : State) → IsState s → (t : ℕ) → t < task_count s → is_ready s t ≡ false → (chain : List ℕ) (last : ℕ) → IsChainOf s t chain last
    → IsSimple chain → length chain ≤ 64
    → PassesOn s.on (Some t) chain (state_after_shift (state_with_ready s t) t chain).on
along s ok t number absent chain last is_chain simple fits =
    let ready = IsState-state_with_ready s ok t number in
    shift_passes (state_with_ready s t) ready s.on t last (AreOn-itself (state_with_ready s t) ready last) chain
    (IsChainOf-state_with_ready s t chain last is_chain) simple fits (absent_is_nowhere s ok t absent)

-- what an absent task comes to
pub come_passes : (s : State) → IsState s → (t : ℕ) → t < task_count s → is_ready s t ≡ false → (came : Came) (new : State)
    → Comes s t came new → PassesOn s.on (Some t) (came_chain came) new.on
come_passes s ok t number absent (Placed chain) new comes =
    let least = least_chain_to_idle s t ok in
    rw comes.shifted (along s ok t number absent chain comes.least.itself.0 comes.least.itself.1 (least.simple chain comes.least)
    (least.fits chain comes.least))
come_passes s ok t number absent (Displaced chain out reach) new comes =
    let least = least_chain_to_task s t out ok in
    rw comes.shifted (along s ok t number absent chain comes.least.itself.0 comes.least.itself.1 (least.simple chain comes.least)
    (least.fits chain comes.least))
come_passes s ok t number absent (Waits reach) new comes = rw comes.waits (nothing_passes s.on (Some t))

-- ---- a processor that becomes idle
-- whoever was on it is not ready
abbrev pub WasLeft : State → List (Option ℕ) → ℕ → Type 0
WasLeft s on p = (u : ℕ) → occupant_at on p ≡ Some u → is_ready s u ≡ false

-- its occupant stops
pub stop_passes : (s : State) (on : List (Option ℕ)) (p : ℕ) → AreOn s on p → length s.on ≡ s.processors → p < s.processors
    → task_on s p ≡ None → PassesOn on None (p ∷ []) s.on
stop_passes s on p are count below nobody = record {
  can = record {
    simple = λ i j d lt fits. absurd (omega arith);
    below = λ i lt. alone i lt;
    somebody = λ i lt. absurd (omega arith);
  };
  nowhere = λ some x e. cc;
  fits = omega arith;
  count = count ∙ sym are.count;
  passed = λ q lt. elim (cases_eq q p) [
    | inl same ↦ rw same (nobody ∙ sym (passed-first on None p []))
    | inr ne ↦ sym (passed-later on None p [] q ne ∙ are.same q ne)
  ];
}
  where
    alone : (i : ℕ) → i < 1 → get_or (p ∷ []) i 0 < length on
    alone zero lt = rw are.count below
    alone (suc i) lt = absurd (omega arith)

-- and somebody comes in, or nobody
enter_passes : (s : State) → IsState s → (on : List (Option ℕ)) (p : ℕ) → AreOn s on p → WasLeft s on p → p < s.processors
    → task_on s p ≡ None
    → (entered : Option ℕ) (chain : List ℕ) (back : ℕ) (new : State) → EnterStep s p entered chain back new
    → PassesOn on entered (reverse chain) new.on
enter_passes s ok on p are left below nobody None chain back new step =
    rw (step.1, step.2) (stop_passes s on p are ok.on_count below nobody)
enter_passes s ok on p are left below nobody (Some w) chain back new step =
    let least = least_back_chain s p w ok below in
    let waits = step.0.waits in
    rw step.2
    (shift_passes s ok on w p are (reverse chain) (IsChainOf-reverse s p w chain step.1.itself.0 step.1.itself.1 step.1.itself.2)
    (IsSimple-reverse chain (least.simple chain step.1)) (rw length-reverse (least.fits chain step.1))
    (λ q there. elim (cases_eq q p) [
      | inl same ↦ false≢true (sym (left w (rw same at there)) ∙ waits.ready)
      | inr ne ↦ not_on s q w waits.not_linked (sym (are.same q ne) ∙ there)
    ]))

pub fill_passes : (s : State) → IsState s → (on : List (Option ℕ)) (p : ℕ) → AreOn s on p → WasLeft s on p → p < s.processors
    → task_on s p ≡ None
    → (gone : Gone) (new : State) → Fills s p gone new → PassesOn on gone.entered (reverse gone.chain) new.on
fill_passes s ok on p are left below nobody gone new fills =
    enter_passes s ok on p are left below nobody gone.entered gone.chain gone.back new fills.enters

-- ---- a task that leaves its processor
same_occupant : (a b : Option ℕ) → ((u : ℕ) → a ≡ Some u → b ≡ Some u) → ((u : ℕ) → b ≡ Some u → a ≡ Some u) → a ≡ b
same_occupant None None there back = refl
same_occupant None (Some u) there back = back u refl
same_occupant (Some u) b there back = sym (there u refl)

AreOn-left : (s : State) → IsState s → (t place : ℕ) → task_on s place ≡ Some t → AreOn (state_after_leaving s t) s.on place
AreOn-left s ok t place linked = record {
  count = ok.on_count;
  there = λ p u on. (task_on-state_after_leaving s t p u on).0;
  same = λ p ne. same_occupant (task_on s p) (task_on (state_after_leaving s t) p)
      (λ u on. task_on-stays s t p u on (λ e. ne (ok.once p place t (rw e at on) linked)))
      (λ u on. (task_on-state_after_leaving s t p u on).0);
}

-- it stops
pub leaver_stops : (s : State) → IsState s → (t place : ℕ) → task_on s place ≡ Some t
    → PassesOn s.on None (place ∷ []) (state_after_leaving s t).on
leaver_stops s ok t place linked =
    let left = IsState-state_after_leaving s ok t in
    stop_passes (state_after_leaving s t) s.on place (AreOn-left s ok t place linked) left.on_count (occupied_number s place t ok linked)
    (task_on-left s t place linked)

-- and its processor is filled
pub left_passes : (s : State) → IsState s → (t place : ℕ) → task_on s place ≡ Some t → (gone : Gone) (new : State)
    → Fills (state_after_leaving s t) place gone new → PassesOn s.on gone.entered (reverse gone.chain) new.on
left_passes s ok t place linked gone new fills =
    fill_passes (state_after_leaving s t) (IsState-state_after_leaving s ok t) s.on place (AreOn-left s ok t place linked)
    (λ u on. rw (same_Some u t (sym on ∙ linked))
    (get_or-set_same s.ready t false false (rw ok.ready_count (linked_number s place t ok linked))))
    (occupied_number s place t ok linked) (task_on-left s t place linked) gone new fills
