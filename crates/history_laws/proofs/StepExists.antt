-- In every state there is a step at every event of a task or a processor.
use Rattle.std.proofs.Common.{◌≡◌, ℕ, ◌<◌, ◌≤◌, true, false, List, [], ◌∷◌, reverse, Option, Some, None, refl, sym, ap, ◌∙◌, subst, inl}
use Rattle.std.proofs.Common.{inr, ◌⊎◌, IsTrue, arith, le_antisymm}
use Rattle.std.proofs.lemmas.Bool.{cases_lt, cases_Bool, true≢false}
use Rattle.std.proofs.lemmas.List.{get_or_past}
use Rattle.affinity_mask.specs.ProcSet.{has}
use Rattle.task_set.specs.TaskSet.{IsMask}
use Rattle.task_set.specs.declared.event.Event.TheVariants.{Arrive, Depart, Tick, Affinity, Offline, Online}
use Rattle.strong_apa.specs.declared.reply.Reply.{Reply}
use Rattle.strong_apa.specs.declared.reply.Came.{Came}
use Rattle.strong_apa.specs.declared.reply.Came.TheVariants.{Placed, Displaced, Waits}
use Rattle.strong_apa.specs.declared.reply.Gone.{Gone}
use Rattle.strong_apa.specs.declared.reply.Moved.{Moved}
use Rattle.strong_apa.specs.declared.reply.Reply.TheVariants.{Left, Ticked, AlreadyReady, NotReady, Masked, Remasked, AlreadyOff, AlreadyOn}
use Rattle.strong_apa.specs.declared.reply.Reply.TheVariants.{Off, On}
use Rattle.strong_apa.specs.Reply.{reply_of_came, reply_of_gone}
use Rattle.strong_apa.specs.State.{State, IsState, IsWaiting, IsMoreUrgent, task_on, task_count, is_ready, is_linked, priority_of}
use Rattle.strong_apa.specs.State.{effective_mask, state_with_ready, state_with_absent, state_with_mask, state_with_online}
use Rattle.strong_apa.specs.State.{state_with_offline, state_after_leaving}
use Rattle.strong_apa.specs.Chain.{IsReach, IsBackReach, EndsIdle, CanEnterAt, state_after_shift}
use Rattle.strong_apa.specs.Step.{IsOccupied, Comes, ArriveStep, DepartStep, EnterStep, Fills, LeaveStep, AffinityStep, OfflineStep}
use Rattle.strong_apa.specs.Step.{OnlineStep}
use Rattle.strong_apa.proofs.Changes.{IsState-state_with_online}
use Rattle.strong_apa.proofs.Ends.{has_decided, least_chain_to_idle, least_chain_to_task, least_back_chain}
use Rattle.strong_apa.proofs.Least.{Decided}
use Rattle.strong_apa.proofs.Leaving.{IsState-state_after_leaving}
use Rattle.strong_apa.proofs.Linked.{place_in, task_on-linked, linked_number, occupied_number}
use Rattle.strong_apa.proofs.Masks.{online_below, effective_mask_below}
use Rattle.strong_apa.proofs.Paths.{Reaches-online}
use Rattle.strong_apa.proofs.Steps.{has_left, IsState-remasked, IsState-moved, absent_moved}
use Rattle.history_laws.specs.StepLaws.{StepExists}
use Rattle.history_laws.proofs.StepReach.{reach_exists, back_reach_exists}
use Rattle.strong_apa.proofs.FirstFound.{FirstBelow, first_below, exists_below, both_decided, nobody_decided}

either : (x y : ℕ) → (x ≤ y) ⊎ (y ≤ x)
either x y = elim (cases_lt x y) [ inl lt ↦ inl (omega arith) | inr ge ↦ inr ge ]

-- ---- arrivals
-- what an absent task comes to
abbrev SomeComing : State → ℕ → Type 0
SomeComing s t = (came : Came) × (new : State) × Comes s t came new

-- the priority of an occupant, where there is one
abbrev priority_on : State → Option ℕ → ℕ
priority_on s None = 0
priority_on s (Some u) = priority_of s u

module _ (s : State) (ok : IsState s) (t : ℕ) (number : t < task_count s) (absent : is_ready s t ≡ false) where
  placed : (chain : List ℕ) → EndsIdle s t chain → SomeComing s t
  placed chain ends =
      let least = (least_chain_to_idle s t ok).exists chain ends in
      (Placed least.0, state_after_shift (state_with_ready s t) t least.0, record { least = least.1; shifted = refl })

  module _ (reach : ℕ) (reached : IsReach s t reach) (occupied : IsOccupied s reach) where
    waits : ((p : ℕ) → IsTrue (has reach p) → (u : ℕ) × (task_on s p ≡ Some u) × IsMoreUrgent s u t) → SomeComing s t
    waits more_urgent = (Waits reach, state_with_ready s t, record { reached = reached; more_urgent = more_urgent; waits = refl })

    -- the occupants of p are the least urgent ones that are reached
    module _ (p : ℕ) (inside : IsTrue (has reach p)) (least_urgent : (q : ℕ) → IsTrue (has reach q)
        → priority_on s (task_on s q) ≤ priority_on s (task_on s p)) (d : ℕ) (on : task_on s p ≡ Some d) where
      no_less_urgent : (q u : ℕ) → IsTrue (has reach q) → task_on s q ≡ Some u → priority_of s u ≤ priority_of s d
      no_less_urgent q u there on_q =
          let le = least_urgent q there in
          let a : priority_on s (task_on s q) ≡ priority_of s u = ap (priority_on s) on_q in
          let b : priority_on s (task_on s p) ≡ priority_of s d = ap (priority_on s) on in
          omega arith

      displaced : priority_of s t < priority_of s d → SomeComing s t
      displaced lt =
          let path = (reached p).0 inside in
          let least = (least_chain_to_task s t d ok).exists path.0 (p, path.1, on) in (
            Displaced least.0 d reach,
            state_after_shift (state_with_ready s t) t least.0,
            record {
              reached = reached;
              occupied = occupied;
              out_there = record { there = (p, inside, on); least_urgent = λ q u there on_q. no_less_urgent q u there on_q };
              out_less_urgent = lt;
              least = least.1;
              shifted = refl;
            },
          )

      -- an occupant is another task than the one that arrives, and so it has another priority
      kept_out : priority_of s d ≤ priority_of s t → SomeComing s t
      kept_out le = waits (λ q there.
          let u = (occupied q there).0 in
          let on_q = (occupied q there).1 in
          let below = no_less_urgent q u there on_q in (
            u,
            on_q,
            elim (cases_lt (priority_of s u) (priority_of s t)) [
              | inl lt ↦ lt
              | inr ge ↦ absurd (true≢false (sym (ok.linked_ready q u on_q)
                  ∙ subst (λ (v : ℕ). is_ready s v ≡ false)
                  (sym (ok.distinct u t (linked_number s q u ok on_q) number (le_antisymm (omega arith) ge))) absent))
            ],
          ))

    -- p comes before q where its occupant is no more urgent
    abbrev NoMoreUrgentOn : ℕ → ℕ → Type 0
    NoMoreUrgentOn p q = priority_on s (task_on s q) ≤ priority_on s (task_on s p)

    all_occupied : SomeComing s t
    all_occupied = go (first_below (λ p. IsTrue (has reach p)) (has_decided reach) NoMoreUrgentOn
        (λ p q. either (priority_on s (task_on s q)) (priority_on s (task_on s p))) (λ p q r le more. omega arith) s.processors)
      where
        inside_below : (p : ℕ) → IsTrue (has reach p) → p < s.processors
        inside_below p there = let u = occupied p there in occupied_number s p u.0 ok u.1

        go : FirstBelow (λ p. IsTrue (has reach p)) NoMoreUrgentOn s.processors → SomeComing s t
        go (inr none) = waits (λ p there. absurd (none p (inside_below p there) there))
        go (inl found) =
            let p = found.0 in
            let d = occupied p found.2 in
            let least_urgent : (q : ℕ) → IsTrue (has reach q)
            → priority_on s (task_on s q) ≤ priority_on s (task_on s p) = λ q there. found.3 q (inside_below q there) there in
            elim (cases_lt (priority_of s t) (priority_of s d.0)) [
              | inl lt ↦ displaced p found.2 least_urgent d.0 d.1 lt
              | inr ge ↦ kept_out p found.2 least_urgent d.0 d.1 ge
            ]

  pub comes_exists : SomeComing s t
  comes_exists =
      let reach = (reach_exists s ok t).0 in
      let reached = (reach_exists s ok t).1 in
      elim (exists_below (λ q. IsTrue (has reach q) × (task_on s q ≡ None))
      (λ q. both_decided (IsTrue (has reach q)) (task_on s q ≡ None) (has_decided reach q) (nobody_decided (task_on s q))) s.processors) [
        | inl found ↦ (let path = (reached found.0).0 found.2.0 in
            placed path.0 (found.0, path.1, (Reaches-online s t found.0 path, found.2.1)))
        | inr none ↦ all_occupied reach reached (λ p there. occupant_of p reach reached none there (task_on s p) refl)
      ]
    where
      occupant_of : (p reach : ℕ) → IsReach s t reach → ((q : ℕ) × (q < s.processors) × (IsTrue (has reach q) × (task_on s q ≡ None)) → ⊥)
          → IsTrue (has reach p) → (o : Option ℕ) → task_on s p ≡ o → (u : ℕ) × (task_on s p ≡ Some u)
      occupant_of p reach reached none there None idle =
          absurd (none (p, online_below s ok p (Reaches-online s t p ((reached p).0 there)), (there, idle)))
      occupant_of p reach reached none there (Some u) on = (u, on)

abbrev SomeArriveStep : State → ℕ → Type 0
SomeArriveStep s t = (reply : Reply) × (new : State) × ArriveStep s t reply new

arrive_exists : (s : State) → IsState s → (t : ℕ) → t < task_count s → SomeArriveStep s t
arrive_exists s ok t number = elim (cases_Bool (is_ready s t)) [
  | inl ready ↦ (AlreadyReady, s, inl record { ready = ready; answer = refl; same = refl })
  | inr absent ↦
      let found = comes_exists s ok t number absent in
      (reply_of_came found.0, found.1, inr record { absent = absent; came = found.0; answer = refl; comes = found.2 })
]

-- ---- a processor becomes idle
abbrev SomeEnterStep : State → ℕ → ℕ → Type 0
SomeEnterStep s p back = (entered : Option ℕ) × (chain : List ℕ) × (new : State) × EnterStep s p entered chain back new

-- a waiting task is one of the tasks
waiting_number : (s : State) → IsState s → (v : ℕ) → IsWaiting s v → v < task_count s
waiting_number s ok v waiting = elim (cases_lt v (task_count s)) [
  | inl lt ↦ lt
  | inr ge ↦ absurd (true≢false (sym waiting.ready ∙ get_or_past s.ready v false (rw ok.ready_count ge)))
]

waiting_decided : (s : State) (v : ℕ) → Decided (IsWaiting s v)
waiting_decided s v = elim (cases_Bool (is_ready s v)) [
  | inl ready ↦ elim (cases_Bool (is_linked s v)) [
    | inl linked ↦ inr (λ h. true≢false (sym linked ∙ h.not_linked))
    | inr free ↦ inl (record { ready = ready; not_linked = free })
  ]
  | inr absent ↦ inr (λ h. true≢false (sym h.ready ∙ absent))
]

-- who comes in where p has become idle
module _ (s : State) (ok : IsState s) (p : ℕ) (inside : p < s.processors) (back : ℕ) (reached : IsBackReach s p back) where
  -- v can enter at a processor of the set
  abbrev EntersSomewhere : ℕ → Type 0
  EntersSomewhere v = (q : ℕ) × (q < s.processors) × (IsTrue (has back q) × CanEnterAt s v q)

  -- v waits, and can enter so
  abbrev MayComeIn : ℕ → Type 0
  MayComeIn v = IsWaiting s v × EntersSomewhere v

  may_come_in_decided : (v : ℕ) → Decided (MayComeIn v)
  may_come_in_decided v =
      both_decided (IsWaiting s v) (EntersSomewhere v) (waiting_decided s v)
      (exists_below (λ q. IsTrue (has back q) × CanEnterAt s v q)
      (λ q. both_decided (IsTrue (has back q)) (CanEnterAt s v q) (has_decided back q) (has_decided (effective_mask s v) q))
      s.processors)

  may_come_in : (v q : ℕ) → IsWaiting s v → IsTrue (has back q) → CanEnterAt s v q → MayComeIn v
  may_come_in v q waiting there enters = (waiting, (q, effective_mask_below s ok v q enters, (there, enters)))

  -- v is no less urgent than w
  abbrev NoLessUrgent : ℕ → ℕ → Type 0
  NoLessUrgent v w = priority_of s v ≤ priority_of s w

  enter_exists : SomeEnterStep s p back
  enter_exists = go (first_below MayComeIn may_come_in_decided NoLessUrgent (λ v w. either (priority_of s v) (priority_of s w))
      (λ u v w le more. omega arith) (task_count s))
    where
      go : FirstBelow MayComeIn NoLessUrgent (task_count s) → SomeEnterStep s p back
      go (inr none) = (
        None,
        p ∷ [],
        s,
        (
          (λ v q waiting there enters. none v (waiting_number s ok v waiting)
              (may_come_in v q waiting there enters)),
          refl,
          refl,
        ),
      )
      go (inl found) =
          let w = found.0 in
          let q = found.2.1.0 in
          let there = found.2.1.2.0 in
          let enters = found.2.1.2.1 in
          let path = (reached q).0 there in
          let least = (least_back_chain s p w ok inside).exists path.0 (q, path.1, enters) in (
            Some w,
            least.0,
            state_after_shift s w (reverse least.0),
            (
              record {
                waits = found.2.0;
                there = (q, there, enters);
                most_urgent = λ v r waiting inside_back enters_r. found.3 v (waiting_number s ok v waiting)
                    (may_come_in v r waiting inside_back enters_r);
              },
              least.1,
              refl,
            ),
          )

-- whoever comes in
fill_exists : (s : State) → IsState s → (p : ℕ) → p < s.processors → (gone : Gone) × (new : State) × Fills s p gone new
fill_exists s ok p inside =
    let back = back_reach_exists s ok p inside in
    let step = enter_exists s ok p inside back.0 back.1 in
    (record { entered = step.0; chain = step.1; back = back.0 }, step.2, record { reached = back.1; enters = step.3 })

-- ---- departures
-- a ready task leaves
leave_exists : (s : State) → IsState s → (t : ℕ) → is_ready s t ≡ true → (gone : Option Gone) × (between : State)
    × LeaveStep s t gone between
leave_exists s ok t ready = elim (cases_Bool (is_linked s t)) [
  | inl linked ↦
      let p = place_in t s.on in
      let on = task_on-linked s t linked in
      let filled = fill_exists (state_after_leaving s t) (IsState-state_after_leaving s ok t) p (occupied_number s p t ok on) in
      (Some filled.0, filled.1, (p, on, filled.2))
  | inr free ↦ (None, state_with_absent s t, (record { ready = ready; not_linked = free }, refl))
]

abbrev SomeDepartStep : State → ℕ → Type 0
SomeDepartStep s t = (reply : Reply) × (new : State) × DepartStep s t reply new

departs : (s : State) (t : ℕ) (gone : Option Gone) (new : State) → LeaveStep s t gone new → SomeDepartStep s t
departs s t None new leaves = (Left, new, inr (inl record { waits = leaves.0; answer = refl; left = leaves.1 }))
departs s t (Some gone) new leaves =
    (reply_of_gone gone, new, inr (inr record { place = leaves.0; linked = leaves.1; gone = gone; answer = refl; fills = leaves.2 }))

depart_exists : (s : State) → IsState s → (t : ℕ) → SomeDepartStep s t
depart_exists s ok t = elim (cases_Bool (is_ready s t)) [
  | inl ready ↦ let found = leave_exists s ok t ready in departs s t found.0 found.1 found.2
  | inr absent ↦ (NotReady, s, inl record { absent = absent; answer = refl; same = refl })
]

-- ---- changes of masks
affinity_exists : (s : State) → IsState s → (t mask : ℕ) → t < task_count s → IsMask s.processors mask → (reply : Reply) × (new : State)
    × AffinityStep s t mask reply new
affinity_exists s ok t mask number lawful = elim (cases_Bool (is_ready s t)) [
  | inl ready ↦
      let gone = leave_exists s ok t ready in
      let left = has_left s ok t mask gone.0 gone.1 number lawful gone.2 in
      let came = comes_exists (state_with_mask gone.1 t mask) (IsState-remasked s t mask gone.1 left) t left.number left.absent in (
        Remasked gone.0 came.0,
        came.1,
        inr record {
          gone = gone.0;
          came = came.0;
          answer = refl;
          between = gone.1;
          leaves = gone.2;
          comes = came.2;
        },
      )
  | inr absent ↦ (Masked, state_with_mask s t mask, inl record { absent = absent; answer = refl; masked = refl })
]

-- ---- processors
module _ (s : State) (ok : IsState s) (p : ℕ) where
  abbrev SomeOfflineStep : Type 0
  SomeOfflineStep = (reply : Reply) × (new : State) × OfflineStep s p reply new

  goes_off : IsTrue (has s.online p) → (o : Option ℕ) → task_on s p ≡ o → SomeOfflineStep
  goes_off online None idle = (Off None, state_with_offline s p, inr (inl record { idle = (online, idle); answer = refl; off = refl }))
  goes_off online (Some t) on =
      let came = comes_exists (state_with_offline (state_after_leaving s t) p) (IsState-moved s ok p t on) t (linked_number s p t ok on)
      (absent_moved s ok p t on) in
      let moved : Moved = record { task = t; came = came.0 } in
      (Off (Some moved), came.1, inr (inr record { moved = moved; occupied = on; answer = refl; comes = came.2 }))

  offline_exists : SomeOfflineStep
  offline_exists = elim (cases_Bool (has s.online p)) [
    | inl online ↦ goes_off online (task_on s p) refl
    | inr off ↦ (AlreadyOff, s, inl record { off = off; answer = refl; same = refl })
  ]

  online_exists : p < s.processors → (reply : Reply) × (new : State) × OnlineStep s p reply new
  online_exists inside = elim (cases_Bool (has s.online p)) [
    | inl online ↦ (AlreadyOn, s, inl record { on = online; answer = refl; same = refl })
    | inr off ↦
        let filled = fill_exists (state_with_online s p) (IsState-state_with_online s p ok inside) p inside in
        (On filled.0, filled.1, inr record { off = off; parts = filled.0; answer = refl; fills = filled.2 })
  ]

-- ---- all events
pub step_exists : StepExists
step_exists s (Arrive t) ok number = let step = arrive_exists s ok t number in (step.0, step.1, (number, step.2))
step_exists s (Depart t) ok number = let step = depart_exists s ok t in (step.0, step.1, (number, step.2))
step_exists s (Tick units) ok tick = (Ticked, s, (refl, refl))
step_exists s (Affinity t mask) ok known =
    let step = affinity_exists s ok t mask known.0 known.1 in (step.0, step.1, (known.0, known.1, step.2))
step_exists s (Offline p) ok number = let step = offline_exists s ok p in (step.0, step.1, (number, step.2))
step_exists s (Online p) ok number = let step = online_exists s ok p number in (step.0, step.1, (number, step.2))
