-- One state and one event have one reply and one new state.
use Rattle.std.proofs.Common.{◌≡◌, ℕ, ◌<◌, ◌≤◌, true, false, List, Option, Some, None, refl, sym, ap, ◌∙◌, subst, inl, inr, ◌↔◌, IsTrue}
use Rattle.std.proofs.Common.{arith, le_antisymm}
use Rattle.std.proofs.lemmas.Bool.{cases_Bool, cases_lt, true≢false}
use Rattle.std.proofs.lemmas.List.{get_or_past}
use Rattle.std.proofs.lemmas.Option.{same_Some}
use Rattle.affinity_mask.specs.ProcSet.{has}
use Rattle.affinity_mask.proofs.Sets.{same_set}
use Rattle.task_set.specs.TaskSet.{IsMask}
use Rattle.task_set.specs.declared.event.Event.{Event}
use Rattle.task_set.specs.declared.event.Event.TheVariants.{Arrive, Depart, Tick, Affinity, Offline, Online}
use Rattle.strong_apa.specs.declared.reply.Came.{Came}
use Rattle.strong_apa.specs.declared.reply.Came.TheVariants.{Placed, Displaced, Waits}
use Rattle.strong_apa.specs.declared.reply.Gone.{Gone}
use Rattle.strong_apa.specs.declared.reply.Reply.{Reply}
use Rattle.strong_apa.specs.declared.reply.Reply.TheVariants.{Remasked, Off, On}
use Rattle.strong_apa.specs.Reply.{reply_of_came, reply_of_gone}
use Rattle.strong_apa.specs.State.{State, IsState, IsWaiting, is_ready, task_on, task_count, priority_of, state_with_mask}
use Rattle.strong_apa.specs.State.{state_with_online, state_with_offline, state_after_leaving}
use Rattle.strong_apa.specs.Chain.{IsReach, Reaches, ReachesBack, IsLeastSuch, EndsIdle, EndsOnTask, EntersBy}
use Rattle.strong_apa.specs.Step.{IsOccupied, ComesPlaced, ComesDisplaced, ComesWaits, Comes, ArriveStep, Fills, DepartsLinked, DepartStep}
use Rattle.strong_apa.specs.Step.{EnterStep, LeaveStep, Remasks, AffinityStep, OffOccupied, OfflineStep, OnlineStep, SchedulerStep}
use Rattle.strong_apa.specs.History.{state_after_reply, state_after_left}
use Rattle.strong_apa.specs.Laws.{StepIsUnique}
use Rattle.strong_apa.proofs.Changes.{IsState-state_with_online}
use Rattle.strong_apa.proofs.Least.{least_unique}
use Rattle.strong_apa.proofs.Leaving.{IsState-state_after_leaving}
use Rattle.strong_apa.proofs.Linked.{linked_number, not_on}
use Rattle.strong_apa.proofs.Masks.{effective_mask_online}
use Rattle.strong_apa.proofs.Steps.{reply_gives_new_state, leave_effect, has_left, IsState-remasked, IsState-moved}

-- two sets of the numbers with one property are equal
same_members : (X Y : ℕ) (P : ℕ → Type 0) → ((q : ℕ) → IsTrue (has X q) ↔ P q) → ((q : ℕ) → IsTrue (has Y q) ↔ P q) → X ≡ Y
same_members X Y P one other = same_set X Y (λ q. elim (cases_Bool (has X q)) [
  | inl h ↦ h ∙ sym ((other q).1 ((one q).0 h))
  | inr fails ↦ elim (cases_Bool (has Y q)) [
    | inl h ↦ absurd (true≢false (sym ((one q).1 ((other q).0 h)) ∙ fails))
    | inr both ↦ fails ∙ sym both
  ]
])

-- two tasks of the set of which neither is more urgent are one
same_urgency : (s : State) → IsState s → (t u : ℕ) → t < task_count s → u < task_count s → priority_of s t ≤ priority_of s u
    → priority_of s u ≤ priority_of s t → t ≡ u
same_urgency s ok t u number other le ge = ok.distinct t u number other (le_antisymm le ge)

-- a ready task is one of the set
pub ready_number : (s : State) → IsState s → (t : ℕ) → is_ready s t ≡ true → t < task_count s
ready_number s ok t ready = elim (cases_lt t (task_count s)) [
  | inl lt ↦ lt
  | inr ge ↦ absurd (true≢false (sym ready ∙ get_or_past s.ready t false (rw ok.ready_count ge)))
]

-- ---- what an arrival comes to
module _ (s : State) (ok : IsState s) (t : ℕ) where
  -- a task that reaches an idle processor reaches no set of occupied ones
  idle_reached : (chain : List ℕ) (new : State) → ComesPlaced s t chain new → (reach : ℕ) → IsReach s t reach → IsOccupied s reach → ⊥
  idle_reached chain new comes reach reached occupied =
      let end = comes.least.itself in
      let occupant = occupied end.0 ((reached end.0).1 (chain, end.1)) in
      let on = occupant.1 in let idle = end.2.1 in cc

  -- of the tasks that it reaches, the least urgent one is displaced, and the set and the chain are one
  displaced_same : (chain chain' : List ℕ) (out out' reach reach' : ℕ) (new next : State) → ComesDisplaced s t chain out reach new
      → ComesDisplaced s t chain' out' reach' next → Displaced chain out reach ≡ Displaced chain' out' reach'
  displaced_same chain chain' out out' reach reach' new next step step' =
      let same_reach = same_members reach reach' (Reaches s t) step.reached step'.reached in
      let there = step.out_there.there in
      let there' = step'.out_there.there in
      let same_out : out ≡ out' = same_urgency s ok out out' (linked_number s there.0 out ok there.2)
      (linked_number s there'.0 out' ok there'.2)
      (step'.out_there.least_urgent there.0 out (rw (← same_reach) there.1) there.2)
      (step.out_there.least_urgent there'.0 out' (rw same_reach there'.1) there'.2) in
      let same_chain : chain ≡ chain' = least_unique (EndsOnTask s t out') chain chain'
      (subst (λ (d : ℕ). IsLeastSuch (EndsOnTask s t d) chain) same_out step.least) step'.least in
      rw (same_chain, same_out, same_reach) refl

  -- one that reaches a less urgent task does not wait
  displaced_not_waits : (chain : List ℕ) (out reach reach' : ℕ) (new next : State) → ComesDisplaced s t chain out reach new
      → ComesWaits s t reach' next → ⊥
  displaced_not_waits chain out reach reach' new next step step' =
      let there = step.out_there.there in
      let above = step'.more_urgent there.0 ((step'.reached there.0).1 ((step.reached there.0).0 there.1)) in
      let same : above.0 ≡ out = same_Some above.0 out (sym above.1 ∙ there.2) in
      let urgent = rw same at above.2 in
      let less = step.out_less_urgent in omega arith

  all_occupied : (reach : ℕ) (new : State) → ComesWaits s t reach new → IsOccupied s reach
  all_occupied reach new waits p inside = let occupant = waits.more_urgent p inside in (occupant.0, occupant.1)

  pub comes_once : (came other : Came) (new next : State) → Comes s t came new → Comes s t other next → came ≡ other
  comes_once (Placed chain) (Placed chain') new next step step' =
      ap (λ (c : List ℕ). Placed c) (least_unique (EndsIdle s t) chain chain' step.least step'.least)
  comes_once (Placed chain) (Displaced chain' out reach) new next step step' =
      absurd (idle_reached chain new step reach step'.reached step'.occupied)
  comes_once (Placed chain) (Waits reach) new next step step' =
      absurd (idle_reached chain new step reach step'.reached (all_occupied reach next step'))
  comes_once (Displaced chain out reach) (Placed chain') new next step step' =
      absurd (idle_reached chain' next step' reach step.reached step.occupied)
  comes_once (Displaced chain out reach) (Displaced chain' out' reach') new next step step' =
      displaced_same chain chain' out out' reach reach' new next step step'
  comes_once (Displaced chain out reach) (Waits reach') new next step step' =
      absurd (displaced_not_waits chain out reach reach' new next step step')
  comes_once (Waits reach) (Placed chain) new next step step' =
      absurd (idle_reached chain next step' reach step.reached (all_occupied reach new step))
  comes_once (Waits reach) (Displaced chain out reach') new next step step' =
      absurd (displaced_not_waits chain out reach' reach next new step' step)
  comes_once (Waits reach) (Waits reach') new next step step' =
      ap (λ (X : ℕ). Waits X) (same_members reach reach' (Reaches s t) step.reached step'.reached)

-- ---- who comes in
-- one task comes in, or nobody, and along one chain
enter_once : (s : State) → IsState s → (p back : ℕ) (entered entered' : Option ℕ) (chain chain' : List ℕ) (new next : State)
    → EnterStep s p entered chain back new → EnterStep s p entered' chain' back next → (entered ≡ entered') × (chain ≡ chain')
enter_once s ok p back None None chain chain' new next step step' = (refl, step.1 ∙ sym step'.1)
enter_once s ok p back None (Some w) chain chain' new next step step' =
    absurd (step.0 w step'.0.there.0 step'.0.waits step'.0.there.1 step'.0.there.2)
enter_once s ok p back (Some w) None chain chain' new next step step' =
    absurd (step'.0 w step.0.there.0 step.0.waits step.0.there.1 step.0.there.2)
enter_once s ok p back (Some w) (Some w') chain chain' new next step step' =
    let same : w ≡ w' = same_urgency s ok w w' (ready_number s ok w step.0.waits.ready) (ready_number s ok w' step'.0.waits.ready)
    (step.0.most_urgent w' step'.0.there.0 step'.0.waits step'.0.there.1 step'.0.there.2)
    (step'.0.most_urgent w step.0.there.0 step.0.waits step.0.there.1 step.0.there.2) in
    let same_chain : chain ≡ chain' = least_unique (EntersBy s p w') chain chain'
    (subst (λ (v : ℕ). IsLeastSuch (EntersBy s p v) chain) same step.1) step'.1 in
    (ap (λ (v : ℕ). Some v) same, same_chain)

pub fills_once : (s : State) → IsState s → (p : ℕ) (gone other : Gone) (new next : State) → Fills s p gone new → Fills s p other next
    → gone ≡ other
fills_once s ok p gone other new next step step' =
    let backs : other.back ≡ gone.back = same_members other.back gone.back (ReachesBack s p) step'.reached step.reached in
    let enters = enter_once s ok p gone.back gone.entered other.entered gone.chain other.chain new next step.enters
    (subst (λ (X : ℕ). EnterStep s p other.entered other.chain X next) backs step'.enters) in
    λ i. record { entered = enters.0 i; chain = enters.1 i; back = sym backs i }

-- ---- whole steps, by the event and the state
module _ (s : State) (ok : IsState s) (t : ℕ) where
  arrive_unique : (reply other : Reply) (new next : State) → ArriveStep s t reply new → ArriveStep s t other next → reply ≡ other
  arrive_unique reply other new next (inl again) (inl again') = again.answer ∙ sym again'.answer
  arrive_unique reply other new next (inl again) (inr arrives) = absurd (true≢false (sym again.ready ∙ arrives.absent))
  arrive_unique reply other new next (inr arrives) (inl again) = absurd (true≢false (sym again.ready ∙ arrives.absent))
  arrive_unique reply other new next (inr arrives) (inr arrives') = arrives.answer
      ∙ ap reply_of_came (comes_once s ok t arrives.came arrives'.came new next arrives.comes arrives'.comes) ∙ sym arrives'.answer

  -- a task on a processor neither waits nor is absent
  linked_not_waiting : (reply : Reply) (new : State) → DepartsLinked s t reply new → IsWaiting s t → ⊥
  linked_not_waiting reply new linked waits = not_on s linked.place t waits.not_linked linked.linked

  linked_not_absent : (reply : Reply) (new : State) → DepartsLinked s t reply new → is_ready s t ≡ false → ⊥
  linked_not_absent reply new linked absent = true≢false (sym (ok.linked_ready linked.place t linked.linked) ∙ absent)

  linked_once : (reply other : Reply) (new next : State) → DepartsLinked s t reply new → DepartsLinked s t other next → reply ≡ other
  linked_once reply other new next step step' =
      let same_place : step'.place ≡ step.place = ok.once step'.place step.place t step'.linked step.linked in
      let fills' = subst (λ (p : ℕ). Fills (state_after_leaving s t) p step'.gone next) same_place step'.fills in
      step.answer ∙ ap reply_of_gone (fills_once (state_after_leaving s t) (IsState-state_after_leaving s ok t)
      step.place step.gone step'.gone new next step.fills fills') ∙ sym step'.answer

  depart_unique : (reply other : Reply) (new next : State) → DepartStep s t reply new → DepartStep s t other next → reply ≡ other
  depart_unique reply other new next (inl again) (inl again') = again.answer ∙ sym again'.answer
  depart_unique reply other new next (inl again) (inr (inl waiting)) = absurd (true≢false (sym waiting.waits.ready ∙ again.absent))
  depart_unique reply other new next (inl again) (inr (inr linked)) = absurd (linked_not_absent other next linked again.absent)
  depart_unique reply other new next (inr (inl waiting)) (inl again) = absurd (true≢false (sym waiting.waits.ready ∙ again.absent))
  depart_unique reply other new next (inr (inl waiting)) (inr (inl waiting')) = waiting.answer ∙ sym waiting'.answer
  depart_unique reply other new next (inr (inl waiting)) (inr (inr linked)) = absurd (linked_not_waiting other next linked waiting.waits)
  depart_unique reply other new next (inr (inr linked)) (inl again) = absurd (linked_not_absent reply new linked again.absent)
  depart_unique reply other new next (inr (inr linked)) (inr (inl waiting)) = absurd (linked_not_waiting reply new linked waiting.waits)
  depart_unique reply other new next (inr (inr linked)) (inr (inr linked')) = linked_once reply other new next linked linked'

  -- ---- the mask of a task changes
  -- a task that is on a processor did not wait
  leave_once : (gone other : Option Gone) (new next : State) → LeaveStep s t gone new → LeaveStep s t other next → gone ≡ other
  leave_once None None new next step step' = refl
  leave_once None (Some gone') new next step step' = absurd (not_on s step'.0 t step.0.not_linked step'.1)
  leave_once (Some gone) None new next step step' = absurd (not_on s step.0 t step'.0.not_linked step.1)
  leave_once (Some gone) (Some gone') new next step step' =
      let same_place : step'.0 ≡ step.0 = ok.once step'.0 step.0 t step'.1 step.1 in
      let fills' = subst (λ (p : ℕ). Fills (state_after_leaving s t) p gone' next) same_place step'.2 in
      ap (λ (g : Gone). Some g) (fills_once (state_after_leaving s t) (IsState-state_after_leaving s ok t)
      step.0 gone gone' new next step.2 fills')

  left_ready : (gone : Option Gone) (new : State) → LeaveStep s t gone new → is_ready s t ≡ true
  left_ready None new step = step.0.ready
  left_ready (Some gone) new step = ok.linked_ready step.0 t step.1

  remasks_once : (mask : ℕ) (reply other : Reply) (new next : State) → t < task_count s → IsMask s.processors mask
      → Remasks s t mask reply new → Remasks s t mask other next → reply ≡ other
  remasks_once mask reply other new next number lawful step step' =
      let same_gone = leave_once step.gone step'.gone step.between step'.between step.leaves step'.leaves in
      let effect' = leave_effect s t step'.gone step'.between step'.leaves in
      let same_between : step'.between ≡ step.between = effect' ∙ ap (state_after_left s t) (sym same_gone)
      ∙ sym (leave_effect s t step.gone step.between step.leaves) in
      let comes' = subst (λ (x : State). Comes (state_with_mask x t mask) t step'.came next) same_between step'.comes in
      let left = has_left s ok t mask step.gone step.between number lawful step.leaves in
      let same_came = comes_once (state_with_mask step.between t mask) (IsState-remasked s t mask step.between left)
      t step.came step'.came new next step.comes comes' in
      step.answer ∙ (λ i. Remasked (same_gone i) (same_came i)) ∙ sym step'.answer

  affinity_unique : (mask : ℕ) (reply other : Reply) (new next : State) → t < task_count s → IsMask s.processors mask
      → AffinityStep s t mask reply new → AffinityStep s t mask other next → reply ≡ other
  affinity_unique mask reply other new next number lawful (inl absent) (inl absent') = absent.answer ∙ sym absent'.answer
  affinity_unique mask reply other new next number lawful (inl absent) (inr remasks) =
      absurd (true≢false (sym (left_ready remasks.gone remasks.between remasks.leaves) ∙ absent.absent))
  affinity_unique mask reply other new next number lawful (inr remasks) (inl absent) =
      absurd (true≢false (sym (left_ready remasks.gone remasks.between remasks.leaves) ∙ absent.absent))
  affinity_unique mask reply other new next number lawful (inr remasks) (inr remasks') =
      remasks_once mask reply other new next number lawful remasks remasks'

-- ---- a processor goes off line or comes on line
module _ (s : State) (ok : IsState s) (p : ℕ) where
  -- the processor of a task is on line
  occupied_online : (t : ℕ) → task_on s p ≡ Some t → has s.online p ≡ true
  occupied_online t on = effective_mask_online s t p (ok.allowed p t on)

  moved_once : (reply other : Reply) (new next : State) → OffOccupied s p reply new → OffOccupied s p other next → reply ≡ other
  moved_once reply other new next step step' =
      let t = step.moved.task in
      let same_task : step'.moved.task ≡ t = same_Some step'.moved.task t (sym step'.occupied ∙ step.occupied) in
      let comes' = subst (λ (u : ℕ). Comes (state_with_offline (state_after_leaving s u) p) u step'.moved.came next)
      same_task step'.comes in
      let same_came = comes_once (state_with_offline (state_after_leaving s t) p) (IsState-moved s ok p t step.occupied)
      t step.moved.came step'.moved.came new next step.comes comes' in
      step.answer ∙ (λ i. Off (Some (record { task = sym same_task i; came = same_came i }))) ∙ sym step'.answer

  offline_unique : (reply other : Reply) (new next : State) → OfflineStep s p reply new → OfflineStep s p other next → reply ≡ other
  offline_unique reply other new next (inl again) (inl again') = again.answer ∙ sym again'.answer
  offline_unique reply other new next (inl again) (inr (inl idle)) = absurd (true≢false (sym idle.idle.0 ∙ again.off))
  offline_unique reply other new next (inl again) (inr (inr occupied)) =
      absurd (true≢false (sym (occupied_online occupied.moved.task occupied.occupied) ∙ again.off))
  offline_unique reply other new next (inr (inl idle)) (inl again) = absurd (true≢false (sym idle.idle.0 ∙ again.off))
  offline_unique reply other new next (inr (inl idle)) (inr (inl idle')) = idle.answer ∙ sym idle'.answer
  offline_unique reply other new next (inr (inl idle)) (inr (inr occupied)) =
      absurd (let nobody = idle.idle.1 in let on = occupied.occupied in cc)
  offline_unique reply other new next (inr (inr occupied)) (inl again) =
      absurd (true≢false (sym (occupied_online occupied.moved.task occupied.occupied) ∙ again.off))
  offline_unique reply other new next (inr (inr occupied)) (inr (inl idle)) =
      absurd (let nobody = idle.idle.1 in let on = occupied.occupied in cc)
  offline_unique reply other new next (inr (inr occupied)) (inr (inr occupied')) = moved_once reply other new next occupied occupied'

  online_unique : (reply other : Reply) (new next : State) → p < s.processors → OnlineStep s p reply new → OnlineStep s p other next
      → reply ≡ other
  online_unique reply other new next number (inl again) (inl again') = again.answer ∙ sym again'.answer
  online_unique reply other new next number (inl again) (inr fills) = absurd (true≢false (sym again.on ∙ fills.off))
  online_unique reply other new next number (inr fills) (inl again) = absurd (true≢false (sym again.on ∙ fills.off))
  online_unique reply other new next number (inr fills) (inr fills') = fills.answer
      ∙ ap (λ (g : Gone). On g) (fills_once (state_with_online s p) (IsState-state_with_online s p ok number)
      p fills.parts fills'.parts new next fills.fills fills'.fills) ∙ sym fills'.answer

reply_unique : (s : State) (event : Event) (reply other : Reply) (new next : State) → IsState s → SchedulerStep s event reply new
    → SchedulerStep s event other next → reply ≡ other
reply_unique s (Arrive t) reply other new next ok step step' = arrive_unique s ok t reply other new next step.1 step'.1
reply_unique s (Depart t) reply other new next ok step step' = depart_unique s ok t reply other new next step.1 step'.1
reply_unique s (Tick units) reply other new next ok step step' = step.0 ∙ sym step'.0
reply_unique s (Affinity t mask) reply other new next ok step step' =
    affinity_unique s ok t mask reply other new next step.0 step.1 step.2 step'.2
reply_unique s (Offline p) reply other new next ok step step' = offline_unique s ok p reply other new next step.1 step'.1
reply_unique s (Online p) reply other new next ok step step' = online_unique s ok p reply other new next step.0 step.1 step'.1

pub step_is_unique : StepIsUnique
step_is_unique s event reply other new next ok step step' =
    let same = reply_unique s event reply other new next ok step step' in (
      same,
      reply_gives_new_state s event reply new step ∙ ap (state_after_reply s event) same
          ∙ sym (reply_gives_new_state s event other next step'),
    )
