-- What each event with its reply does, as occupants that are passed on.
use Rattle.std.proofs.Common.{◌≡◌, ℕ, ◌<◌, List, reverse, Option, Some, None, refl, sym, ap, subst, ◌∙◌, inl, inr}
use Rattle.std.proofs.lemmas.Bool.{false≢true}
use Rattle.task_set.specs.TaskSet.{IsMask}
use Rattle.task_set.specs.declared.event.Event.{Event}
use Rattle.task_set.specs.declared.event.Event.TheVariants.{Arrive, Depart, Tick, Affinity, Offline, Online}
use Rattle.strong_apa.specs.declared.reply.Came.{Came}
use Rattle.strong_apa.specs.declared.reply.Came.TheVariants as came
use Rattle.strong_apa.specs.declared.reply.Gone.{Gone}
use Rattle.strong_apa.specs.declared.reply.Reply.{Reply}
use Rattle.strong_apa.specs.declared.reply.Reply.TheVariants.{Remasked}
use Rattle.strong_apa.specs.Reply.{reply_of_came, came_chain, filling_chain, coming_chain}
use Rattle.strong_apa.specs.State.{State, IsState, task_on, task_count, state_with_mask, state_with_online, state_with_offline}
use Rattle.strong_apa.specs.State.{state_after_leaving}
use Rattle.strong_apa.specs.Step.{SchedulerStep, ArriveStep, DepartStep, AffinityStep, OfflineStep, OnlineStep, LeaveStep}
use Rattle.strong_apa.proofs.Changes.{IsState-state_with_online}
use Rattle.strong_apa.proofs.Linked.{linked_number}
use Rattle.strong_apa.proofs.Masks.{effective_mask_online}
use Rattle.strong_apa.proofs.Steps.{has_left, IsState-remasked, IsState-moved, absent_moved}
use Rattle.live_core.specs.MoveData.{PassesOn, PassesOnTwice, OfflinePassesOn, EventLeadsTo, entered_by, moved_of}
use Rattle.live_core.proofs.ShiftPasses.{AreOn-itself, nothing_passes, come_passes, fill_passes, leaver_stops, left_passes}

coming : (c : Came) → coming_chain (reply_of_came c) ≡ came_chain c
coming (came.Placed chain) = refl
coming (came.Displaced chain out reach) = refl
coming (came.Waits reach) = refl

arrive_passes : (s : State) → IsState s → (t : ℕ) → t < task_count s → (reply : Reply) (new : State) → ArriveStep s t reply new
    → PassesOn s.on (Some t) (coming_chain reply) new.on
arrive_passes s ok t number reply new (inl again) = rw (again.answer, again.same) (nothing_passes s.on (Some t))
arrive_passes s ok t number reply new (inr arrives) =
    rw (arrives.answer, coming) (come_passes s ok t number arrives.absent arrives.came new arrives.comes)

depart_passes : (s : State) → IsState s → (t : ℕ) (reply : Reply) (new : State) → DepartStep s t reply new
    → PassesOn s.on (entered_by reply) (reverse (filling_chain reply)) new.on
depart_passes s ok t reply new (inl again) = rw (again.answer, again.same) (nothing_passes s.on None)
depart_passes s ok t reply new (inr (inl waiting)) = rw (waiting.answer, waiting.left) (nothing_passes s.on None)
depart_passes s ok t reply new (inr (inr linked)) =
    rw linked.answer (left_passes s ok t linked.place linked.linked linked.gone new linked.fills)

leave_passes : (s : State) → IsState s → (t : ℕ) (gone : Option Gone) (c : Came) (between : State) → LeaveStep s t gone between
    → PassesOn s.on (entered_by (Remasked gone c)) (reverse (filling_chain (Remasked gone c))) between.on
leave_passes s ok t None c between leaves = rw leaves.1 (nothing_passes s.on None)
leave_passes s ok t (Some gone) c between leaves = left_passes s ok t leaves.0 leaves.1 gone between leaves.2

affinity_passes : (s : State) → IsState s → (t mask : ℕ) → t < task_count s → IsMask s.processors mask → (reply : Reply) (new : State)
    → AffinityStep s t mask reply new
    → PassesOnTwice s.on (entered_by reply) (reverse (filling_chain reply)) (Some t) (coming_chain reply) new.on
affinity_passes s ok t mask number fits reply new (inl absent) =
    rw (absent.answer, absent.masked) (s.on, nothing_passes s.on None, nothing_passes s.on (Some t))
affinity_passes s ok t mask number fits reply new (inr remasks) =
    let left = has_left s ok t mask remasks.gone remasks.between number fits remasks.leaves in
    rw remasks.answer (
      remasks.between.on,
      leave_passes s ok t remasks.gone remasks.came remasks.between remasks.leaves,
      come_passes (state_with_mask remasks.between t mask) (IsState-remasked s t mask remasks.between left)
          t left.number left.absent remasks.came new remasks.comes,
    )

offline_passes : (s : State) → IsState s → (p : ℕ) (reply : Reply) (new : State) → OfflineStep s p reply new
    → OfflinePassesOn s.on p (moved_of reply) new.on
offline_passes s ok p reply new (inl again) = rw (again.answer, again.same) refl
offline_passes s ok p reply new (inr (inl idle)) = rw (idle.answer, idle.off) refl
offline_passes s ok p reply new (inr (inr occupied)) =
    let t = occupied.moved.task in
    rw occupied.answer (
      (state_after_leaving s t).on,
      leaver_stops s ok t p occupied.occupied,
      come_passes (state_with_offline (state_after_leaving s t) p) (IsState-moved s ok p t occupied.occupied) t
          (linked_number s p t ok occupied.occupied) (absent_moved s ok p t occupied.occupied) occupied.moved.came new occupied.comes,
    )

online_passes : (s : State) → IsState s → (p : ℕ) → p < s.processors → (reply : Reply) (new : State) → OnlineStep s p reply new
    → PassesOn s.on (entered_by reply) (reverse (filling_chain reply)) new.on
online_passes s ok p number reply new (inl again) = rw (again.answer, again.same) (nothing_passes s.on None)
online_passes s ok p number reply new (inr fills) =
    rw fills.answer (fill_passes (state_with_online s p) (IsState-state_with_online s p ok number) s.on p
    (AreOn-itself (state_with_online s p) (IsState-state_with_online s p ok number) p) (λ u on. absurd (nobody u on)) number
    (free (task_on s p) refl) fills.parts new fills.fills)
  where
    nobody : (u : ℕ) → task_on s p ≡ Some u → ⊥
    nobody u on = false≢true (sym fills.off ∙ effective_mask_online s u p (ok.allowed p u on))

    free : (o : Option ℕ) → task_on s p ≡ o → task_on s p ≡ None
    free None e = e
    free (Some u) e = absurd (nobody u e)

-- ---- what leads to other occupants
pub Passes-same : (on there : List (Option ℕ)) (guest other : Option ℕ) (chain list : List ℕ) (after : List (Option ℕ)) → on ≡ there
    → guest ≡ other → chain ≡ list → PassesOn there other list after → PassesOn on guest chain after
Passes-same on there guest other chain list after e f g passes = rw (e, f, g) passes

module _ (on : List (Option ℕ)) (event : Event) (reply : Reply) (after : List (Option ℕ)) (leads : EventLeadsTo on event reply after) where
  pub arrival_leads : (t : ℕ) → event ≡ Arrive t → PassesOn on (Some t) (coming_chain reply) after
  arrival_leads t e =
      let step = subst (λ (ev : Event). SchedulerStep leads.old ev reply leads.new) e leads.step in
      subst (λ (o : List (Option ℕ)). PassesOn o (Some t) (coming_chain reply) after) leads.before
      (subst (λ (a : List (Option ℕ)). PassesOn leads.old.on (Some t) (coming_chain reply) a) leads.links
      (arrive_passes leads.old leads.state t step.0 reply leads.new step.1))

  pub departure_leads : (t : ℕ) → event ≡ Depart t → PassesOn on (entered_by reply) (reverse (filling_chain reply)) after
  departure_leads t e =
      let step = subst (λ (ev : Event). SchedulerStep leads.old ev reply leads.new) e leads.step in
      subst (λ (o : List (Option ℕ)). PassesOn o (entered_by reply) (reverse (filling_chain reply)) after) leads.before
      (subst (λ (a : List (Option ℕ)). PassesOn leads.old.on (entered_by reply) (reverse (filling_chain reply)) a) leads.links
      (depart_passes leads.old leads.state t reply leads.new step.1))

  pub tick_leads : (units : ℕ) → event ≡ Tick units → on ≡ after
  tick_leads units e =
      let step = subst (λ (ev : Event). SchedulerStep leads.old ev reply leads.new) e leads.step in
      subst (λ (o : List (Option ℕ)). o ≡ after) leads.before
      (subst (λ (a : List (Option ℕ)). leads.old.on ≡ a) leads.links (ap (λ (s : State). s.on) (sym step.1)))

  pub mask_leads : (t mask : ℕ) → event ≡ Affinity t mask
      → PassesOnTwice on (entered_by reply) (reverse (filling_chain reply)) (Some t) (coming_chain reply) after
  mask_leads t mask e =
      let step = subst (λ (ev : Event). SchedulerStep leads.old ev reply leads.new) e leads.step in
      subst (λ (o : List (Option ℕ)). PassesOnTwice o (entered_by reply) (reverse (filling_chain reply)) (Some t) (coming_chain reply)
      after) leads.before (subst (λ (a : List (Option ℕ)). PassesOnTwice leads.old.on (entered_by reply) (reverse (filling_chain reply))
      (Some t) (coming_chain reply) a) leads.links (affinity_passes leads.old leads.state t mask step.0 step.1 reply leads.new step.2))

  pub offline_leads : (p : ℕ) → event ≡ Offline p → OfflinePassesOn on p (moved_of reply) after
  offline_leads p e =
      let step = subst (λ (ev : Event). SchedulerStep leads.old ev reply leads.new) e leads.step in
      subst (λ (o : List (Option ℕ)). OfflinePassesOn o p (moved_of reply) after) leads.before
      (subst (λ (a : List (Option ℕ)). OfflinePassesOn leads.old.on p (moved_of reply) a) leads.links
      (offline_passes leads.old leads.state p reply leads.new step.1))

  pub online_leads : (p : ℕ) → event ≡ Online p → PassesOn on (entered_by reply) (reverse (filling_chain reply)) after
  online_leads p e =
      let step = subst (λ (ev : Event). SchedulerStep leads.old ev reply leads.new) e leads.step in
      subst (λ (o : List (Option ℕ)). PassesOn o (entered_by reply) (reverse (filling_chain reply)) after) leads.before
      (subst (λ (a : List (Option ℕ)). PassesOn leads.old.on (entered_by reply) (reverse (filling_chain reply)) a) leads.links
      (online_passes leads.old leads.state p step.0 reply leads.new step.1))
