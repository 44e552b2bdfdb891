-- The scheduler's step: what it changes follows from its reply, and it leads to a state again.
use Rattle.std.proofs.Common.{◌≡◌, ℕ, ◌<◌, false, List, [], ◌∷◌, reverse, Option, Some, None, refl, sym, ap, ◌∙◌, inl, inr, get_or-set_same}
use Rattle.task_set.specs.TaskSet.{IsMask}
use Rattle.task_set.specs.declared.event.Event.TheVariants.{Arrive, Depart, Tick, Affinity, Offline, Online}
use Rattle.strong_apa.specs.declared.reply.Came.{Came}
use Rattle.strong_apa.specs.declared.reply.Came.TheVariants.{Placed, Displaced, Waits}
use Rattle.strong_apa.specs.declared.reply.Gone.{Gone}
use Rattle.strong_apa.specs.declared.reply.Reply.{Reply}
use Rattle.strong_apa.specs.Reply.{reply_of_came, reply_of_gone}
use Rattle.strong_apa.specs.State.{State, IsState, IsWaiting, IsIdle, HasSameTasks, is_ready, task_on, task_count, state_with_ready}
use Rattle.strong_apa.specs.State.{state_with_mask, state_with_online, state_with_offline, state_after_leaving}
use Rattle.strong_apa.specs.Chain.{IsChainOf, IsSimple, IsLeastSuch, EntersBy, state_after_shift}
use Rattle.strong_apa.specs.Step.{Comes, ArriveStep, Fills, DepartStep, EnterStep, LeaveStep, AffinityStep, OfflineStep, OnlineStep}
use Rattle.strong_apa.specs.History.{state_after_reply, state_after_came, state_after_gone, state_after_left, state_after_entering}
use Rattle.strong_apa.specs.Laws.{ReplyGivesNewState, StepKeepsState}
use Rattle.strong_apa.proofs.Changes.{IsState-state_with_mask, IsState-state_with_online, IsState-state_with_offline}
use Rattle.strong_apa.proofs.Ends.{least_chain_is_simple, least_back_chain_is_simple}
use Rattle.strong_apa.proofs.Leaving.{IsState-state_with_absent, IsState-state_after_leaving, task_on-left}
use Rattle.strong_apa.proofs.Linked.{linked_number}
use Rattle.strong_apa.proofs.Paths.{IsChainOf-reverse}
use Rattle.strong_apa.proofs.Readiness.{IsState-state_with_ready, IsWaiting-state_with_ready}
use Rattle.strong_apa.proofs.Shifts.{IsState-state_after_shift}
use Rattle.strong_apa.proofs.Simple.{IsSimple-reverse}

-- ---- the new state follows from the reply
-- the effect of a reply is that of what it says
pub effect_of_came : (s : State) (t : ℕ) (came : Came) → state_after_reply s (Arrive t) (reply_of_came came) ≡ state_after_came s t came
effect_of_came s t (Placed chain) = refl
effect_of_came s t (Displaced chain out reach) = refl
effect_of_came s t (Waits reach) = refl

pub effect_of_gone : (s : State) (t : ℕ) (gone : Gone) → state_after_reply s (Depart t) (reply_of_gone gone)
    ≡ state_after_gone (state_after_leaving s t) gone
effect_of_gone s t gone = refl

pub comes_effect : (s : State) (t : ℕ) (came : Came) (new : State) → Comes s t came new → new ≡ state_after_came s t came
comes_effect s t (Placed chain) new comes = comes.shifted
comes_effect s t (Displaced chain out reach) new comes = comes.shifted
comes_effect s t (Waits reach) new comes = comes.waits

enter_effect : (s : State) (p : ℕ) (entered : Option ℕ) (chain : List ℕ) (back : ℕ) (new : State) → EnterStep s p entered chain back new
    → new ≡ state_after_entering s entered chain
enter_effect s p None chain back new step = step.2
enter_effect s p (Some w) chain back new step = step.2

pub fills_effect : (s : State) (p : ℕ) (gone : Gone) (new : State) → Fills s p gone new → new ≡ state_after_gone s gone
fills_effect s p gone new fills = enter_effect s p gone.entered gone.chain gone.back new fills.enters

arrive_effect : (s : State) (t : ℕ) (reply : Reply) (new : State) → ArriveStep s t reply new → new ≡ state_after_reply s (Arrive t) reply
arrive_effect s t reply new (inl again) = again.same ∙ sym (ap (state_after_reply s (Arrive t)) again.answer)
arrive_effect s t reply new (inr arrives) = comes_effect s t arrives.came new arrives.comes
    ∙ sym (ap (state_after_reply s (Arrive t)) arrives.answer ∙ effect_of_came s t arrives.came)

depart_effect : (s : State) (t : ℕ) (reply : Reply) (new : State) → DepartStep s t reply new → new ≡ state_after_reply s (Depart t) reply
depart_effect s t reply new (inl again) = again.same ∙ sym (ap (state_after_reply s (Depart t)) again.answer)
depart_effect s t reply new (inr (inl waiting)) = waiting.left ∙ sym (ap (state_after_reply s (Depart t)) waiting.answer)
depart_effect s t reply new (inr (inr linked)) = fills_effect (state_after_leaving s t) linked.place linked.gone new linked.fills
    ∙ sym (ap (state_after_reply s (Depart t)) linked.answer)

pub leave_effect : (s : State) (t : ℕ) (gone : Option Gone) (new : State) → LeaveStep s t gone new → new ≡ state_after_left s t gone
leave_effect s t None new step = step.1
leave_effect s t (Some gone) new step = fills_effect (state_after_leaving s t) step.0 gone new step.2

affinity_effect : (s : State) (t mask : ℕ) (reply : Reply) (new : State) → AffinityStep s t mask reply new
    → new ≡ state_after_reply s (Affinity t mask) reply
affinity_effect s t mask reply new (inl absent) = absent.masked ∙ sym (ap (state_after_reply s (Affinity t mask)) absent.answer)
affinity_effect s t mask reply new (inr remasks) =
    comes_effect (state_with_mask remasks.between t mask) t remasks.came new remasks.comes
    ∙ ap (λ (x : State). state_after_came (state_with_mask x t mask) t remasks.came)
    (leave_effect s t remasks.gone remasks.between remasks.leaves)
    ∙ sym (ap (state_after_reply s (Affinity t mask)) remasks.answer)

offline_effect : (s : State) (p : ℕ) (reply : Reply) (new : State) → OfflineStep s p reply new → new ≡ state_after_reply s (Offline p) reply
offline_effect s p reply new (inl again) = again.same ∙ sym (ap (state_after_reply s (Offline p)) again.answer)
offline_effect s p reply new (inr (inl idle)) = idle.off ∙ sym (ap (state_after_reply s (Offline p)) idle.answer)
offline_effect s p reply new (inr (inr occupied)) =
    let moved = occupied.moved in
    comes_effect (state_with_offline (state_after_leaving s moved.task) p) moved.task moved.came new occupied.comes
    ∙ sym (ap (state_after_reply s (Offline p)) occupied.answer)

online_effect : (s : State) (p : ℕ) (reply : Reply) (new : State) → OnlineStep s p reply new → new ≡ state_after_reply s (Online p) reply
online_effect s p reply new (inl again) = again.same ∙ sym (ap (state_after_reply s (Online p)) again.answer)
online_effect s p reply new (inr fills) =
    fills_effect (state_with_online s p) p fills.parts new fills.fills ∙ sym (ap (state_after_reply s (Online p)) fills.answer)

pub reply_gives_new_state : ReplyGivesNewState
reply_gives_new_state s (Arrive t) reply new step = arrive_effect s t reply new step.1
reply_gives_new_state s (Depart t) reply new step = depart_effect s t reply new step.1
reply_gives_new_state s (Tick units) reply new step = step.1
reply_gives_new_state s (Affinity t mask) reply new step = affinity_effect s t mask reply new step.2
reply_gives_new_state s (Offline p) reply new step = offline_effect s p reply new step.1
reply_gives_new_state s (Online p) reply new step = online_effect s p reply new step.1

-- ---- a step leads to a state
-- a chain of a task stays one when the task becomes ready
pub IsChainOf-state_with_ready : (s : State) (t : ℕ) (chain : List ℕ) (q : ℕ) → IsChainOf s t chain q
    → IsChainOf (state_with_ready s t) t chain q
IsChainOf-state_with_ready s t [] q c = c
IsChainOf-state_with_ready s t (p ∷ rest) q c = c

-- an absent task that is shifted along a simple chain of it
pub IsState-arrived : (s : State) → IsState s → (t : ℕ) (chain : List ℕ) (q : ℕ) → t < task_count s → is_ready s t ≡ false
    → IsChainOf s t chain q → IsSimple chain → IsState (state_after_shift (state_with_ready s t) t chain)
IsState-arrived s ok t chain q number absent is_chain simple =
    IsState-state_after_shift (state_with_ready s t) (IsState-state_with_ready s ok t number) t chain q
    (IsWaiting-state_with_ready s ok t number absent) (IsChainOf-state_with_ready s t chain q is_chain) simple

-- a waiting task that comes in along the least back chain
pub IsState-entered : (s : State) → IsState s → (p w : ℕ) (chain : List ℕ) → IsWaiting s w → IsLeastSuch (EntersBy s p w) chain
    → IsState (state_after_shift s w (reverse chain))
IsState-entered s ok p w chain waits least =
    IsState-state_after_shift s ok w (reverse chain) p waits (IsChainOf-reverse s p w chain least.itself.0 least.itself.1 least.itself.2)
    (IsSimple-reverse chain (least_back_chain_is_simple s ok p w chain least))

pub comes_keeps : (s : State) (t : ℕ) (came : Came) (new : State) → IsState s → t < task_count s → is_ready s t ≡ false → Comes s t came new
    → IsState new
comes_keeps s t (Placed chain) new ok number absent comes = rw comes.shifted
    (IsState-arrived s ok t chain comes.least.itself.0 number absent comes.least.itself.1
    (least_chain_is_simple s ok t (IsIdle s) chain comes.least))
comes_keeps s t (Displaced chain out reach) new ok number absent comes = rw comes.shifted
    (IsState-arrived s ok t chain comes.least.itself.0 number absent comes.least.itself.1
    (least_chain_is_simple s ok t (λ q. task_on s q ≡ Some out) chain comes.least))
comes_keeps s t (Waits reach) new ok number absent comes = rw comes.waits (IsState-state_with_ready s ok t number)

arrive_keeps : (s : State) (t : ℕ) (reply : Reply) (new : State) → IsState s → t < task_count s → ArriveStep s t reply new → IsState new
arrive_keeps s t reply new ok number (inl again) = rw again.same ok
arrive_keeps s t reply new ok number (inr arrives) = comes_keeps s t arrives.came new ok number arrives.absent arrives.comes

enter_keeps : (s : State) (p : ℕ) (entered : Option ℕ) (chain : List ℕ) (back : ℕ) (new : State) → IsState s
    → EnterStep s p entered chain back new → IsState new
enter_keeps s p None chain back new ok step = rw step.2 ok
enter_keeps s p (Some w) chain back new ok step = rw step.2 (IsState-entered s ok p w chain step.0.waits step.1)

depart_keeps : (s : State) (t : ℕ) (reply : Reply) (new : State) → IsState s → DepartStep s t reply new → IsState new
depart_keeps s t reply new ok (inl again) = rw again.same ok
depart_keeps s t reply new ok (inr (inl waiting)) = rw waiting.left (IsState-state_with_absent s ok t waiting.waits)
depart_keeps s t reply new ok (inr (inr linked)) = enter_keeps (state_after_leaving s t) linked.place linked.gone.entered linked.gone.chain
    linked.gone.back new (IsState-state_after_leaving s ok t) linked.fills.enters

-- ---- a ready task leaves and comes back
-- no task, no priority and no processor comes or goes when a task leaves
pub same_tasks-left : (s : State) (t : ℕ) (gone : Option Gone) → HasSameTasks s (state_after_left s t gone)
same_tasks-left s t None = record { processors = refl; priorities = refl }
same_tasks-left s t (Some gone) = entering gone.entered
  where
    entering : (entered : Option ℕ) → HasSameTasks s (state_after_entering (state_after_leaving s t) entered gone.chain)
    entering None = record { processors = refl; priorities = refl }
    entering (Some w) = record { processors = refl; priorities = refl }

-- the task that left is absent
pub absent_after_left : (s : State) → IsState s → (t : ℕ) (gone : Option Gone) → t < task_count s → is_ready (state_after_left s t gone) t
    ≡ false
absent_after_left s ok t None number = get_or-set_same s.ready t false false (rw ok.ready_count number)
absent_after_left s ok t (Some gone) number = entering gone.entered
  where
    entering : (entered : Option ℕ) → is_ready (state_after_entering (state_after_leaving s t) entered gone.chain) t ≡ false
    entering None = get_or-set_same s.ready t false false (rw ok.ready_count number)
    entering (Some w) = get_or-set_same s.ready t false false (rw ok.ready_count number)

pub leave_keeps : (s : State) (t : ℕ) (gone : Option Gone) (new : State) → IsState s → LeaveStep s t gone new → IsState new
leave_keeps s t None new ok step = rw step.1 (IsState-state_with_absent s ok t step.0)
leave_keeps s t (Some gone) new ok step =
    enter_keeps (state_after_leaving s t) step.0 gone.entered gone.chain gone.back new (IsState-state_after_leaving s ok t) step.2.enters

-- what is known where t has left, and its mask is to change
pub record HasLeft (s : State) (t mask : ℕ) (between : State) : Type 0 where
  pub number : t < task_count between
  pub absent : is_ready between t ≡ false
  pub lawful : IsMask between.processors mask
  pub state : IsState between

pub has_left : (s : State) → IsState s → (t mask : ℕ) (gone : Option Gone) (between : State) → t < task_count s → IsMask s.processors mask
    → LeaveStep s t gone between → HasLeft s t mask between
has_left s ok t mask gone between number lawful leaves =
    let effect = leave_effect s t gone between leaves in
    let same = same_tasks-left s t gone in
    record {
      number = rw (effect, same.priorities) number;
      absent = rw effect (absent_after_left s ok t gone number);
      lawful = rw (effect, same.processors) lawful;
      state = leave_keeps s t gone between ok leaves;
    }

pub IsState-remasked : (s : State) (t mask : ℕ) (between : State) → HasLeft s t mask between → IsState (state_with_mask between t mask)
IsState-remasked s t mask between left = IsState-state_with_mask between t mask left.state left.number left.lawful left.absent

affinity_keeps : (s : State) (t mask : ℕ) (reply : Reply) (new : State) → IsState s → t < task_count s → IsMask s.processors mask
    → AffinityStep s t mask reply new → IsState new
affinity_keeps s t mask reply new ok number lawful (inl absent) =
    rw absent.masked (IsState-state_with_mask s t mask ok number lawful absent.absent)
affinity_keeps s t mask reply new ok number lawful (inr remasks) =
    let left = has_left s ok t mask remasks.gone remasks.between number lawful remasks.leaves in
    comes_keeps (state_with_mask remasks.between t mask) t remasks.came new (IsState-remasked s t mask remasks.between left)
    left.number left.absent remasks.comes

-- ---- processors
-- the state in which the task of a processor that is off line comes back
pub IsState-moved : (s : State) → IsState s → (p t : ℕ) → task_on s p ≡ Some t → IsState (state_with_offline (state_after_leaving s t) p)
IsState-moved s ok p t on =
    IsState-state_with_offline (state_after_leaving s t) p (IsState-state_after_leaving s ok t) (task_on-left s t p on)

pub absent_moved : (s : State) → IsState s → (p t : ℕ) → task_on s p ≡ Some t → is_ready (state_with_offline (state_after_leaving s t) p) t
    ≡ false
absent_moved s ok p t on = get_or-set_same s.ready t false false (rw ok.ready_count (linked_number s p t ok on))

offline_keeps : (s : State) (p : ℕ) (reply : Reply) (new : State) → IsState s → OfflineStep s p reply new → IsState new
offline_keeps s p reply new ok (inl again) = rw again.same ok
offline_keeps s p reply new ok (inr (inl idle)) = rw idle.off (IsState-state_with_offline s p ok idle.idle.1)
offline_keeps s p reply new ok (inr (inr occupied)) =
    let t = occupied.moved.task in
    comes_keeps (state_with_offline (state_after_leaving s t) p) t occupied.moved.came new (IsState-moved s ok p t occupied.occupied)
    (linked_number s p t ok occupied.occupied) (absent_moved s ok p t occupied.occupied) occupied.comes

online_keeps : (s : State) (p : ℕ) (reply : Reply) (new : State) → IsState s → p < s.processors → OnlineStep s p reply new → IsState new
online_keeps s p reply new ok number (inl again) = rw again.same ok
online_keeps s p reply new ok number (inr fills) = enter_keeps (state_with_online s p)
    p fills.parts.entered fills.parts.chain fills.parts.back new (IsState-state_with_online s p ok number) fills.fills.enters

pub step_keeps_state : StepKeepsState
step_keeps_state s (Arrive t) reply new ok step = arrive_keeps s t reply new ok step.0 step.1
step_keeps_state s (Depart t) reply new ok step = depart_keeps s t reply new ok step.1
step_keeps_state s (Tick units) reply new ok step = rw step.1 ok
step_keeps_state s (Affinity t mask) reply new ok step = affinity_keeps s t mask reply new ok step.0 step.1 step.2
step_keeps_state s (Offline p) reply new ok step = offline_keeps s p reply new ok step.1
step_keeps_state s (Online p) reply new ok step = online_keeps s p reply new ok step.0 step.1
