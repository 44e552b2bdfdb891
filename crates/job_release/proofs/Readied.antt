-- Who is ready after an arrival and after a departure.
use Rattle.std.proofs.Common.{◌≡◌, ◌≢◌, ℕ, ◌<◌, Bool, true, false, List, length, set, Option, Some, None, refl, ap, ◌∙◌, inl, inr}
use Rattle.std.proofs.Common.{get_or-set_same, get_or-set_other}
use Rattle.task_set.specs.declared.event.Event.TheVariants.{Arrive, Depart}
use Rattle.strong_apa.specs.declared.reply.Came.{Came}
use Rattle.strong_apa.specs.declared.reply.Came.TheVariants.{Placed, Displaced, Waits}
use Rattle.strong_apa.specs.declared.reply.Reply.{Reply}
use Rattle.strong_apa.specs.State.{State, IsState, is_ready, state_after_leaving}
use Rattle.strong_apa.specs.History.{state_after_came, state_after_entering}
use Rattle.strong_apa.specs.Step.{SchedulerStep, ArriveStep, DepartStep}
use Rattle.strong_apa.proofs.Steps.{comes_effect, fills_effect}

came_ready : (s : State) (t : ℕ) (came : Came) → (state_after_came s t came).ready ≡ set s.ready t true
came_ready s t (Placed chain) = refl
came_ready s t (Displaced chain out reach) = refl
came_ready s t (Waits reach) = refl

entering_ready : (s : State) (entered : Option ℕ) (chain : List ℕ) → (state_after_entering s entered chain).ready ≡ s.ready
entering_ready s None chain = refl
entering_ready s (Some w) chain = refl

-- the flag of one task is set, and the others stay
record Flags (old new : State) (t : ℕ) (flag : Bool) : Type 0 where
  same : is_ready new t ≡ flag
  other : (u : ℕ) → u ≢ t → is_ready new u ≡ is_ready old u

flags_set : (old new : State) (t : ℕ) (flag : Bool) → t < length old.ready → new.ready ≡ set old.ready t flag → Flags old new t flag
flags_set old new t flag within is = record {
  same = rw is (get_or-set_same old.ready t flag false within);
  other = λ u differs. rw is (get_or-set_other old.ready t u flag false differs);
}

flags_kept : (old new : State) (t : ℕ) (flag : Bool) → is_ready old t ≡ flag → new ≡ old → Flags old new t flag
flags_kept old new t flag has is = rw is (record { same = has; other = λ u differs. refl })

arrived : (s : State) (t : ℕ) (reply : Reply) (new : State) → t < length s.ready → ArriveStep s t reply new → Flags s new t true
arrived s t reply new within (inl again) = flags_kept s new t true again.ready again.same
arrived s t reply new within (inr arrives) = flags_set s new t true within
    (ap (λ (x : State). x.ready) (comes_effect s t arrives.came new arrives.comes) ∙ came_ready s t arrives.came)

departed : (s : State) (t : ℕ) (reply : Reply) (new : State) → t < length s.ready → DepartStep s t reply new → Flags s new t false
departed s t reply new within (inl again) = flags_kept s new t false again.absent again.same
departed s t reply new within (inr (inl waiting)) = flags_set s new t false within (ap (λ (x : State). x.ready) waiting.left)
departed s t reply new within (inr (inr linked)) =
    flags_set s new t false within (ap (λ (x : State). x.ready)
    (fills_effect (state_after_leaving s t) linked.place linked.gone new linked.fills)
    ∙ entering_ready (state_after_leaving s t) linked.gone.entered linked.gone.chain)

-- after an arrival the task is ready, and the others are as they were
pub ready_arrived : (s : State) (t : ℕ) (reply : Reply) (new : State) → IsState s → SchedulerStep s (Arrive t) reply new
    → is_ready new t ≡ true
ready_arrived s t reply new ok step = (arrived s t reply new (rw ok.ready_count step.0) step.1).same

pub ready_beside_arrived : (s : State) (t : ℕ) (reply : Reply) (new : State) → IsState s → SchedulerStep s (Arrive t) reply new → (u : ℕ)
    → u ≢ t → is_ready new u ≡ is_ready s u
ready_beside_arrived s t reply new ok step = (arrived s t reply new (rw ok.ready_count step.0) step.1).other

-- after a departure the task is absent, and the others are as they were
pub ready_departed : (s : State) (t : ℕ) (reply : Reply) (new : State) → IsState s → SchedulerStep s (Depart t) reply new
    → is_ready new t ≡ false
ready_departed s t reply new ok step = (departed s t reply new (rw ok.ready_count step.0) step.1).same

pub ready_beside_departed : (s : State) (t : ℕ) (reply : Reply) (new : State) → IsState s → SchedulerStep s (Depart t) reply new → (u : ℕ)
    → u ≢ t → is_ready new u ≡ is_ready s u
ready_beside_departed s t reply new ok step = (departed s t reply new (rw ok.ready_count step.0) step.1).other
