-- Each step of the scheduler has a reply that passes: a least chain is simple, and what a task reaches, or what back chains
-- lead back to, is a set as a reply may have it.
use Rattle.std.proofs.Common.{◌≡◌, ℕ, ◌<◌, List, [], ◌∷◌, ◌++◌, Option, Some, None, refl, sym, ap, ◌∙◌, subst, inl, inr, ◌⊎◌, IsTrue}
use Rattle.affinity_mask.specs.ProcSet.{has}
use Rattle.task_set.specs.TaskSet.{IsMask}
use Rattle.task_set.specs.declared.event.Event.TheVariants.{Arrive, Depart, Tick, Affinity, Offline, Online}
use Rattle.strong_apa.specs.declared.reply.Came.{Came}
use Rattle.strong_apa.specs.declared.reply.Came.TheVariants.{Placed, Displaced, Waits}
use Rattle.strong_apa.specs.declared.reply.Gone.{Gone}
use Rattle.strong_apa.specs.declared.reply.Reply.{Reply}
use Rattle.strong_apa.specs.State.{State, IsState, IsIdle, task_on, task_count, state_with_mask, state_with_online, state_with_offline}
use Rattle.strong_apa.specs.State.{state_after_leaving}
use Rattle.strong_apa.specs.Chain.{CanShift, IsBackChain, IsBackReach, IsPath}
use Rattle.strong_apa.specs.Step.{Comes, ArriveStep, EnterStep, Fills, DepartStep, LeaveStep, AffinityStep, OfflineStep, OnlineStep}
use Rattle.strong_apa.proofs.Changes.{IsState-state_with_online}
use Rattle.strong_apa.proofs.Ends.{least_chain_is_simple, least_back_chain_is_simple}
use Rattle.strong_apa.proofs.Leaving.{IsState-state_after_leaving}
use Rattle.strong_apa.proofs.Linked.{occupied_number}
use Rattle.strong_apa.proofs.Paths.{IsPath-push}
use Rattle.strong_apa.proofs.Steps.{IsState-remasked, IsState-moved, has_left, leave_effect}
use Rattle.strong_apa.specs.PassingLaws.{StepPasses}
use Rattle.strong_apa.specs.Passing.{CamePasses, ArrivalPasses, DeparturePasses, EnteringPasses, GonePasses, IsBackClosed, LeavingPasses}
use Rattle.strong_apa.specs.Passing.{AffinityPasses, OfflinePasses, OnlinePasses}
use Rattle.strong_apa.proofs.Closed.{IsReach-first, IsReach-closed}

-- ---- what a task comes to
came_step_passes : (s : State) (t : ℕ) (came : Came) (new : State) → IsState s → Comes s t came new → CamePasses s t came
came_step_passes s t (Placed chain) new ok step = record {
  ends = step.least.itself;
  simple = least_chain_is_simple s ok t (IsIdle s) chain step.least;
}
came_step_passes s t (Displaced chain out reach) new ok step = record {
  ends = step.least.itself;
  simple = least_chain_is_simple s ok t (λ q. task_on s q ≡ Some out) chain step.least;
  out_less_urgent = step.out_less_urgent;
  mask = IsReach-first s t reach step.reached;
  full = λ p inside.
      let occupant = step.occupied p inside in (
        occupant.0,
        occupant.1,
        IsReach-closed s t reach step.reached p occupant.0 inside occupant.1,
        step.out_there.least_urgent p occupant.0 inside occupant.1,
      );
}
came_step_passes s t (Waits reach) new ok step = record {
  within = IsReach-first s t reach step.reached;
  occupied = λ p inside.
      let occupant = step.more_urgent p inside in
      (occupant.0, occupant.1, occupant.2, IsReach-closed s t reach step.reached p occupant.0 inside occupant.1);
}

-- ---- who comes in
enter_step_passes : (s : State) (p : ℕ) (entered : Option ℕ) (chain : List ℕ) (back : ℕ) (new : State) → IsState s
    → EnterStep s p entered chain back new → EnteringPasses s p entered chain back
enter_step_passes s p None chain back new ok step = (step.0, step.1)
enter_step_passes s p (Some w) chain back new ok step = (step.0, step.1.itself, least_back_chain_is_simple s ok p w chain step.1)

-- what back chains lead back to has the processor where they begin, only processors that there are, and whatever can be
-- shifted into it
back_reach-first : (s : State) (p back : ℕ) → IsBackReach s p back → IsTrue (has back p)
back_reach-first s p back is_back = (is_back p).1 (p ∷ [], (refl, refl))

back_reach-closed : (s : State) (p back : ℕ) → IsBackReach s p back → IsBackClosed s back
back_reach-closed s p back is_back q r inside step = longer (((is_back r).0 inside).0) (((is_back r).0 inside).1)
  where
    longer : (chain : List ℕ) → IsBackChain s p chain r → IsTrue (has back q)
    longer [] c = absurd c
    longer (first ∷ rest) c = (is_back q).1 (first ∷ (rest ++ q ∷ []), (c.0, IsPath-push (λ a b. CanShift s b a) p rest r q c.1 step))

-- the end of a path to which the occupant of each next processor can be shifted is where it begins, or is occupied
path_end : (s : State) (p : ℕ) (rest : List ℕ) (q : ℕ) → IsPath (λ a b. CanShift s b a) p rest q
    → (p ≡ q) ⊎ ((u : ℕ) × (task_on s q ≡ Some u))
path_end s p [] q path = inl path
path_end s p (r ∷ rest) q path = elim (path_end s r rest q path.1) [
  | inl same ↦ inr (path.0.0, ap (task_on s) (sym same) ∙ path.0.1)
  | inr occupied ↦ inr occupied
]

back_chain_end : (s : State) (p : ℕ) (chain : List ℕ) (q : ℕ) → IsBackChain s p chain q → (p ≡ q) ⊎ ((u : ℕ) × (task_on s q ≡ Some u))
back_chain_end s p [] q c = absurd c
back_chain_end s p (first ∷ rest) q c = path_end s p rest q c.1

back_reach-below : (s : State) → IsState s → (p back : ℕ) → p < s.processors → IsBackReach s p back → (q : ℕ) → IsTrue (has back q)
    → q < s.processors
back_reach-below s ok p back number is_back q inside =
    let chain = (is_back q).0 inside in
    elim (back_chain_end s p chain.0 q chain.1) [
      | inl same ↦ subst (λ (n : ℕ). n < s.processors) same number
      | inr occupied ↦ occupied_number s q occupied.0 ok occupied.1
    ]

gone_step_passes : (s : State) (p : ℕ) (gone : Gone) (new : State) → IsState s → p < s.processors → Fills s p gone new → GonePasses s p gone
gone_step_passes s p gone new ok number fills = record {
  has_place = back_reach-first s p gone.back fills.reached;
  below = back_reach-below s ok p gone.back number fills.reached;
  closed = back_reach-closed s p gone.back fills.reached;
  enters = enter_step_passes s p gone.entered gone.chain gone.back new ok fills.enters;
}

leave_step_passes : (s : State) (t : ℕ) (gone : Option Gone) (new : State) → IsState s → LeaveStep s t gone new → LeavingPasses s t gone
leave_step_passes s t None new ok step = step.0
leave_step_passes s t (Some gone) new ok step = (
  step.0,
  step.1,
  gone_step_passes (state_after_leaving s t) step.0 gone new
      (IsState-state_after_leaving s ok t) (occupied_number s step.0 t ok step.1) step.2,
)

-- ---- a step
arrival_step_passes : (s : State) (t : ℕ) (reply : Reply) (new : State) → IsState s → ArriveStep s t reply new → ArrivalPasses s t reply
arrival_step_passes s t reply new ok (inl again) = inl (again.ready, again.answer)
arrival_step_passes s t reply new ok (inr arrives) = inr record {
  absent = arrives.absent;
  came = arrives.came;
  answer = arrives.answer;
  passes = came_step_passes s t arrives.came new ok arrives.comes;
}

departure_step_passes : (s : State) (t : ℕ) (reply : Reply) (new : State) → IsState s → DepartStep s t reply new → DeparturePasses s t reply
departure_step_passes s t reply new ok (inl again) = inl (again.absent, again.answer)
departure_step_passes s t reply new ok (inr (inl waiting)) = inr (inl (waiting.waits, waiting.answer))
departure_step_passes s t reply new ok (inr (inr step)) = inr (inr record {
  place = step.place;
  linked = step.linked;
  gone = step.gone;
  answer = step.answer;
  passes = gone_step_passes (state_after_leaving s t) step.place step.gone new (IsState-state_after_leaving s ok t)
      (occupied_number s step.place t ok step.linked) step.fills;
})

affinity_step_passes : (s : State) (t mask : ℕ) (reply : Reply) (new : State) → IsState s → t < task_count s → IsMask s.processors mask
    → AffinityStep s t mask reply new → AffinityPasses s t mask reply
affinity_step_passes s t mask reply new ok number lawful (inl absent) = inl (absent.absent, absent.answer)
affinity_step_passes s t mask reply new ok number lawful (inr step) = inr record {
  gone = step.gone;
  came = step.came;
  answer = step.answer;
  leaves = leave_step_passes s t step.gone step.between ok step.leaves;
  passes = subst (λ (x : State). CamePasses (state_with_mask x t mask) t step.came) (leave_effect s t step.gone step.between step.leaves)
      (came_step_passes (state_with_mask step.between t mask) t step.came new
      (IsState-remasked s t mask step.between (has_left s ok t mask step.gone step.between number lawful step.leaves)) step.comes);
}

offline_step_passes : (s : State) (p : ℕ) (reply : Reply) (new : State) → IsState s → OfflineStep s p reply new → OfflinePasses s p reply
offline_step_passes s p reply new ok (inl again) = inl (again.off, again.answer)
offline_step_passes s p reply new ok (inr (inl idle)) = inr (inl (idle.idle, idle.answer))
offline_step_passes s p reply new ok (inr (inr step)) = inr (inr record {
  moved = step.moved;
  occupied = step.occupied;
  answer = step.answer;
  passes = came_step_passes (state_with_offline (state_after_leaving s step.moved.task) p) step.moved.task step.moved.came new
      (IsState-moved s ok p step.moved.task step.occupied) step.comes;
})

online_step_passes : (s : State) (p : ℕ) (reply : Reply) (new : State) → IsState s → p < s.processors → OnlineStep s p reply new
    → OnlinePasses s p reply
online_step_passes s p reply new ok number (inl again) = inl (again.on, again.answer)
online_step_passes s p reply new ok number (inr step) = inr record {
  off = step.off;
  parts = step.parts;
  answer = step.answer;
  passes = gone_step_passes (state_with_online s p) p step.parts new (IsState-state_with_online s p ok number) number step.fills;
}

pub step_passes : StepPasses
step_passes s (Arrive t) reply new ok step = (step.0, arrival_step_passes s t reply new ok step.1)
step_passes s (Depart t) reply new ok step = (step.0, departure_step_passes s t reply new ok step.1)
step_passes s (Tick units) reply new ok step = step.0
step_passes s (Affinity t mask) reply new ok step = (step.0, step.1, affinity_step_passes s t mask reply new ok step.0 step.1 step.2)
step_passes s (Offline p) reply new ok step = (step.0, offline_step_passes s p reply new ok step.1)
step_passes s (Online p) reply new ok step = (step.0, online_step_passes s p reply new ok step.0 step.1)
