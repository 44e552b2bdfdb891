-- Each reply that passes leads from a state to a state, and so does each of its parts.
use Rattle.std.proofs.Common.{◌≡◌, ℕ, ◌<◌, false, List, reverse, Option, Some, None, sym, ap, ◌∙◌, subst, inl, inr}
use Rattle.task_set.specs.TaskSet.{IsMask}
use Rattle.task_set.specs.declared.event.Event.TheVariants.{Arrive, Depart, Tick, Affinity, Offline, Online}
use Rattle.strong_apa.specs.declared.reply.Came.{Came}
use Rattle.strong_apa.specs.declared.reply.Came.TheVariants.{Placed, Displaced, Waits}
use Rattle.strong_apa.specs.declared.reply.Gone.{Gone}
use Rattle.strong_apa.specs.declared.reply.Reply.{Reply}
use Rattle.strong_apa.specs.State.{State, IsState, is_ready, task_count, state_with_mask, state_with_online, state_with_offline}
use Rattle.strong_apa.specs.State.{state_after_leaving}
use Rattle.strong_apa.specs.History.{state_after_entering, state_after_came, state_after_gone, state_after_left, state_after_reply}
use Rattle.strong_apa.proofs.Changes.{IsState-state_with_mask, IsState-state_with_online, IsState-state_with_offline}
use Rattle.strong_apa.proofs.Leaving.{IsState-state_with_absent, IsState-state_after_leaving}
use Rattle.strong_apa.proofs.Linked.{linked_number}
use Rattle.strong_apa.proofs.Paths.{IsChainOf-reverse}
use Rattle.strong_apa.proofs.Readiness.{IsState-state_with_ready}
use Rattle.strong_apa.proofs.Shifts.{IsState-state_after_shift}
use Rattle.strong_apa.proofs.Simple.{IsSimple-reverse}
use Rattle.strong_apa.proofs.Steps.{HasLeft, IsState-arrived, IsState-remasked, IsState-moved, absent_after_left, absent_moved}
use Rattle.strong_apa.proofs.Steps.{effect_of_came, same_tasks-left}
use Rattle.strong_apa.specs.PassingLaws.{PassingKeepsState}
use Rattle.strong_apa.specs.Passing.{CamePasses, ArrivalPasses, DeparturePasses, EnteringPasses, GonePasses, LeavingPasses, AffinityPasses}
use Rattle.strong_apa.specs.Passing.{OfflinePasses, OnlinePasses}

-- ---- parts of a reply
pub came_keeps_state : (s : State) (t : ℕ) (came : Came) → IsState s → t < task_count s → is_ready s t ≡ false → CamePasses s t came
    → IsState (state_after_came s t came)
came_keeps_state s t (Placed chain) ok number absent passes =
    let end = passes.ends in IsState-arrived s ok t chain end.0 number absent end.1 passes.simple
came_keeps_state s t (Displaced chain out reach) ok number absent passes =
    let end = passes.ends in IsState-arrived s ok t chain end.0 number absent end.1 passes.simple
came_keeps_state s t (Waits reach) ok number absent passes = IsState-state_with_ready s ok t number

entry_keeps_state : (s : State) (p : ℕ) (entered : Option ℕ) (chain : List ℕ) (back : ℕ) → IsState s → EnteringPasses s p entered chain back
    → IsState (state_after_entering s entered chain)
entry_keeps_state s p None chain back ok enters = ok
entry_keeps_state s p (Some w) chain back ok enters =
    let end = enters.1 in
    IsState-state_after_shift s ok w (reverse chain) p enters.0.waits (IsChainOf-reverse s p w chain end.0 end.1 end.2)
    (IsSimple-reverse chain enters.2)

pub gone_keeps_state : (s : State) (p : ℕ) (gone : Gone) → IsState s → GonePasses s p gone → IsState (state_after_gone s gone)
gone_keeps_state s p gone ok passes = entry_keeps_state s p gone.entered gone.chain gone.back ok passes.enters

left_keeps_state : (s : State) → IsState s → (t : ℕ) (gone : Option Gone) → LeavingPasses s t gone → IsState (state_after_left s t gone)
left_keeps_state s ok t None leaves = IsState-state_with_absent s ok t leaves
left_keeps_state s ok t (Some gone) leaves =
    gone_keeps_state (state_after_leaving s t) leaves.0 gone (IsState-state_after_leaving s ok t) leaves.2

-- what is known once t has left, and its mask is to change
pub left_by_passing : (s : State) → IsState s → (t mask : ℕ) (gone : Option Gone) → t < task_count s → IsMask s.processors mask
    → LeavingPasses s t gone → HasLeft s t mask (state_after_left s t gone)
left_by_passing s ok t mask gone number lawful leaves =
    let same = same_tasks-left s t gone in
    record {
      number = rw same.priorities number;
      absent = absent_after_left s ok t gone number;
      lawful = rw same.processors lawful;
      state = left_keeps_state s ok t gone leaves;
    }

-- ---- a reply
arrival_keeps_state : (s : State) (t : ℕ) (reply : Reply) → IsState s → t < task_count s → ArrivalPasses s t reply
    → IsState (state_after_reply s (Arrive t) reply)
arrival_keeps_state s t reply ok number (inl again) = subst (λ (r : Reply). IsState (state_after_reply s (Arrive t) r)) (sym again.1) ok
arrival_keeps_state s t reply ok number (inr new) =
    subst IsState (sym (ap (state_after_reply s (Arrive t)) new.answer ∙ effect_of_came s t new.came))
    (came_keeps_state s t new.came ok number new.absent new.passes)

departure_keeps_state : (s : State) (t : ℕ) (reply : Reply) → IsState s → DeparturePasses s t reply
    → IsState (state_after_reply s (Depart t) reply)
departure_keeps_state s t reply ok (inl again) = subst (λ (r : Reply). IsState (state_after_reply s (Depart t) r)) (sym again.1) ok
departure_keeps_state s t reply ok (inr (inl waiting)) =
    subst (λ (r : Reply). IsState (state_after_reply s (Depart t) r)) (sym waiting.1) (IsState-state_with_absent s ok t waiting.0)
departure_keeps_state s t reply ok (inr (inr linked)) =
    subst (λ (r : Reply). IsState (state_after_reply s (Depart t) r)) (sym linked.answer)
    (gone_keeps_state (state_after_leaving s t) linked.place linked.gone (IsState-state_after_leaving s ok t) linked.passes)

affinity_keeps_state : (s : State) (t mask : ℕ) (reply : Reply) → IsState s → t < task_count s → IsMask s.processors mask
    → AffinityPasses s t mask reply → IsState (state_after_reply s (Affinity t mask) reply)
affinity_keeps_state s t mask reply ok number lawful (inl masked) = subst (λ (r : Reply). IsState (state_after_reply s (Affinity t mask) r))
    (sym masked.1) (IsState-state_with_mask s t mask ok number lawful masked.0)
affinity_keeps_state s t mask reply ok number lawful (inr returns) =
    let between = state_after_left s t returns.gone in
    let left = left_by_passing s ok t mask returns.gone number lawful returns.leaves in
    subst (λ (r : Reply). IsState (state_after_reply s (Affinity t mask) r)) (sym returns.answer)
    (came_keeps_state (state_with_mask between t mask) t returns.came (IsState-remasked s t mask between left)
    left.number left.absent returns.passes)

offline_keeps_state : (s : State) (p : ℕ) (reply : Reply) → IsState s → OfflinePasses s p reply
    → IsState (state_after_reply s (Offline p) reply)
offline_keeps_state s p reply ok (inl again) = subst (λ (r : Reply). IsState (state_after_reply s (Offline p) r)) (sym again.1) ok
offline_keeps_state s p reply ok (inr (inl idle)) =
    subst (λ (r : Reply). IsState (state_after_reply s (Offline p) r)) (sym idle.1) (IsState-state_with_offline s p ok idle.0.1)
offline_keeps_state s p reply ok (inr (inr there)) =
    let t = there.moved.task in
    subst (λ (r : Reply). IsState (state_after_reply s (Offline p) r)) (sym there.answer)
    (came_keeps_state (state_with_offline (state_after_leaving s t) p) t there.moved.came (IsState-moved s ok p t there.occupied)
    (linked_number s p t ok there.occupied) (absent_moved s ok p t there.occupied) there.passes)

online_keeps_state : (s : State) (p : ℕ) (reply : Reply) → IsState s → p < s.processors → OnlinePasses s p reply
    → IsState (state_after_reply s (Online p) reply)
online_keeps_state s p reply ok number (inl again) = subst (λ (r : Reply). IsState (state_after_reply s (Online p) r)) (sym again.1) ok
online_keeps_state s p reply ok number (inr filled) =
    subst (λ (r : Reply). IsState (state_after_reply s (Online p) r)) (sym filled.answer)
    (gone_keeps_state (state_with_online s p) p filled.parts (IsState-state_with_online s p ok number) filled.passes)

pub passing_keeps_state : PassingKeepsState
passing_keeps_state s (Arrive t) reply ok passes = arrival_keeps_state s t reply ok passes.0 passes.1
passing_keeps_state s (Depart t) reply ok passes = departure_keeps_state s t reply ok passes.1
passing_keeps_state s (Tick units) reply ok passes = ok
passing_keeps_state s (Affinity t mask) reply ok passes = affinity_keeps_state s t mask reply ok passes.0 passes.1 passes.2
passing_keeps_state s (Offline p) reply ok passes = offline_keeps_state s p reply ok passes.1
passing_keeps_state s (Online p) reply ok passes = online_keeps_state s p reply ok passes.0 passes.1
