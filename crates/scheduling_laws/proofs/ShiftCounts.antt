-- No chain of a reply that passes visits a processor twice, so none has more processors than there are.
use Rattle.std.proofs.Common.{◌≡◌, ℕ, ◌-◌, ◌*◌, ◌<◌, ◌≤◌, List, [], ◌∷◌, length, Option, Some, None, refl, ◌∙◌, inl, inr, arith}
use Rattle.std.specs.Prelude.{All, sum_by}
use Rattle.std.proofs.lemmas.List.Elements.{All-nil, All-cons}
use Rattle.task_set.specs.TaskSet.{IsMask}
use Rattle.task_set.specs.declared.event.Event.TheVariants.{Arrive, Depart, Tick, Affinity, Offline, Online}
use Rattle.strong_apa.specs.declared.reply.Came.{Came}
use Rattle.strong_apa.specs.declared.reply.Came.TheVariants.{Placed, Displaced, Waits}
use Rattle.strong_apa.specs.declared.reply.Gone.{Gone}
use Rattle.strong_apa.specs.declared.reply.Reply.{Reply}
use Rattle.strong_apa.specs.declared.reply.Reply.TheVariants.{Remasked}
use Rattle.strong_apa.specs.declared.reply.Entry.{Entry}
use Rattle.strong_apa.specs.Reply.{reply_of_came, came_chain, came_chains}
use Rattle.strong_apa.specs.State.{State, IsState, task_on, task_count, start_of, state_with_mask, state_with_offline, state_with_online}
use Rattle.strong_apa.specs.State.{state_after_leaving}
use Rattle.strong_apa.specs.Chain.{CanShift, IsChainOf, IsBackChain, IsPath, IsSimple}
use Rattle.strong_apa.specs.History.{effect_of, state_after_left}
use Rattle.strong_apa.proofs.Changes.{IsState-state_with_online}
use Rattle.strong_apa.proofs.Ends.{chain_all_below}
use Rattle.strong_apa.proofs.Leaving.{IsState-state_after_leaving}
use Rattle.strong_apa.proofs.Linked.{occupied_number}
use Rattle.strong_apa.proofs.SameTasks.{same_tasks-effect}
use Rattle.strong_apa.proofs.Simple.{AllBelow, length-simple}
use Rattle.strong_apa.proofs.Start.{IsState-start}
use Rattle.strong_apa.proofs.Steps.{IsState-remasked, IsState-moved, same_tasks-left}
use Rattle.strong_apa.specs.Passing.{CamePasses, ArrivalPasses, DeparturePasses, EnteringPasses, GonePasses, LeavingPasses, AffinityPasses}
use Rattle.strong_apa.specs.Passing.{OfflinePasses, OnlinePasses, IsPassingFrom}
use Rattle.strong_apa.proofs.Kept.{legal_passes}
use Rattle.strong_apa.proofs.KeptStates.{passing_keeps_state, left_by_passing}
use Rattle.scheduling_laws.specs.ShiftCounts.{shifts_of, most_shifts, PassingShiftsFew, LegalShiftsFew}

-- ---- the chain of a task that comes
chain_fits : (s : State) → IsState s → (t : ℕ) (chain : List ℕ) (q : ℕ) → IsChainOf s t chain q → IsSimple chain
    → length chain ≤ s.processors
chain_fits s ok t chain q is_chain simple = length-simple s.processors chain simple (chain_all_below s ok t (λ p. ⊥) chain q is_chain)

came_fits : (s : State) → IsState s → (t : ℕ) (came : Came) → CamePasses s t came → length (came_chain came) ≤ s.processors
came_fits s ok t (Placed chain) passes = chain_fits s ok t chain passes.ends.0 passes.ends.1 passes.simple
came_fits s ok t (Displaced chain out reach) passes = chain_fits s ok t chain passes.ends.0 passes.ends.1 passes.simple
came_fits s ok t (Waits reach) passes = omega arith

-- ---- the chain along which a processor is filled
back_walk_below : (s : State) → IsState s → (p : ℕ) (rest : List ℕ) (q : ℕ) → IsPath (λ a b. CanShift s b a) p rest q
    → AllBelow s.processors rest
back_walk_below s ok p [] q path = tt
back_walk_below s ok p (r ∷ rest) q path = (occupied_number s r path.0.0 ok path.0.1, back_walk_below s ok r rest q path.1)

back_chain_below : (s : State) → IsState s → (p : ℕ) → p < s.processors → (chain : List ℕ) (q : ℕ) → IsBackChain s p chain q
    → AllBelow s.processors chain
back_chain_below s ok p number [] q is_back = absurd is_back
back_chain_below s ok p number (first ∷ rest) q is_back = (rw is_back.0 number, back_walk_below s ok p rest q is_back.1)

entering_fits : (s : State) → IsState s → (p : ℕ) → p < s.processors → (entered : Option ℕ) (chain : List ℕ) (back : ℕ)
    → EnteringPasses s p entered chain back → length chain ≤ s.processors
entering_fits s ok p number None chain back enters = rw enters.1 (omega arith)
entering_fits s ok p number (Some w) chain back enters =
    length-simple s.processors chain enters.2 (back_chain_below s ok p number chain enters.1.0 enters.1.1)

gone_fits : (s : State) → IsState s → (p : ℕ) → p < s.processors → (gone : Gone) → GonePasses s p gone → length gone.chain ≤ s.processors
gone_fits s ok p number gone passes = entering_fits s ok p number gone.entered gone.chain gone.back passes.enters

left_fits : (s : State) → IsState s → (t p : ℕ) → task_on s p ≡ Some t → (gone : Gone) → GonePasses (state_after_leaving s t) p gone
    → length gone.chain ≤ s.processors
left_fits s ok t p on gone passes =
    gone_fits (state_after_leaving s t) (IsState-state_after_leaving s ok t) p (occupied_number s p t ok on) gone passes

-- ---- by event
arrival_few : (s : State) → IsState s → (t : ℕ) (reply : Reply) → ArrivalPasses s t reply → shifts_of reply ≤ s.processors - 1
arrival_few s ok t reply (inl again) = rw again.1 (omega arith)
arrival_few s ok t reply (inr new) = rw new.answer (said new.came new.passes)
  where
    said : (came : Came) → CamePasses s t came → shifts_of (reply_of_came came) ≤ s.processors - 1
    said (Placed chain) passes = let fits = came_fits s ok t (Placed chain) passes in omega arith
    said (Displaced chain out reach) passes = let fits = came_fits s ok t (Displaced chain out reach) passes in omega arith
    said (Waits reach) passes = omega arith

departure_few : (s : State) → IsState s → (t : ℕ) (reply : Reply) → DeparturePasses s t reply → shifts_of reply ≤ s.processors - 1
departure_few s ok t reply (inl again) = rw again.1 (omega arith)
departure_few s ok t reply (inr (inl waiting)) = rw waiting.1 (omega arith)
departure_few s ok t reply (inr (inr linked)) =
    let fits = left_fits s ok t linked.place linked.linked linked.gone linked.passes in rw linked.answer (omega arith)

-- a task comes back along its chain, after others filled its place along theirs
both_few : (m : ℕ) (gone : Option Gone) (came : Came) → ((left : Gone) → gone ≡ Some left → length left.chain ≤ m)
    → length (came_chain came) ≤ m → shifts_of (Remasked gone came) ≤ 2 * (m - 1)
both_few m None (Placed chain) left back = omega arith
both_few m None (Displaced chain out reach) left back = omega arith
both_few m None (Waits reach) left back = omega arith
both_few m (Some gone) (Placed chain) left back = let fits = left gone refl in omega arith
both_few m (Some gone) (Displaced chain out reach) left back = let fits = left gone refl in omega arith
both_few m (Some gone) (Waits reach) left back = let fits = left gone refl in omega arith

leaving_fits : (s : State) → IsState s → (t : ℕ) (gone : Option Gone) → LeavingPasses s t gone → (left : Gone) → gone ≡ Some left
    → length left.chain ≤ s.processors
leaving_fits s ok t None leaves left is = absurd (cc)
leaving_fits s ok t (Some gone) leaves left is =
    let same : gone ≡ left = cc in rw (← same) (left_fits s ok t leaves.0 leaves.1 gone leaves.2)

affinity_few : (s : State) → IsState s → (t mask : ℕ) (reply : Reply) → t < task_count s → IsMask s.processors mask
    → AffinityPasses s t mask reply → shifts_of reply ≤ 2 * (s.processors - 1)
affinity_few s ok t mask reply number lawful (inl masked) = rw masked.1 (omega arith)
affinity_few s ok t mask reply number lawful (inr returns) =
    let between = state_after_left s t returns.gone in
    let back = came_fits (state_with_mask between t mask)
    (IsState-remasked s t mask between (left_by_passing s ok t mask returns.gone number lawful returns.leaves))
    t returns.came returns.passes in
    let same = (same_tasks-left s t returns.gone).processors in
    rw returns.answer (both_few s.processors returns.gone returns.came (leaving_fits s ok t returns.gone returns.leaves) (omega arith))

offline_few : (s : State) → IsState s → (p : ℕ) (reply : Reply) → OfflinePasses s p reply → shifts_of reply ≤ s.processors - 1
offline_few s ok p reply (inl again) = rw again.1 (omega arith)
offline_few s ok p reply (inr (inl idle)) = rw idle.1 (omega arith)
offline_few s ok p reply (inr (inr there)) = rw there.answer
    (back there.moved.came (came_fits (state_with_offline (state_after_leaving s there.moved.task) p)
    (IsState-moved s ok p there.moved.task there.occupied) there.moved.task there.moved.came there.passes))
  where
    back : (came : Came) → length (came_chain came) ≤ s.processors → sum_by (λ (chain : List ℕ). length chain - 1) (came_chains came)
        ≤ s.processors - 1
    back (Placed chain) fits = omega arith
    back (Displaced chain out reach) fits = omega arith
    back (Waits reach) fits = omega arith

online_few : (s : State) → IsState s → (p : ℕ) (reply : Reply) → p < s.processors → OnlinePasses s p reply
    → shifts_of reply ≤ s.processors - 1
online_few s ok p reply number (inl again) = rw again.1 (omega arith)
online_few s ok p reply number (inr filled) = let fits = gone_fits (state_with_online s p) (IsState-state_with_online s p ok number)
    p number filled.parts filled.passes in rw filled.answer (omega arith)

pub passing_shifts_few : PassingShiftsFew
passing_shifts_few s (Arrive t) reply ok passes = arrival_few s ok t reply passes.1
passing_shifts_few s (Depart t) reply ok passes = departure_few s ok t reply passes.1
passing_shifts_few s (Tick units) reply ok passes = rw passes (omega arith)
passing_shifts_few s (Affinity t mask) reply ok passes = affinity_few s ok t mask reply passes.0 passes.1 passes.2
passing_shifts_few s (Offline p) reply ok passes = offline_few s ok p reply passes.1
passing_shifts_few s (Online p) reply ok passes = online_few s ok p reply passes.0 passes.1

-- ---- by history
few_from : (m : ℕ) (s : State) (history : List Entry) → IsState s → s.processors ≡ m → IsPassingFrom s history
    → All (λ (entry : Entry). shifts_of entry.reply ≤ most_shifts m entry.event) history
few_from m s [] ok same passing = All-nil (λ (entry : Entry). shifts_of entry.reply ≤ most_shifts m entry.event)
few_from m s (entry ∷ rest) ok same passing =
    All-cons (λ (other : Entry). shifts_of other.reply ≤ most_shifts m other.event) entry rest
    (rw (← same) (passing_shifts_few s entry.event entry.reply ok passing.0))
    (few_from m (effect_of s entry) rest (passing_keeps_state s entry.event entry.reply ok passing.0)
    ((same_tasks-effect s entry).processors ∙ same) passing.1)

pub legal_shifts_few : LegalShiftsFew
legal_shifts_few set history valid legal =
    let ok = IsState-start set valid in few_from set.processors (start_of set) history ok refl
    (legal_passes (start_of set) history ok legal)
