-- A reply that passes changes the occupants of the processors that it touches alone.
use Rattle.std.proofs.Common.{◌≡◌, ℕ, zero, suc, ◌<◌, ◌⊎◌, List, [], ◌∷◌, ◌++◌, length, get_or, map, reverse, Option, Some, None, refl, sym}
use Rattle.std.proofs.Common.{ap, ◌∙◌, subst, inl, inr, arith}
use Rattle.std.specs.Prelude.{All, Contains}
use Rattle.std.specs.List.{range_with_len}
use Rattle.std.proofs.lemmas.Bool.{cases_eq, cases_lt}
use Rattle.std.proofs.lemmas.List.{append-nil, get_or_past, reverse-reverse}
use Rattle.std.proofs.lemmas.List.Elements.{All-nil, All-cons, All-append, All-from_get_or, All-tail, Contains-append_left}
use Rattle.std.proofs.lemmas.List.Elements.{Contains-append_right}
use Rattle.std.proofs.lemmas.List.FromFn.{get_or-map-range_with_len, length-map-range_with_len}
use Rattle.std.proofs.lemmas.List.Sorted.{Contains-permutation, IsPermutation-reverse}
use Rattle.task_set.specs.TaskSet.{IsMask}
use Rattle.task_set.specs.declared.event.Event.TheVariants.{Arrive, Depart, Tick, Affinity, Offline, Online}
use Rattle.strong_apa.specs.declared.reply.Came.{Came}
use Rattle.strong_apa.specs.declared.reply.Came.TheVariants.{Placed, Displaced, Waits}
use Rattle.strong_apa.specs.declared.reply.Gone.{Gone}
use Rattle.strong_apa.specs.declared.reply.Reply.{Reply}
use Rattle.strong_apa.specs.declared.reply.Reply.TheVariants.{Remasked}
use Rattle.strong_apa.specs.Reply.{reply_of_came, came_chain, chain_of}
use Rattle.strong_apa.specs.State.{State, IsState, task_on, task_count, state_with_ready, state_with_absent, state_with_mask}
use Rattle.strong_apa.specs.State.{state_with_online, state_with_offline, state_after_leaving}
use Rattle.strong_apa.specs.Chain.{CanShift, IsChainOf, IsBackChain, IsPath, occupant_after_shift, state_after_shift}
use Rattle.strong_apa.specs.History.{state_after_entering, state_after_came, state_after_gone, state_after_left, state_after_reply}
use Rattle.strong_apa.proofs.Changes.{IsState-state_with_online}
use Rattle.strong_apa.proofs.Leaving.{IsState-state_after_leaving, task_on-state_after_leaving, task_on-stays}
use Rattle.strong_apa.proofs.Linked.{occupied_number}
use Rattle.strong_apa.proofs.Shifts.{chain_below, occupant-later}
use Rattle.strong_apa.proofs.Steps.{IsState-remasked, IsState-moved, same_tasks-left}
use Rattle.strong_apa.specs.Passing.{CamePasses, ArrivalPasses, DeparturePasses, EnteringPasses, GonePasses, LeavingPasses, AffinityPasses}
use Rattle.strong_apa.specs.Passing.{OfflinePasses, OnlinePasses}
use Rattle.strong_apa.specs.PassingLaws.{PassingStaysOutside}
use Rattle.strong_apa.specs.Touched.{StaysOutside}
use Rattle.strong_apa.proofs.KeptStates.{left_by_passing}

-- ---- what a list contains
contains_cases : (x : ℕ) (rest : List ℕ) (q : ℕ) → Contains (x ∷ rest) q → (q ≡ x) ⊎ Contains rest q
contains_cases x rest q c = go c.0 c.1 c.2
  where
    go : (k : ℕ) → k < length (x ∷ rest) → get_or (x ∷ rest) k q ≡ q → (q ≡ x) ⊎ Contains rest q
    go zero lt here = inl (sym here)
    go (suc k) lt later = inr (k, omega arith, later)

pub contains_later : (x : ℕ) (rest : List ℕ) (q : ℕ) → Contains rest q → Contains (x ∷ rest) q
contains_later x rest q c = (suc c.0, (let lt = c.1 in omega arith), c.2)

contains_decided : (list : List ℕ) (q : ℕ) → Contains list q ⊎ (Contains list q → ⊥)
contains_decided [] q = inr (λ c. let lt = c.1 in omega arith)
contains_decided (x ∷ rest) q = elim (cases_eq x q) [
  | inl here ↦ inl (0, omega arith, here)
  | inr other ↦ elim (contains_decided rest q) [
    | inl later ↦ inl (contains_later x rest q later)
    | inr never ↦ inr (λ c. elim (contains_cases x rest q c) [ inl here ↦ other (sym here) | inr later ↦ never later ])
  ]
]

contains_from_reversed : (list : List ℕ) (q : ℕ) → Contains (reverse list) q → Contains list q
contains_from_reversed list q c = subst (λ (xs : List ℕ). Contains xs q) (reverse-reverse list)
    (Contains-permutation (reverse list) (reverse (reverse list)) q (IsPermutation-reverse (reverse list)) c)

-- ---- two states that differ on a list
-- a processor stands in the list, or has the occupant that it had
pub stands_or_stays : (old new : State) (list : List ℕ) → StaysOutside old new list → (p : ℕ)
    → Contains list p ⊎ (task_on new p ≡ task_on old p)
stands_or_stays old new list outside p = elim (contains_decided list p) [
  | inl stands ↦ inl stands
  | inr never ↦ inr (outside.same p never)
]

nothing_touched : (old new : State) → new.on ≡ old.on → StaysOutside old new []
nothing_touched old new same = record {
  below = All-nil (λ p. p < old.processors);
  same = λ p out. ap (λ (on : List (Option ℕ)). get_or on p None) same;
}

then_touched : (old mid new : State) (first later : List ℕ) → mid.processors ≡ old.processors → StaysOutside old mid first
    → StaysOutside mid new later → StaysOutside old new (first ++ later)
then_touched old mid new first later e a b = record {
  below = All-append (λ p. p < old.processors) first later a.below (subst (λ (m : ℕ). All (λ p. p < m) later) e b.below);
  same = λ p out. b.same p (λ c. out (Contains-append_right first later p c)) ∙ a.same p (λ c. out (Contains-append_left first later p c));
}

-- what stands in the rest of the list need not stand before it
absorbed : (old new : State) (p : ℕ) (list : List ℕ) → Contains list p → StaysOutside old new (p ∷ list) → StaysOutside old new list
absorbed old new p list there h = record {
  below = All-tail (λ q. q < old.processors) p list h.below;
  same = λ q out. h.same q (λ c. elim (contains_cases p list q c) [
    | inl here ↦ out (subst (Contains list) (sym here) there)
    | inr later
        ↦ out later
  ]);
}

-- ---- a shift
occupant_elsewhere : (s : State) (guest : Option ℕ) (chain : List ℕ) (q : ℕ) → (Contains chain q → ⊥) → occupant_after_shift s guest chain q
    ≡ task_on s q
occupant_elsewhere s guest [] q out = refl
occupant_elsewhere s guest (x ∷ rest) q out =
    occupant-later s guest x rest q (λ same. out (0, omega arith, sym same))
    ∙ occupant_elsewhere s (task_on s x) rest q (λ c. out (contains_later x rest q c))

shift_same : (s : State) → length s.on ≡ s.processors → (t : ℕ) (chain : List ℕ) (p : ℕ) → (Contains chain p → ⊥)
    → task_on (state_after_shift s t chain) p ≡ task_on s p
shift_same s count t chain p out = elim (cases_lt p s.processors) [
  | inl fits ↦ get_or-map-range_with_len (occupant_after_shift s (Some t) chain) 0 s.processors p p None fits (omega arith)
      ∙ occupant_elsewhere s (Some t) chain p out
  | inr past ↦ get_or_past (map (occupant_after_shift s (Some t) chain) (range_with_len 0 s.processors)) p None
      (rw (length-map-range_with_len (occupant_after_shift s (Some t) chain) 0 s.processors) past)
      ∙ sym (get_or_past s.on p None (rw count past))
]

-- ---- a task comes
chain_fits : (s : State) → IsState s → (t : ℕ) (chain : List ℕ) (end : ℕ) → IsChainOf s t chain end → All (λ p. p < s.processors) chain
chain_fits s ok t chain end is_chain = All-from_get_or (λ p. p < s.processors) chain 0 (chain_below s ok t chain end is_chain)

came_touched : (s : State) → IsState s → (t : ℕ) (came : Came) → CamePasses s t came
    → StaysOutside s (state_after_came s t came) (came_chain came)
came_touched s ok t (Placed chain) passes = record {
  below = chain_fits s ok t chain passes.ends.0 passes.ends.1;
  same = shift_same (state_with_ready s t) ok.on_count t chain;
}
came_touched s ok t (Displaced chain out reach) passes = record {
  below = chain_fits s ok t chain passes.ends.0 passes.ends.1;
  same = shift_same (state_with_ready s t) ok.on_count t chain;
}
came_touched s ok t (Waits reach) passes = nothing_touched s (state_with_ready s t) refl

-- ---- a processor is filled
back_walk_fits : (s : State) → IsState s → (p : ℕ) (rest : List ℕ) (q : ℕ) → IsPath (λ a b. CanShift s b a) p rest q
    → All (λ p. p < s.processors) rest
back_walk_fits s ok p [] q path = All-nil (λ p. p < s.processors)
back_walk_fits s ok p (r ∷ rest) q path =
    All-cons (λ p. p < s.processors) r rest (occupied_number s r path.0.0 ok path.0.1) (back_walk_fits s ok r rest q path.1)

back_chain_fits : (s : State) → IsState s → (p : ℕ) (chain : List ℕ) (q : ℕ) → p < s.processors → IsBackChain s p chain q
    → All (λ p. p < s.processors) chain
back_chain_fits s ok p [] q number is_back = absurd is_back
back_chain_fits s ok p (first ∷ rest) q number is_back =
    All-cons (λ p. p < s.processors) first rest (rw is_back.0 number) (back_walk_fits s ok p rest q is_back.1)

-- a back chain begins with the processor that is filled
back_chain_begins : (s : State) (p : ℕ) (chain : List ℕ) (q : ℕ) → IsBackChain s p chain q → Contains chain p
back_chain_begins s p [] q is_back = absurd is_back
back_chain_begins s p (first ∷ rest) q is_back = (0, omega arith, is_back.0)

entry_begins : (s : State) (p : ℕ) (entered : Option ℕ) (chain : List ℕ) (back : ℕ) → EnteringPasses s p entered chain back
    → Contains chain p
entry_begins s p None chain back enters = rw enters.1 (0, omega arith, refl)
entry_begins s p (Some w) chain back enters = back_chain_begins s p chain enters.1.0 enters.1.1

entry_touched : (s : State) → IsState s → (p : ℕ) → p < s.processors → (entered : Option ℕ) (chain : List ℕ) (back : ℕ)
    → EnteringPasses s p entered chain back → StaysOutside s (state_after_entering s entered chain) chain
entry_touched s ok p number None chain back enters = record {
  below = rw enters.1 (All-cons (λ q. q < s.processors) p [] number (All-nil (λ q. q < s.processors)));
  same = λ q out. refl;
}
entry_touched s ok p number (Some w) chain back enters = record {
  below = back_chain_fits s ok p chain enters.1.0 number enters.1.1;
  same = λ q out. shift_same s ok.on_count w (reverse chain) q (λ c. out (contains_from_reversed chain q c));
}

gone_touched : (s : State) → IsState s → (p : ℕ) → p < s.processors → (gone : Gone) → GonePasses s p gone
    → StaysOutside s (state_after_gone s gone) gone.chain
gone_touched s ok p number gone passes = entry_touched s ok p number gone.entered gone.chain gone.back passes.enters

-- ---- a task leaves its processor
leaving_touched : (s : State) → IsState s → (t p : ℕ) → task_on s p ≡ Some t → StaysOutside s (state_after_leaving s t) (p ∷ [])
leaving_touched s ok t p on = record {
  below = All-cons (λ q. q < s.processors) p [] (occupied_number s p t ok on) (All-nil (λ q. q < s.processors));
  same = λ q out. stays q out (task_on s q) (task_on (state_after_leaving s t) q) refl refl;
}
  where
    stays : (q : ℕ) → (Contains (p ∷ []) q → ⊥) → (old new : Option ℕ) → task_on s q ≡ old → task_on (state_after_leaving s t) q ≡ new
        → task_on (state_after_leaving s t) q ≡ task_on s q
    stays q out (Some u) new e f =
        task_on-stays s t q u e (λ same. out (0, omega arith, ok.once p q t on (e ∙ ap (λ (n : ℕ). Some n) same))) ∙ sym e
    stays q out None None e f = f ∙ sym e
    stays q out None (Some v) e f = absurd (let before = (task_on-state_after_leaving s t q v f).0 in cc)

filled_touched : (s : State) → IsState s → (t p : ℕ) → task_on s p ≡ Some t → (gone : Gone) → GonePasses (state_after_leaving s t) p gone
    → StaysOutside s (state_after_gone (state_after_leaving s t) gone) gone.chain
filled_touched s ok t p on gone passes =
    let left = state_after_leaving s t in
    absorbed s (state_after_gone left gone) p gone.chain (entry_begins left p gone.entered gone.chain gone.back passes.enters)
    (then_touched s left (state_after_gone left gone) (p ∷ []) gone.chain refl (leaving_touched s ok t p on)
    (gone_touched left (IsState-state_after_leaving s ok t) p (occupied_number s p t ok on) gone passes))

-- ---- a ready task leaves and comes back
returns_touched : (s : State) → IsState s → (t mask : ℕ) (gone : Option Gone) (came : Came) → t < task_count s → IsMask s.processors mask
    → LeavingPasses s t gone → CamePasses (state_with_mask (state_after_left s t gone) t mask) t came
    → StaysOutside s (state_after_came (state_with_mask (state_after_left s t gone) t mask) t came) (chain_of (Remasked gone came))
returns_touched s ok t mask None came number lawful leaves passes =
    let left = state_with_mask (state_after_left s t None) t mask in
    let back = came_touched left (IsState-remasked s t mask (state_after_left s t None)
    (left_by_passing s ok t mask None number lawful leaves)) t came passes in
    record { below = back.below; same = back.same }
returns_touched s ok t mask (Some gone) came number lawful leaves passes =
    let between = state_after_left s t (Some gone) in
    let left = state_with_mask between t mask in
    let first = filled_touched s ok t leaves.0 leaves.1 gone leaves.2 in
    then_touched s left (state_after_came left t came) gone.chain (came_chain came) (same_tasks-left s t (Some gone)).processors
    (record { below = first.below; same = first.same })
    (came_touched left (IsState-remasked s t mask between (left_by_passing s ok t mask (Some gone) number lawful leaves)) t came passes)

moved_touched : (s : State) → IsState s → (p t : ℕ) → task_on s p ≡ Some t → (came : Came)
    → CamePasses (state_with_offline (state_after_leaving s t) p) t came
    → StaysOutside s (state_after_came (state_with_offline (state_after_leaving s t) p) t came) (p ∷ came_chain came)
moved_touched s ok p t on came passes =
    let left = state_with_offline (state_after_leaving s t) p in
    let first = leaving_touched s ok t p on in
    then_touched s left (state_after_came left t came) (p ∷ []) (came_chain came) refl (record { below = first.below; same = first.same })
    (came_touched left (IsState-moved s ok p t on) t came passes)

-- ---- any event
arrival_touched : (s : State) → IsState s → (t : ℕ) (reply : Reply) → ArrivalPasses s t reply
    → StaysOutside s (state_after_reply s (Arrive t) reply) (chain_of reply)
arrival_touched s ok t reply (inl again) = rw again.1 (nothing_touched s s refl)
arrival_touched s ok t reply (inr new) = rw new.answer (said new.came new.passes)
  where
    said : (came : Came) → CamePasses s t came
        → StaysOutside s (state_after_reply s (Arrive t) (reply_of_came came)) (chain_of (reply_of_came came))
    said (Placed chain) passes = came_touched s ok t (Placed chain) passes
    said (Displaced chain out reach) passes = came_touched s ok t (Displaced chain out reach) passes
    said (Waits reach) passes = came_touched s ok t (Waits reach) passes

-- nothing comes after the chain along which a processor was filled
chain_alone : (old new : State) (chain : List ℕ) → StaysOutside old new chain → StaysOutside old new (chain ++ [])
chain_alone old new chain h = subst (StaysOutside old new) (sym (append-nil chain)) h

departure_touched : (s : State) → IsState s → (t : ℕ) (reply : Reply) → DeparturePasses s t reply
    → StaysOutside s (state_after_reply s (Depart t) reply) (chain_of reply)
departure_touched s ok t reply (inl again) = rw again.1 (nothing_touched s s refl)
departure_touched s ok t reply (inr (inl waiting)) = rw waiting.1 (nothing_touched s (state_with_absent s t) refl)
departure_touched s ok t reply (inr (inr linked)) =
    rw linked.answer (chain_alone s (state_after_gone (state_after_leaving s t) linked.gone) linked.gone.chain
    (filled_touched s ok t linked.place linked.linked linked.gone linked.passes))

affinity_touched : (s : State) → IsState s → (t mask : ℕ) (reply : Reply) → t < task_count s → IsMask s.processors mask
    → AffinityPasses s t mask reply → StaysOutside s (state_after_reply s (Affinity t mask) reply) (chain_of reply)
affinity_touched s ok t mask reply number lawful (inl masked) = rw masked.1 (nothing_touched s (state_with_mask s t mask) refl)
affinity_touched s ok t mask reply number lawful (inr returns) =
    rw returns.answer (returns_touched s ok t mask returns.gone returns.came number lawful returns.leaves returns.passes)

-- no occupant changes, whatever the processor
one_touched : (old new : State) (p : ℕ) → p < old.processors → new.on ≡ old.on → StaysOutside old new (p ∷ [])
one_touched old new p number same = record {
  below = All-cons (λ q. q < old.processors) p [] number (All-nil (λ q. q < old.processors));
  same = λ q out. ap (λ (on : List (Option ℕ)). get_or on q None) same;
}

offline_touched : (s : State) → IsState s → (p : ℕ) (reply : Reply) → p < s.processors → OfflinePasses s p reply
    → StaysOutside s (state_after_reply s (Offline p) reply) (p ∷ chain_of reply)
offline_touched s ok p reply number (inl again) = rw again.1 (one_touched s s p number refl)
offline_touched s ok p reply number (inr (inl idle)) = rw idle.1 (one_touched s (state_with_offline s p) p number refl)
offline_touched s ok p reply number (inr (inr there)) =
    rw there.answer (moved_touched s ok p there.moved.task there.occupied there.moved.came there.passes)

online_touched : (s : State) → IsState s → (p : ℕ) (reply : Reply) → p < s.processors → OnlinePasses s p reply
    → StaysOutside s (state_after_reply s (Online p) reply) (chain_of reply)
online_touched s ok p reply number (inl again) = rw again.1 (nothing_touched s s refl)
online_touched s ok p reply number (inr filled) =
    let on = state_with_online s p in
    let h = gone_touched on (IsState-state_with_online s p ok number) p number filled.parts filled.passes in
    rw filled.answer (chain_alone s (state_after_gone on filled.parts) filled.parts.chain (record { below = h.below; same = h.same }))

pub passing_stays_outside : PassingStaysOutside
passing_stays_outside s (Arrive t) reply ok passes = arrival_touched s ok t reply passes.1
passing_stays_outside s (Depart t) reply ok passes = departure_touched s ok t reply passes.1
passing_stays_outside s (Tick units) reply ok passes = rw passes (nothing_touched s s refl)
passing_stays_outside s (Affinity t mask) reply ok passes = affinity_touched s ok t mask reply passes.0 passes.1 passes.2
passing_stays_outside s (Offline p) reply ok passes = offline_touched s ok p reply passes.0 passes.1
passing_stays_outside s (Online p) reply ok passes = online_touched s ok p reply passes.0 passes.1
