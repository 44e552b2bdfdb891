-- The weak scheduler's step leads to one state, and it is a state again.
use Rattle.std.proofs.Common.{◌≡◌, ℕ, ◌<◌, false, List, [], ◌∷◌, None, refl, sym, ap, ◌∙◌, subst, inl, inr, IsTrue, arith, le_antisymm}
use Rattle.std.proofs.lemmas.Bool.{true≢false}
use Rattle.std.proofs.lemmas.Option.{same_Some}
use Rattle.affinity_mask.specs.ProcSet.{has}
use Rattle.task_set.specs.TaskSet.{IsMask}
use Rattle.task_set.specs.declared.event.Event.TheVariants.{Arrive, Depart, Tick, Affinity, Offline, Online}
use Rattle.strong_apa.specs.State.{State, IsState, IsWaiting, task_count, is_ready, priority_of, effective_mask, state_with_ready}
use Rattle.strong_apa.specs.State.{state_with_mask, state_with_online, state_with_offline, state_after_leaving}
use Rattle.strong_apa.specs.Chain.{state_after_shift}
use Rattle.strong_apa.specs.Step.{IsOccupied, IsLeastUrgentOn}
use Rattle.strong_apa.proofs.Changes.{IsState-state_with_mask, IsState-state_with_online, IsState-state_with_offline}
use Rattle.strong_apa.proofs.Leaving.{IsState-state_with_absent, IsState-state_after_leaving}
use Rattle.strong_apa.proofs.Linked.{linked_number, not_on}
use Rattle.strong_apa.proofs.Readiness.{IsState-state_with_ready, IsWaiting-state_with_ready}
use Rattle.strong_apa.proofs.Shifts.{IsState-state_after_shift}
use Rattle.strong_apa.proofs.Steps.{HasLeft, IsState-remasked, IsState-moved, absent_moved}
use Rattle.strong_apa.proofs.Unique.{ready_number}
use Rattle.weak_apa.specs.StepLaws.{WeakStepIsUnique, WeakStepKeepsState}
use Rattle.weak_apa.specs.Stable.{IsKeptOut}
use Rattle.weak_apa.specs.Step.{TakesProcessor, FindsIdle, WeaklyDisplaces, IsTurn, IsPlacedInTurns, WeaklyComes, WeaklyFills, WeaklyLeaves}
use Rattle.weak_apa.specs.Step.{WeaklyArrives, WeaklyDeparts, WeaklyMasks, WeaklyGoesOff, WeaklyComesOn}
use Rattle.weak_apa.proofs.Followed.{leaves_known, leaves_ready}
use Rattle.strong_apa.proofs.KeptByChanges.{nobody_off}
use Rattle.weak_apa.proofs.Leaving.{absent_then}
use Rattle.weak_apa.proofs.Placing.{one_is_simple, displaced_waits}

-- ---- one turn
module _ (s : State) (ok : IsState s) (x : ℕ) where
  finds_once : (new next : State) → FindsIdle s x new → FindsIdle s x next → new ≡ next
  finds_once new next one other =
      let le = one.least other.place other.there other.idle in
      let ge = other.least one.place one.there one.idle in
      let same : one.place ≡ other.place = le_antisymm le ge in
      one.goes ∙ ap (λ (p : ℕ). state_after_shift s x (p ∷ [])) same ∙ sym other.goes

  idle_keeps_none_out : (new : State) → FindsIdle s x new → IsKeptOut s x → ⊥
  idle_keeps_none_out new finds kept_out = let runs = kept_out finds.place finds.there in let on = runs.1 in let idle = finds.idle.1 in cc

  idle_is_not_occupied : (new : State) → FindsIdle s x new → IsOccupied s (effective_mask s x) → ⊥
  idle_is_not_occupied new finds occupied = let runs = occupied finds.place finds.there in let on = runs.1 in let idle = finds.idle.1 in cc

  -- who is kept out finds nobody less urgent
  kept_out_displaces_none : (out : ℕ) (new : State) → IsKeptOut s x → WeaklyDisplaces s x out new → ⊥
  kept_out_displaces_none out new kept_out displaces =
      let there = displaces.out_there.there in
      let runs = kept_out there.0 there.1 in
      let same : runs.0 ≡ out = same_Some runs.0 out (sym runs.1 ∙ there.2) in
      let priorities = ap (priority_of s) same in
      let more_urgent = runs.2 in
      let less_urgent = displaces.out_less_urgent in
      omega arith

  least_once : (out other : ℕ) → IsLeastUrgentOn s (effective_mask s x) out → IsLeastUrgentOn s (effective_mask s x) other → out ≡ other
  least_once out other one two =
      let here = one.there in
      let there = two.there in
      ok.distinct out other (linked_number s here.0 out ok here.2) (linked_number s there.0 other ok there.2)
      (le_antisymm (two.least_urgent here.0 out here.1 here.2) (one.least_urgent there.0 other there.1 there.2))

  displaces_once : (out : ℕ) (new next : State) → WeaklyDisplaces s x out new → WeaklyDisplaces s x out next → new ≡ next
  displaces_once out new next one other =
      one.goes ∙ ap (λ (p : ℕ). state_after_shift s x (p ∷ [])) (ok.once one.place other.place out one.on other.on) ∙ sym other.goes

  last_once : (new next : State) → IsTurn s x None new → IsTurn s x None next → new ≡ next
  last_once new next (inl one) (inl other) = finds_once new next one other
  last_once new next (inl one) (inr other) = absurd (idle_keeps_none_out new one other.0)
  last_once new next (inr one) (inl other) = absurd (idle_keeps_none_out next other one.0)
  last_once new next (inr one) (inr other) = one.1 ∙ sym other.1

  last_displaces_none : (out : ℕ) (new next : State) → IsTurn s x None new → WeaklyDisplaces s x out next → ⊥
  last_displaces_none out new next (inl finds) displaces = idle_is_not_occupied new finds displaces.occupied
  last_displaces_none out new next (inr keeps) displaces = kept_out_displaces_none out next keeps.0 displaces

  module _ (waits : IsWaiting s x) where
    goes_keeps : (p : ℕ) (new : State) → IsTrue (has (effective_mask s x) p) → TakesProcessor s x p new → IsState new
    goes_keeps p new there goes =
        subst IsState (sym goes) (IsState-state_after_shift s ok x (p ∷ []) p waits (there, refl) (one_is_simple p))

    last_keeps : (new : State) → IsTurn s x None new → IsState new
    last_keeps new (inl finds) = goes_keeps finds.place new finds.there finds.goes
    last_keeps new (inr keeps) = subst IsState (sym keeps.1) ok

    place_inside : (out : ℕ) (new : State) → (displaces : WeaklyDisplaces s x out new) → IsTrue (has (effective_mask s x) displaces.place)
    place_inside out new displaces =
        let there = displaces.out_there.there in
        subst (λ (p : ℕ). IsTrue (has (effective_mask s x) p)) (ok.once there.0 displaces.place out there.2 displaces.on) there.1

    displaces_keeps : (out : ℕ) (new : State) → WeaklyDisplaces s x out new → IsState new
    displaces_keeps out new displaces = goes_keeps displaces.place new (place_inside out new displaces) displaces.goes

    out_waits : (out : ℕ) (new : State) → WeaklyDisplaces s x out new → IsWaiting new out
    out_waits out new displaces =
        subst (λ (after : State). IsWaiting after out) (sym displaces.goes)
        (displaced_waits s ok x displaces.place waits (place_inside out new displaces) out displaces.on)

-- ---- turns
placed_once : (displaced other : List ℕ) (s : State) → IsState s → (x : ℕ) → IsWaiting s x → (new next : State)
    → IsPlacedInTurns s x displaced new → IsPlacedInTurns s x other next → new ≡ next
placed_once [] [] s ok x waits new next one two = last_once s ok x new next one two
placed_once [] (out ∷ rest) s ok x waits new next one two = absurd (last_displaces_none s ok x out new two.0 one two.1)
placed_once (out ∷ rest) [] s ok x waits new next one two = absurd (last_displaces_none s ok x out next one.0 two one.1)
placed_once (out ∷ rest) (out' ∷ rest') s ok x waits new next one two =
    let task : out' ≡ out = least_once s ok x out' out two.1.out_there one.1.out_there in
    let second : WeaklyDisplaces s x out two.0 = subst (λ (d : ℕ). WeaklyDisplaces s x d two.0) task two.1 in
    let between : two.0 ≡ one.0 = displaces_once s ok x out two.0 one.0 second one.1 in
    let placed : IsPlacedInTurns two.0 out rest' next = subst (λ (d : ℕ). IsPlacedInTurns two.0 d rest' next) task two.2 in
    placed_once rest rest' one.0 (displaces_keeps s ok x waits out one.0 one.1) out (out_waits s ok x waits out one.0 one.1) new next one.2
    (subst (λ (after : State). IsPlacedInTurns after out rest' next) between placed)

placed_keeps : (displaced : List ℕ) (s : State) → IsState s → (x : ℕ) → IsWaiting s x → (new : State) → IsPlacedInTurns s x displaced new
    → IsState new
placed_keeps [] s ok x waits new one = last_keeps s ok x waits new one
placed_keeps (out ∷ rest) s ok x waits new one =
    placed_keeps rest one.0 (displaces_keeps s ok x waits out one.0 one.1) out (out_waits s ok x waits out one.0 one.1) new one.2

module _ (s : State) (ok : IsState s) (t : ℕ) (number : t < task_count s) (absent : is_ready s t ≡ false) where
  comes_once : (new next : State) → WeaklyComes s t new → WeaklyComes s t next → new ≡ next
  comes_once new next one two = placed_once one.0 two.0 (state_with_ready s t) (IsState-state_with_ready s ok t number) t
      (IsWaiting-state_with_ready s ok t number absent) new next one.1 two.1

  comes_keeps : (new : State) → WeaklyComes s t new → IsState new
  comes_keeps new one = placed_keeps one.0 (state_with_ready s t) (IsState-state_with_ready s ok t number) t
      (IsWaiting-state_with_ready s ok t number absent) new one.1

-- ---- a processor that became idle, and a task that leaves
fills_once : (s : State) → IsState s → (p : ℕ) (new next : State) → WeaklyFills s p new → WeaklyFills s p next → new ≡ next
fills_once s ok p new next (inl one) (inl two) = one.1 ∙ sym two.1
fills_once s ok p new next (inl one) (inr two) = absurd (one.0 two.0 two.1.waits two.1.enters)
fills_once s ok p new next (inr one) (inl two) = absurd (two.0 one.0 one.1.waits one.1.enters)
fills_once s ok p new next (inr one) (inr two) =
    let same : one.0 ≡ two.0 = ok.distinct one.0 two.0 (ready_number s ok one.0 one.1.waits.ready)
    (ready_number s ok two.0 two.1.waits.ready)
    (le_antisymm (one.1.most_urgent two.0 two.1.waits two.1.enters) (two.1.most_urgent one.0 one.1.waits one.1.enters)) in
    one.2 ∙ ap (λ (w : ℕ). state_after_shift s w (p ∷ [])) same ∙ sym two.2

fills_keeps : (s : State) → IsState s → (p : ℕ) (new : State) → WeaklyFills s p new → IsState new
fills_keeps s ok p new (inl one) = subst IsState (sym one.1) ok
fills_keeps s ok p new (inr one) = goes_keeps s ok one.0 one.1.waits p new one.1.enters one.2

leaves_once : (s : State) → IsState s → (t : ℕ) (new next : State) → WeaklyLeaves s t new → WeaklyLeaves s t next → new ≡ next
leaves_once s ok t new next (inl one) (inl two) = one.1 ∙ sym two.1
leaves_once s ok t new next (inl one) (inr two) = absurd (not_on s two.place t one.0.not_linked two.on)
leaves_once s ok t new next (inr one) (inl two) = absurd (not_on s one.place t two.0.not_linked one.on)
leaves_once s ok t new next (inr one) (inr two) =
    fills_once (state_after_leaving s t) (IsState-state_after_leaving s ok t) one.place new next one.fills
    (subst (λ (p : ℕ). WeaklyFills (state_after_leaving s t) p next) (ok.once two.place one.place t two.on one.on) two.fills)

leaves_keeps : (s : State) → IsState s → (t : ℕ) (new : State) → WeaklyLeaves s t new → IsState new
leaves_keeps s ok t new (inl one) = subst IsState (sym one.1) (IsState-state_with_absent s ok t one.0)
leaves_keeps s ok t new (inr one) = fills_keeps (state_after_leaving s t) (IsState-state_after_leaving s ok t) one.place new one.fills

has_left : (s : State) → IsState s → (t mask : ℕ) (between : State) → t < task_count s → IsMask s.processors mask → WeaklyLeaves s t between
    → HasLeft s t mask between
has_left s ok t mask between number lawful leaves =
    let known = leaves_known s t between leaves in
    record {
      number = subst (λ (n : ℕ). t < n) (sym (ap (λ (k : State). task_count k) known)) number;
      absent = ap (λ (k : State). is_ready k t) known ∙ absent_then s ok t number;
      lawful = subst (λ (m : ℕ). IsMask m mask) (sym (ap (λ (k : State). k.processors) known)) lawful;
      state = leaves_keeps s ok t between leaves;
    }

-- ---- any event
module _ (s : State) (ok : IsState s) where
  arrives_once : (t : ℕ) → t < task_count s → (new next : State) → WeaklyArrives s t new → WeaklyArrives s t next → new ≡ next
  arrives_once t number new next (inl one) (inl two) = one.1 ∙ sym two.1
  arrives_once t number new next (inl one) (inr two) = absurd (true≢false (sym one.0 ∙ two.0))
  arrives_once t number new next (inr one) (inl two) = absurd (true≢false (sym two.0 ∙ one.0))
  arrives_once t number new next (inr one) (inr two) = comes_once s ok t number one.0 new next one.1 two.1

  arrives_keeps : (t : ℕ) → t < task_count s → (new : State) → WeaklyArrives s t new → IsState new
  arrives_keeps t number new (inl one) = subst IsState (sym one.1) ok
  arrives_keeps t number new (inr one) = comes_keeps s ok t number one.0 new one.1

  departs_once : (t : ℕ) (new next : State) → WeaklyDeparts s t new → WeaklyDeparts s t next → new ≡ next
  departs_once t new next (inl one) (inl two) = one.1 ∙ sym two.1
  departs_once t new next (inl one) (inr two) = absurd (true≢false (sym (leaves_ready s ok t next two) ∙ one.0))
  departs_once t new next (inr one) (inl two) = absurd (true≢false (sym (leaves_ready s ok t new one) ∙ two.0))
  departs_once t new next (inr one) (inr two) = leaves_once s ok t new next one two

  departs_keeps : (t : ℕ) (new : State) → WeaklyDeparts s t new → IsState new
  departs_keeps t new (inl one) = subst IsState (sym one.1) ok
  departs_keeps t new (inr one) = leaves_keeps s ok t new one

  masks_once : (t mask : ℕ) → t < task_count s → IsMask s.processors mask → (new next : State) → WeaklyMasks s t mask new
      → WeaklyMasks s t mask next → new ≡ next
  masks_once t mask number lawful new next (inl one) (inl two) = one.1 ∙ sym two.1
  masks_once t mask number lawful new next (inl one) (inr two) =
      absurd (true≢false (sym (leaves_ready s ok t two.between two.leaves) ∙ one.0))
  masks_once t mask number lawful new next (inr one) (inl two) =
      absurd (true≢false (sym (leaves_ready s ok t one.between one.leaves) ∙ two.0))
  masks_once t mask number lawful new next (inr one) (inr two) =
      let left = has_left s ok t mask one.between number lawful one.leaves in
      comes_once (state_with_mask one.between t mask) (IsState-remasked s t mask one.between left)
      t left.number left.absent new next one.comes
      (subst (λ (b : State). WeaklyComes (state_with_mask b t mask) t next)
      (leaves_once s ok t two.between one.between two.leaves one.leaves) two.comes)

  masks_keeps : (t mask : ℕ) → t < task_count s → IsMask s.processors mask → (new : State) → WeaklyMasks s t mask new → IsState new
  masks_keeps t mask number lawful new (inl one) = subst IsState (sym one.1) (IsState-state_with_mask s t mask ok number lawful one.0)
  masks_keeps t mask number lawful new (inr one) =
      let left = has_left s ok t mask one.between number lawful one.leaves in
      comes_keeps (state_with_mask one.between t mask) (IsState-remasked s t mask one.between left) t left.number left.absent new one.comes

  goes_off_once : (p : ℕ) (new next : State) → WeaklyGoesOff s p new → WeaklyGoesOff s p next → new ≡ next
  goes_off_once p new next (inl one) (inl two) = one.1 ∙ sym two.1
  goes_off_once p new next (inl one) (inr (inl two)) = absurd (true≢false (sym two.0.0 ∙ one.0))
  goes_off_once p new next (inl one) (inr (inr two)) = absurd (let nobody = nobody_off s ok p one.0 in let on = two.on in cc)
  goes_off_once p new next (inr (inl one)) (inl two) = absurd (true≢false (sym one.0.0 ∙ two.0))
  goes_off_once p new next (inr (inl one)) (inr (inl two)) = one.1 ∙ sym two.1
  goes_off_once p new next (inr (inl one)) (inr (inr two)) = absurd (let nobody = one.0.1 in let on = two.on in cc)
  goes_off_once p new next (inr (inr one)) (inl two) = absurd (let nobody = nobody_off s ok p two.0 in let on = one.on in cc)
  goes_off_once p new next (inr (inr one)) (inr (inl two)) = absurd (let nobody = two.0.1 in let on = one.on in cc)
  goes_off_once p new next (inr (inr one)) (inr (inr two)) =
      let same : two.task ≡ one.task = same_Some two.task one.task (sym two.on ∙ one.on) in
      comes_once (state_with_offline (state_after_leaving s one.task) p) (IsState-moved s ok p one.task one.on) one.task
      (linked_number s p one.task ok one.on) (absent_moved s ok p one.task one.on) new next one.comes
      (subst (λ (t : ℕ). WeaklyComes (state_with_offline (state_after_leaving s t) p) t next) same two.comes)

  goes_off_keeps : (p : ℕ) (new : State) → WeaklyGoesOff s p new → IsState new
  goes_off_keeps p new (inl one) = subst IsState (sym one.1) ok
  goes_off_keeps p new (inr (inl one)) = subst IsState (sym one.1) (IsState-state_with_offline s p ok one.0.1)
  goes_off_keeps p new (inr (inr one)) =
      comes_keeps (state_with_offline (state_after_leaving s one.task) p) (IsState-moved s ok p one.task one.on) one.task
      (linked_number s p one.task ok one.on) (absent_moved s ok p one.task one.on) new one.comes

  comes_on_once : (p : ℕ) → p < s.processors → (new next : State) → WeaklyComesOn s p new → WeaklyComesOn s p next → new ≡ next
  comes_on_once p number new next (inl one) (inl two) = one.1 ∙ sym two.1
  comes_on_once p number new next (inl one) (inr two) = absurd (true≢false (sym one.0 ∙ two.0))
  comes_on_once p number new next (inr one) (inl two) = absurd (true≢false (sym two.0 ∙ one.0))
  comes_on_once p number new next (inr one) (inr two) =
      fills_once (state_with_online s p) (IsState-state_with_online s p ok number) p new next one.1 two.1

  comes_on_keeps : (p : ℕ) → p < s.processors → (new : State) → WeaklyComesOn s p new → IsState new
  comes_on_keeps p number new (inl one) = subst IsState (sym one.1) ok
  comes_on_keeps p number new (inr one) = fills_keeps (state_with_online s p) (IsState-state_with_online s p ok number) p new one.1

pub weak_step_is_unique : WeakStepIsUnique
weak_step_is_unique s (Arrive t) new next ok one two = arrives_once s ok t one.0 new next one.1 two.1
weak_step_is_unique s (Depart t) new next ok one two = departs_once s ok t new next one.1 two.1
weak_step_is_unique s (Tick units) new next ok one two = one ∙ sym two
weak_step_is_unique s (Affinity t mask) new next ok one two = masks_once s ok t mask one.0 one.1 new next one.2 two.2
weak_step_is_unique s (Offline p) new next ok one two = goes_off_once s ok p new next one.1 two.1
weak_step_is_unique s (Online p) new next ok one two = comes_on_once s ok p one.0 new next one.1 two.1

pub weak_step_keeps_state : WeakStepKeepsState
weak_step_keeps_state s (Arrive t) new ok step = arrives_keeps s ok t step.0 new step.1
weak_step_keeps_state s (Depart t) new ok step = departs_keeps s ok t new step.1
weak_step_keeps_state s (Tick units) new ok step = subst IsState (sym step) ok
weak_step_keeps_state s (Affinity t mask) new ok step = masks_keeps s ok t mask step.0 step.1 new step.2
weak_step_keeps_state s (Offline p) new ok step = goes_off_keeps s ok p new step.1
weak_step_keeps_state s (Online p) new ok step = comes_on_keeps s ok p step.0 new step.1
