-- A task has one chain at a moment, whatever placement of the best set it is read from.
use Rattle.std.proofs.Common.{◌≡◌, ℕ, ◌<◌, ◌≤◌, Bool, true, false, List, [], take, drop, length, get_or, Option, None, Some, refl, sym, ap}
use Rattle.std.proofs.Common.{◌∙◌, subst, inl, inr, ◌⊎◌, arith, IsTrue}
use Rattle.std.specs.Prelude.{◌↔◌, reverse}
use Rattle.std.proofs.lemmas.List.{ext_get_or, length-map}
use Rattle.affinity_mask.specs.ProcSet.{has}
use Rattle.task_set.specs.TaskSet.{SetData, TaskData, IsTaskSet}
use Rattle.strong_apa.specs.Chain.{IsLeastSuch, EndsIdle}
use Rattle.strong_apa.specs.Placement.{IsBest, TaskTest}
use Rattle.strong_apa.specs.State.{State, start_of, task_count, task_on, is_linked, is_ready, effective_mask, priority_of}
use Rattle.strong_apa.proofs.BestOnce.{best_is_unique}
use Rattle.strong_apa.proofs.Least.{least_unique}
use Rattle.strong_apa.proofs.Linked.{linked_number, place_in, task_on-linked}
use Rattle.strong_apa.proofs.Masks.{effective_mask_below}
use Rattle.strong_apa.proofs.SameBest.{IsBest-same}
use Rattle.live_core.specs.Lost.{AreHoldersAfter, state_held}
use Rattle.live_core.specs.Seen.{Claims, RunsOn, IsLost, IsTable, seen_at}
use Rattle.trace_passages.specs.Passages.{ArePassages}
use Rattle.trace_passages.specs.declared.passage.Passage.{Passage}
use Rattle.trace_losses.specs.ChainAt.{ArePlaces, AreChainSteps, AreNoSteps, IsChainAt, steps_of}
use Rattle.trace_losses.specs.Laws.{ChainsAreUnique}
use Rattle.trace_losses.specs.Passages.{IsCut, ready_after_passages}
use Rattle.trace_losses.specs.Walk.{IsPlaced}
use Rattle.trace_losses.specs.declared.chains.ChainStep.{ChainStep}
use Rattle.trace_losses.proofs.ReadyTasks.{ready_within}
use Rattle.trace_losses.proofs.RunsMoment.{one_cut}
use Rattle.trace_losses.proofs.SeenMoments.{count_of}

-- two placements of the best set of the same ready tasks
module _ (task_set : SetData) (R : TaskTest) (within : (t : ℕ) → R t ≡ true → t < task_count (start_of task_set)) (one other : State)
    (first : IsPlaced task_set R one) (second : IsPlaced task_set R other) where
  best_by : (links : State) → IsPlaced task_set R links → IsBest (start_of task_set) R (is_linked links)
  best_by links placed =
      IsBest-same (start_of task_set) links placed.tasks placed.masks (is_ready links) R (is_linked links) (is_linked links) placed.ready
      (λ t. refl) placed.best

  same_linked : (t : ℕ) → is_linked one t ≡ is_linked other t
  same_linked t =
      best_is_unique (start_of task_set) R (is_linked one) (is_linked other) within (best_by one first) (best_by other second) t

  same_effective : (t : ℕ) → effective_mask one t ≡ effective_mask other t
  same_effective t = rw (first.masks.masks, first.masks.online, second.masks.masks, second.masks.online) refl

  same_priority : (t : ℕ) → priority_of one t ≡ priority_of other t
  same_priority t = rw (first.tasks.priorities, second.tasks.priorities) refl

  same_count : task_count one ≡ task_count other
  same_count = ap length first.tasks.priorities ∙ sym (ap length second.tasks.priorities)

  same_ready : one.ready ≡ other.ready
  same_ready =
      ext_get_or false one.ready other.ready (first.valid.ready_count ∙ same_count ∙ sym second.valid.ready_count)
      (λ t below. first.ready t ∙ sym (second.ready t))

  -- with these holders they are one state
  same_held : (on : List (Option ℕ)) → state_held one on ≡ state_held other on
  same_held on =
      let made : ℕ → List ℕ → List ℕ → ℕ → List Bool → State = λ (n : ℕ) (p m : List ℕ) (o : ℕ) (r : List Bool).
      record { processors = n; priorities = p; masks = m; online = o; ready = r; on = on } in
      ap (λ (n : ℕ). made n one.priorities one.masks one.online one.ready) (first.tasks.processors ∙ sym second.tasks.processors)
      ∙ ap (λ (p : List ℕ). made other.processors p one.masks one.online one.ready) (first.tasks.priorities ∙ sym second.tasks.priorities)
      ∙ ap (λ (m : List ℕ). made other.processors other.priorities m one.online one.ready) (first.masks.masks ∙ sym second.masks.masks)
      ∙ ap (λ (o : ℕ). made other.processors other.priorities other.masks o one.ready) (first.masks.online ∙ sym second.masks.online)
      ∙ ap (made other.processors other.priorities other.masks other.online) same_ready

-- who claims a processor, and runs on it, by either of them
module _ (task_set : SetData) (R : TaskTest) (within : (t : ℕ) → R t ≡ true → t < task_count (start_of task_set)) (one other : State)
    (earlier after : List Passage) (places others : List (Option ℕ)) (first : IsPlaced task_set R one) (second : IsPlaced task_set R other)
    (are : ArePlaces earlier after (length task_set.tasks) places) (also : ArePlaces earlier after (length task_set.tasks) others) where
  claims_too : (t q : ℕ) → Claims one places t q → Claims other others t q
  claims_too t q claims =
      let below = effective_mask_below one first.valid t q claims.allowed in
      let few = first.valid.processors in
      let number = linked_number one (place_in t one.on) t first.valid (task_on-linked one t claims.linked) in
      let count = count_of task_set R one first in
      let task : t < length task_set.tasks = omega (arith, number, count) in
      let small : q < 64 = omega (arith, below, few) in
      record {
        linked = sym (same_linked task_set R within one other first second t) ∙ claims.linked;
        there = (also.each t q task small).1 ((are.each t q task small).0 claims.there);
        allowed = subst (λ (X : ℕ). IsTrue (has X q)) (same_effective task_set R within one other first second t) claims.allowed;
      }

module _ (task_set : SetData) (R : TaskTest) (within : (t : ℕ) → R t ≡ true → t < task_count (start_of task_set)) (one other : State)
    (earlier after : List Passage) (places others : List (Option ℕ)) (first : IsPlaced task_set R one) (second : IsPlaced task_set R other)
    (are : ArePlaces earlier after (length task_set.tasks) places) (also : ArePlaces earlier after (length task_set.tasks) others) where
  runs_too : (t q : ℕ) → RunsOn one places t q → RunsOn other others t q
  runs_too t q runs = record {
    claims = claims_too task_set R within one other earlier after places others first second are also t q runs.claims;
    most_urgent = λ u claims.
        (let le = runs.most_urgent u (claims_too task_set R within other one earlier after others places second first also are u q
        claims) in
        let this = same_priority task_set R within one other first second t in
        let that = same_priority task_set R within one other first second u in
        omega (arith, le, this, that));
  }

module _ (task_set : SetData) (R : TaskTest) (within : (t : ℕ) → R t ≡ true → t < task_count (start_of task_set)) (one other : State)
    (earlier after : List Passage) (places others : List (Option ℕ)) (first : IsPlaced task_set R one) (second : IsPlaced task_set R other)
    (are : ArePlaces earlier after (length task_set.tasks) places) (also : ArePlaces earlier after (length task_set.tasks) others)
    (on held : List (Option ℕ)) (table : IsTable one places (state_held one on)) (more : IsTable other others (state_held other held))
    (which : AreHoldersAfter None one places on) (whose : AreHoldersAfter None other others held) where
  there_too : (q t : ℕ) → task_on (state_held one on) q ≡ Some t → task_on (state_held other held) q ≡ Some t
  there_too q t is =
      (whose q t).1 (runs_too task_set R within one other earlier after places others first second are also t q ((which q t).0 is))

  here_too : (q t : ℕ) → task_on (state_held other held) q ≡ Some t → task_on (state_held one on) q ≡ Some t
  here_too q t is =
      (which q t).1 (runs_too task_set R within other one earlier after others places second first also are t q ((whose q t).0 is))

  same_at : (q : ℕ) → (o : Option ℕ) → task_on (state_held one on) q ≡ o → task_on (state_held other held) q ≡ o
  same_at q (Some t) is = there_too q t is
  same_at q None is = none (task_on (state_held other held) q) refl
    where
      none : (o : Option ℕ) → task_on (state_held other held) q ≡ o → task_on (state_held other held) q ≡ None
      none None e = e
      none (Some t) e = (let h : ◌≡◌ {A = Option ℕ} None (Some t) = sym is ∙ here_too q t e in cc)

  same_holders : on ≡ held
  same_holders =
      ext_get_or None on held
      (table.state.on_count ∙ first.tasks.processors ∙ sym second.tasks.processors ∙ sym more.state.on_count)
      (λ q below. sym (same_at q (get_or on q None) refl))

  same_table : state_held one on ≡ state_held other held
  same_table = same_held task_set R within one other first second on ∙ ap (state_held other) same_holders

  lost_too : (t : ℕ) → IsLost one (state_held one on) t → IsLost other (state_held other held) t
  lost_too t lost = record {
    linked = sym (same_linked task_set R within one other first second t) ∙ lost.linked;
    nowhere = subst (λ (s : State). is_linked s t ≡ false) same_table lost.nowhere;
  }

  one_chain : (t : ℕ) (steps rest : List ChainStep) → AreChainSteps one (state_held one on) t steps
      → AreChainSteps other (state_held other held) t rest → steps ≡ rest
  one_chain t steps rest along also =
      let least = subst (λ (s : State). IsLeastSuch (EndsIdle s t) along.0) same_table along.2 in
      let chain : along.0 ≡ also.0 = least_unique (EndsIdle (state_held other held) t) along.0 also.0 least also.2 in
      along.3 ∙ ap (λ (s : State). steps_of s (Some t) along.0) same_table
      ∙ ap (steps_of (state_held other held) (Some t)) chain ∙ sym also.3

-- at one moment
same_steps : (task_set : SetData) (threads : ℕ) (passages : List Passage) (x t : ℕ) (steps rest : List ChainStep) → IsTaskSet task_set
    → ArePassages (length task_set.tasks) threads passages → (one : IsChainAt task_set passages x t steps)
    → (other : IsChainAt task_set passages x t rest) → steps ≡ rest
same_steps task_set threads passages x t steps rest ok passing one other =
    let n = one.n in
    let same : other.n ≡ n = one_cut passages x other.n n other.cut one.cut in
    let earlier : List Passage = reverse (take n passages) in
    let after : List Passage = drop n passages in
    let count : task_count (start_of task_set) ≡ length task_set.tasks = length-map task_set.tasks (λ (task : TaskData). task.priority) in
    let within : (u : ℕ) → ready_after_passages earlier u ≡ true → u < task_count (start_of task_set) =
    (λ u ready. (let below = ready_within (length task_set.tasks) threads passages passing n u ready in omega (arith, below, count))) in
    let placed = subst (λ (k : ℕ). IsPlaced task_set (ready_after_passages (reverse (take k passages))) other.links) same other.placed in
    let are = subst (λ (k : ℕ). ArePlaces (reverse (take k passages)) (drop k passages) (length task_set.tasks) other.places)
    same other.are in
    let R = ready_after_passages earlier in
    elim one.along [
      | inl along ↦ elim other.along [
        | inl also ↦ one_chain task_set R within one.links other.links earlier after one.places other.places one.placed placed one.are are
            one.on other.on one.table other.table one.which other.which t steps rest along also
        | inr not ↦ absurd (not.0 (lost_too task_set R within one.links other.links earlier after one.places other.places one.placed placed
            one.are are one.on other.on one.table other.table one.which other.which t along.1))
      ]
      | inr not ↦ elim other.along [
        | inl also ↦ absurd (not.0 (lost_too task_set R within other.links one.links earlier after other.places one.places placed one.placed
            are one.are other.on one.on other.table one.table other.which one.which t also.1))
        | inr neither ↦ not.1 ∙ sym neither.1
      ]
    ]

pub chains_are_unique : ChainsAreUnique
chains_are_unique task_set threads passages x t steps other ok passing one also =
    same_steps task_set threads passages x t steps other ok passing one also
