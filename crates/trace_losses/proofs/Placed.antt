-- The links after the mentions of passages.
use Rattle.std.proofs.Common.{◌≡◌, ℕ, ◌<◌, ◌==◌, Bool, true, false, List, [], length, get_or, set, Option, Some, None, refl, sym, ap, ◌∙◌}
use Rattle.std.proofs.Common.{subst, inl, inr, arith, eq-eqb, ne_eqb, get_or-set_same, get_or-set_other}
use Rattle.std.specs.Prelude.{if◌then◌else◌}
use Rattle.std.proofs.lemmas.Bool.{cases_eq, true≢false}
use Rattle.std.proofs.lemmas.List.{set-get_or}
use Rattle.task_set.specs.TaskSet.{SetData, IsTaskSet}
use Rattle.task_set.specs.declared.event.Event.TheVariants.{Arrive, Depart}
use Rattle.strong_apa.specs.declared.reply.Came.{Came}
use Rattle.strong_apa.specs.declared.reply.Came.TheVariants.{Placed, Displaced, Waits}
use Rattle.strong_apa.specs.declared.reply.Reply.{Reply}
use Rattle.strong_apa.specs.State.{State, IsState, HasSameTasks, HasSameMasks, start_of, is_ready, state_after_leaving}
use Rattle.strong_apa.specs.History.{state_after_came, state_after_entering}
use Rattle.strong_apa.specs.Placement.{TaskTest}
use Rattle.strong_apa.specs.Step.{SchedulerStep, ArriveStep, DepartStep}
use Rattle.strong_apa.proofs.SameTasks.{same_tasks-then, same_tasks-step, reply_keeps_masks}
use Rattle.strong_apa.proofs.Start.{IsState-start, none_ready}
use Rattle.strong_apa.proofs.Steps.{reply_gives_new_state, comes_effect, fills_effect}
use Rattle.strong_apa.specs.CertificateLaws.{LinkedIsBest}
use Rattle.strong_apa.proofs.Best.{linked_is_best}
use Rattle.trace_losses.specs.Passages.{ready_by, ready_after_passages}
use Rattle.trace_losses.specs.Walk.{IsPlaced}
use Rattle.trace_passages.specs.declared.passage.Readiness.{Readiness}

-- ---- at first
pub placed_at_first : (task_set : SetData) → IsTaskSet task_set → IsPlaced task_set (ready_after_passages []) (start_of task_set)
placed_at_first task_set ok =
    let valid = IsState-start task_set ok in
    record {
      valid = valid;
      tasks = record { processors = refl; priorities = refl };
      masks = record { masks = refl; online = refl };
      ready = λ t. none_ready (length task_set.tasks) t;
      best =
          linked_is_best (start_of task_set) valid
          (λ w waits. absurd (true≢false (sym waits.ready ∙ none_ready (length task_set.tasks) w)));
    }

-- ---- who is ready after a step
came_ready : (s : State) (t : ℕ) (came : Came) → (state_after_came s t came).ready ≡ set s.ready t true
came_ready s t (Placed chain) = refl
came_ready s t (Displaced chain out reach) = refl
came_ready s t (Waits reach) = refl

entering_ready : (s : State) (entered : Option ℕ) (chain : List ℕ) → (state_after_entering s entered chain).ready ≡ s.ready
entering_ready s None chain = refl
entering_ready s (Some w) chain = refl

-- the flag that a task has already
flag_kept : (s new : State) (t : ℕ) (flag : Bool) → is_ready s t ≡ flag → new ≡ s → new.ready ≡ set s.ready t flag
flag_kept s new t flag has is =
    ap (λ (x : State). x.ready) is ∙ sym (ap (λ (b : Bool). set s.ready t b) (sym has) ∙ set-get_or s.ready t false)

arrived : (s : State) (t : ℕ) (reply : Reply) (new : State) → ArriveStep s t reply new → new.ready ≡ set s.ready t true
arrived s t reply new (inl again) = flag_kept s new t true again.ready again.same
arrived s t reply new (inr arrives) =
    ap (λ (x : State). x.ready) (comes_effect s t arrives.came new arrives.comes) ∙ came_ready s t arrives.came

departed : (s : State) (t : ℕ) (reply : Reply) (new : State) → DepartStep s t reply new → new.ready ≡ set s.ready t false
departed s t reply new (inl again) = flag_kept s new t false again.absent again.same
departed s t reply new (inr (inl waiting)) = ap (λ (x : State). x.ready) waiting.left
departed s t reply new (inr (inr linked)) =
    ap (λ (x : State). x.ready) (fills_effect (state_after_leaving s t) linked.place linked.gone new linked.fills)
    ∙ entering_ready (state_after_leaving s t) linked.gone.entered linked.gone.chain

flag_at : (flags : List Bool) (m t : ℕ) (flag : Bool) → m < length flags
    → get_or (set flags m flag) t false ≡ (if m == t then flag else get_or flags t false)
flag_at flags m t flag below = elim (cases_eq m t) [
  | inl same ↦
      ap (λ (n : ℕ). get_or (set flags m flag) n false) (sym same) ∙ get_or-set_same flags m flag false below
      ∙ sym (ap (λ (b : Bool). if b then flag else get_or flags t false) (eq-eqb m t same))
  | inr differs ↦
      get_or-set_other flags m t flag false (λ e. differs (sym e))
      ∙ sym (ap (λ (b : Bool). if b then flag else get_or flags t false) (ne_eqb m t differs))
]

-- ---- after a mention
-- what a step keeps, where it sets the flag of a task
module _ (task_set : SetData) (before : TaskTest) (old new : State) (placed : IsPlaced task_set before old) (m : ℕ) (flag : Bool) where
  then_placed : m < length old.ready → new.ready ≡ set old.ready m flag → HasSameTasks old new → HasSameMasks old new → IsState new
      → LinkedIsBest new → IsPlaced task_set (λ t. if m == t then flag else before t) new
  then_placed below is tasks masks valid best = record {
    valid = valid;
    tasks = same_tasks-then (start_of task_set) old new placed.tasks tasks;
    masks = record { masks = masks.masks ∙ placed.masks.masks; online = masks.online ∙ placed.masks.online };
    ready = λ t.
        ap (λ (flags : List Bool). get_or flags t false) is ∙ flag_at old.ready m t flag below
        ∙ ap (λ (b : Bool). if m == t then flag else b) (placed.ready t);
    best = best;
  }

pub placed_by : (mention : Readiness) (task_set : SetData) (before : TaskTest) (old : State) (reply : Reply) (new : State) (is_in : Bool)
    → mention.is_in ≡ is_in → SchedulerStep old (if is_in then Arrive mention.task else Depart mention.task) reply new → IsState new
    → LinkedIsBest new
    → IsPlaced task_set before old → IsPlaced task_set (λ t. ready_by (Some mention) t (before t)) new
placed_by mention task_set before old reply new true is step valid best placed =
    let t : ℕ = mention.task in
    let count = placed.valid.ready_count in
    let number = step.0 in
    subst (λ (flag : Bool). IsPlaced task_set (λ u. if t == u then flag else before u) new) (sym is)
    (then_placed task_set before old new placed t true (omega (arith, count, number)) (arrived old t reply new step.1)
    (same_tasks-step old (Arrive t) reply new step)
    (subst (HasSameMasks old) (sym (reply_gives_new_state old (Arrive t) reply new step)) (reply_keeps_masks old (Arrive t) reply tt))
    valid best)
placed_by mention task_set before old reply new false is step valid best placed =
    let t : ℕ = mention.task in
    let count = placed.valid.ready_count in
    let number = step.0 in
    subst (λ (flag : Bool). IsPlaced task_set (λ u. if t == u then flag else before u) new) (sym is)
    (then_placed task_set before old new placed t false (omega (arith, count, number)) (departed old t reply new step.1)
    (same_tasks-step old (Depart t) reply new step)
    (subst (HasSameMasks old) (sym (reply_gives_new_state old (Depart t) reply new step)) (reply_keeps_masks old (Depart t) reply tt))
    valid best)
