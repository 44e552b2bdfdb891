-- Who is ready after a step, with which mask, and which processors are on line: it follows from what was before, by the event alone.
use Rattle.std.proofs.Common.{◌≡◌, ℕ, ◌<◌, Bool, true, false, not, ◌==◌, List, length, set, Option, Some, None, if◌then◌else◌, refl, sym}
use Rattle.std.proofs.Common.{ap, ◌∙◌, subst, inl, inr, eq-eqb, ne_eqb, get_or, length-set, get_or-set_same, get_or-set_other}
use Rattle.std.proofs.Math.Bool.{and-true, or-false}
use Rattle.std.proofs.lemmas.Bool.{cases_eq, and_right, or_right}
use Rattle.affinity_mask.specs.ProcSet.{has, empty, with_member, without_member}
use Rattle.affinity_mask.proofs.Sets.{has-with_member, has-without_member}
use Rattle.task_set.specs.declared.event.Event.{Event}
use Rattle.task_set.specs.declared.event.Event.TheVariants.{Arrive, Depart, Tick, Affinity, Offline, Online}
use Rattle.strong_apa.specs.declared.reply.Came.{Came}
use Rattle.strong_apa.specs.declared.reply.Came.TheVariants.{Placed, Displaced, Waits}
use Rattle.strong_apa.specs.declared.reply.Gone.{Gone}
use Rattle.strong_apa.specs.declared.reply.Reply.{Reply}
use Rattle.strong_apa.specs.State.{State, IsState, is_ready, mask_of, task_count, state_with_mask, state_with_online, state_with_offline}
use Rattle.strong_apa.specs.State.{state_after_leaving}
use Rattle.strong_apa.specs.Step.{SchedulerStep, ArriveStep, DepartStep, LeaveStep, AffinityStep, OfflineStep, OnlineStep}
use Rattle.strong_apa.specs.History.{state_after_came, state_after_entering, state_after_left}
use Rattle.strong_apa.proofs.Linked.{linked_number}
use Rattle.strong_apa.proofs.Steps.{comes_effect, fills_effect, leave_effect}

-- ---- what an event makes of a task and of a processor
abbrev pub ready_then : ℕ → Bool → Event → Bool
ready_then t b (Arrive u) = if u == t then true else b
ready_then t b (Depart u) = if u == t then false else b
ready_then t b (Affinity u mask) = b
ready_then t b (Tick units) = b
ready_then t b (Offline p) = b
ready_then t b (Online p) = b

abbrev pub mask_then : ℕ → ℕ → Event → ℕ
mask_then t X (Affinity u mask) = if u == t then mask else X
mask_then t X (Arrive u) = X
mask_then t X (Depart u) = X
mask_then t X (Tick units) = X
mask_then t X (Offline p) = X
mask_then t X (Online p) = X

abbrev pub online_then : ℕ → Bool → Event → Bool
online_then p b (Offline q) = if q == p then false else b
online_then p b (Online q) = if q == p then true else b
online_then p b (Arrive t) = b
online_then p b (Depart t) = b
online_then p b (Affinity t mask) = b
online_then p b (Tick units) = b

pub record Does (s : State) (event : Event) (new : State) : Type 0 where
  pub ready : (t : ℕ) → is_ready new t ≡ ready_then t (is_ready s t) event
  pub mask : (t : ℕ) → mask_of new t ≡ mask_then t (mask_of s t) event
  pub online : (p : ℕ) → has new.online p ≡ online_then p (has s.online p) event

-- ---- the columns of a state after a task came or left
pub came_ready : (s : State) (t : ℕ) (came : Came) → (state_after_came s t came).ready ≡ set s.ready t true
came_ready s t (Placed chain) = refl
came_ready s t (Displaced chain out reach) = refl
came_ready s t (Waits reach) = refl

came_masks : (s : State) (t : ℕ) (came : Came) → (state_after_came s t came).masks ≡ s.masks
came_masks s t (Placed chain) = refl
came_masks s t (Displaced chain out reach) = refl
came_masks s t (Waits reach) = refl

came_online : (s : State) (t : ℕ) (came : Came) → (state_after_came s t came).online ≡ s.online
came_online s t (Placed chain) = refl
came_online s t (Displaced chain out reach) = refl
came_online s t (Waits reach) = refl

pub entering_ready : (s : State) (entered : Option ℕ) (chain : List ℕ) → (state_after_entering s entered chain).ready ≡ s.ready
entering_ready s None chain = refl
entering_ready s (Some w) chain = refl

entering_masks : (s : State) (entered : Option ℕ) (chain : List ℕ) → (state_after_entering s entered chain).masks ≡ s.masks
entering_masks s None chain = refl
entering_masks s (Some w) chain = refl

entering_online : (s : State) (entered : Option ℕ) (chain : List ℕ) → (state_after_entering s entered chain).online ≡ s.online
entering_online s None chain = refl
entering_online s (Some w) chain = refl

left_ready : (s : State) (t : ℕ) (gone : Option Gone) → (state_after_left s t gone).ready ≡ set s.ready t false
left_ready s t None = refl
left_ready s t (Some gone) = entering_ready (state_after_leaving s t) gone.entered gone.chain

left_masks : (s : State) (t : ℕ) (gone : Option Gone) → (state_after_left s t gone).masks ≡ s.masks
left_masks s t None = refl
left_masks s t (Some gone) = entering_masks (state_after_leaving s t) gone.entered gone.chain

left_online : (s : State) (t : ℕ) (gone : Option Gone) → (state_after_left s t gone).online ≡ s.online
left_online s t None = refl
left_online s t (Some gone) = entering_online (state_after_leaving s t) gone.entered gone.chain

-- ---- one flag is set, and the others stay
flag_set : (flags : List Bool) (u : ℕ) (flag : Bool) → u < length flags → (t : ℕ) → get_or (set flags u flag) t false
    ≡ (if u == t then flag else get_or flags t false)
flag_set flags u flag within t = elim (cases_eq u t) [
  | inl same ↦ rw (eq-eqb u t same) (subst (λ (x : ℕ). get_or (set flags u flag) x false ≡ flag) same
      (get_or-set_same flags u flag false within))
  | inr other ↦ rw (ne_eqb u t other) (get_or-set_other flags u t flag false (λ e. other (sym e)))
]

-- a flag that is there already
flag_there : (b flag : Bool) (u t : ℕ) → (u ≡ t → b ≡ flag) → b ≡ (if u == t then flag else b)
flag_there b flag u t same = elim (cases_eq u t) [
  | inl e ↦ rw (eq-eqb u t e) (same e)
  | inr other ↦ rw (ne_eqb u t other) refl
]

-- a flag that is taken away and set again
flag_again : (flags : List Bool) (u : ℕ) → u < length flags → get_or flags u false ≡ true → (t : ℕ)
    → get_or (set (set flags u false) u true) t false ≡ get_or flags t false
flag_again flags u within was t = elim (cases_eq u t) [
  | inl same ↦ subst (λ (x : ℕ). get_or (set (set flags u false) u true) x false ≡ get_or flags x false) same
      (get_or-set_same (set flags u false) u true false (rw length-set within) ∙ sym was)
  | inr other ↦ get_or-set_other (set flags u false) u t true false (λ e. other (sym e))
      ∙ get_or-set_other flags u t false false (λ e. other (sym e))
]

mask_set : (masks : List ℕ) (u mask : ℕ) → u < length masks → (t : ℕ) → get_or (set masks u mask) t empty
    ≡ (if u == t then mask else get_or masks t empty)
mask_set masks u mask within t = elim (cases_eq u t) [
  | inl same ↦ rw (eq-eqb u t same) (subst (λ (x : ℕ). get_or (set masks u mask) x empty ≡ mask) same
      (get_or-set_same masks u mask empty within))
  | inr other ↦ rw (ne_eqb u t other) (get_or-set_other masks u t mask empty (λ e. other (sym e)))
]

online_with : (X q p : ℕ) → has (with_member X q) p ≡ (if q == p then true else has X p)
online_with X q p = has-with_member X q p ∙ elim (cases_eq q p) [
  | inl same ↦ rw (eq-eqb q p same) (or_right (has X p) _ (eq-eqb p q (sym same)))
  | inr other ↦ rw (ne_eqb q p other, ne_eqb p q (λ e. other (sym e))) (or-false (has X p))
]

online_without : (X q p : ℕ) → has (without_member X q) p ≡ (if q == p then false else has X p)
online_without X q p = has-without_member X q p ∙ elim (cases_eq q p) [
  | inl same ↦ rw (eq-eqb q p same) (and_right (has X p) _ (ap not (eq-eqb p q (sym same))))
  | inr other ↦ rw (ne_eqb q p other, ne_eqb p q (λ e. other (sym e))) (and-true (has X p))
]

module _ (s : State) (ok : IsState s) where
  nothing_does : (event : Event) (new : State) → new ≡ s → ((t : ℕ) → is_ready s t ≡ ready_then t (is_ready s t) event)
      → ((t : ℕ) → mask_of s t ≡ mask_then t (mask_of s t) event)
      → ((p : ℕ) → has s.online p ≡ online_then p (has s.online p) event) → Does s event new
  nothing_does event new same ready mask online = subst (Does s event) (sym same) record { ready = ready; mask = mask; online = online }

  arrive_does : (u : ℕ) (reply : Reply) (new : State) → u < task_count s → ArriveStep s u reply new → Does s (Arrive u) new
  arrive_does u reply new number (inl again) = nothing_does (Arrive u) new again.same
      (λ t. flag_there (is_ready s t) true u t (λ e. ap (is_ready s) (sym e) ∙ again.ready)) (λ t. refl) (λ p. refl)
  arrive_does u reply new number (inr arrives) =
      let is = comes_effect s u arrives.came new arrives.comes in
      record {
        ready = λ t. ap (λ (x : State). is_ready x t) is ∙ ap (λ (l : List Bool). get_or l t false) (came_ready s u arrives.came)
            ∙ flag_set s.ready u true (rw ok.ready_count number) t;
        mask = λ t. ap (λ (x : State). mask_of x t) is ∙ ap (λ (l : List ℕ). get_or l t empty) (came_masks s u arrives.came);
        online = λ p. ap (λ (x : State). has x.online p) is ∙ ap (λ (X : ℕ). has X p) (came_online s u arrives.came);
      }

  depart_does : (u : ℕ) (reply : Reply) (new : State) → u < task_count s → DepartStep s u reply new → Does s (Depart u) new
  depart_does u reply new number (inl again) = nothing_does (Depart u) new again.same
      (λ t. flag_there (is_ready s t) false u t (λ e. ap (is_ready s) (sym e) ∙ again.absent)) (λ t. refl) (λ p. refl)
  depart_does u reply new number (inr (inl waiting)) = record {
    ready = λ t. ap (λ (x : State). is_ready x t) waiting.left ∙ flag_set s.ready u false (rw ok.ready_count number) t;
    mask = λ t. ap (λ (x : State). mask_of x t) waiting.left;
    online = λ p. ap (λ (x : State). has x.online p) waiting.left;
  }
  depart_does u reply new number (inr (inr linked)) =
      let is = fills_effect (state_after_leaving s u) linked.place linked.gone new linked.fills in
      record {
        ready = λ t. ap (λ (x : State). is_ready x t) is
            ∙ ap (λ (l : List Bool). get_or l t false) (entering_ready (state_after_leaving s u) linked.gone.entered linked.gone.chain)
            ∙ flag_set s.ready u false (rw ok.ready_count number) t;
        mask = λ t. ap (λ (x : State). mask_of x t) is
            ∙ ap (λ (l : List ℕ). get_or l t empty) (entering_masks (state_after_leaving s u) linked.gone.entered linked.gone.chain);
        online = λ p. ap (λ (x : State). has x.online p) is
            ∙ ap (λ (X : ℕ). has X p) (entering_online (state_after_leaving s u) linked.gone.entered linked.gone.chain);
      }

  affinity_does : (u mask : ℕ) (reply : Reply) (new : State) → u < task_count s → AffinityStep s u mask reply new
      → Does s (Affinity u mask) new
  affinity_does u mask reply new number (inl absent) = record {
    ready = λ t. ap (λ (x : State). is_ready x t) absent.masked;
    mask = λ t. ap (λ (x : State). mask_of x t) absent.masked ∙ mask_set s.masks u mask (rw ok.masks_count number) t;
    online = λ p. ap (λ (x : State). has x.online p) absent.masked;
  }
  affinity_does u mask reply new number (inr remasks) =
      let between = remasks.between in
      let gone = remasks.gone in
      let was = leave_effect s u gone between remasks.leaves in
      let is = comes_effect (state_with_mask between u mask) u remasks.came new remasks.comes in
      record {
        ready = λ t. ap (λ (x : State). is_ready x t) is
            ∙ ap (λ (l : List Bool). get_or l t false) (came_ready (state_with_mask between u mask) u remasks.came
            ∙ ap (λ (x : State). set x.ready u true) was ∙ ap (λ (l : List Bool). set l u true) (left_ready s u gone))
            ∙ flag_again s.ready u (rw ok.ready_count number) (was_ready gone between remasks.leaves) t;
        mask = λ t. ap (λ (x : State). mask_of x t) is
            ∙ ap (λ (l : List ℕ). get_or l t empty) (came_masks (state_with_mask between u mask) u remasks.came
            ∙ ap (λ (x : State). set x.masks u mask) was ∙ ap (λ (l : List ℕ). set l u mask) (left_masks s u gone))
            ∙ mask_set s.masks u mask (rw ok.masks_count number) t;
        online = λ p. ap (λ (x : State). has x.online p) is
            ∙ ap (λ (X : ℕ). has X p) (came_online (state_with_mask between u mask) u remasks.came ∙ ap (λ (x : State). x.online) was
            ∙ left_online s u gone);
      }
    where
      was_ready : (gone : Option Gone) (between : State) → LeaveStep s u gone between → is_ready s u ≡ true
      was_ready None between leaves = leaves.0.ready
      was_ready (Some gone) between leaves = ok.linked_ready leaves.0 u leaves.1

  offline_does : (q : ℕ) (reply : Reply) (new : State) → OfflineStep s q reply new → Does s (Offline q) new
  offline_does q reply new (inl again) = nothing_does (Offline q) new again.same (λ t. refl) (λ t. refl)
      (λ p. flag_there (has s.online p) false q p (λ e. ap (has s.online) (sym e) ∙ again.off))
  offline_does q reply new (inr (inl idle)) = record {
    ready = λ t. ap (λ (x : State). is_ready x t) idle.off;
    mask = λ t. ap (λ (x : State). mask_of x t) idle.off;
    online = λ p. ap (λ (x : State). has x.online p) idle.off ∙ online_without s.online q p;
  }
  offline_does q reply new (inr (inr occupied)) =
      let u = occupied.moved.task in
      let before = state_with_offline (state_after_leaving s u) q in
      let is = comes_effect before u occupied.moved.came new occupied.comes in
      record {
        ready = λ t. ap (λ (x : State). is_ready x t) is
            ∙ ap (λ (l : List Bool). get_or l t false) (came_ready before u occupied.moved.came)
            ∙ flag_again s.ready u (rw ok.ready_count (linked_number s q u ok occupied.occupied)) (ok.linked_ready q u occupied.occupied) t;
        mask = λ t. ap (λ (x : State). mask_of x t) is ∙ ap (λ (l : List ℕ). get_or l t empty) (came_masks before u occupied.moved.came);
        online = λ p. ap (λ (x : State). has x.online p) is ∙ ap (λ (X : ℕ). has X p) (came_online before u occupied.moved.came)
            ∙ online_without s.online q p;
      }

  online_does : (q : ℕ) (reply : Reply) (new : State) → OnlineStep s q reply new → Does s (Online q) new
  online_does q reply new (inl again) = nothing_does (Online q) new again.same (λ t. refl) (λ t. refl)
      (λ p. flag_there (has s.online p) true q p (λ e. ap (has s.online) (sym e) ∙ again.on))
  online_does q reply new (inr fills) =
      let is = fills_effect (state_with_online s q) q fills.parts new fills.fills in
      record {
        ready = λ t. ap (λ (x : State). is_ready x t) is
            ∙ ap (λ (l : List Bool). get_or l t false) (entering_ready (state_with_online s q) fills.parts.entered fills.parts.chain);
        mask = λ t. ap (λ (x : State). mask_of x t) is
            ∙ ap (λ (l : List ℕ). get_or l t empty) (entering_masks (state_with_online s q) fills.parts.entered fills.parts.chain);
        online = λ p. ap (λ (x : State). has x.online p) is
            ∙ ap (λ (X : ℕ). has X p) (entering_online (state_with_online s q) fills.parts.entered fills.parts.chain)
            ∙ online_with s.online q p;
      }

  pub step_does : (event : Event) (reply : Reply) (new : State) → SchedulerStep s event reply new → Does s event new
  step_does (Arrive u) reply new step = arrive_does u reply new step.0 step.1
  step_does (Depart u) reply new step = depart_does u reply new step.0 step.1
  step_does (Tick units) reply new step = nothing_does (Tick units) new step.1 (λ t. refl) (λ t. refl) (λ p. refl)
  step_does (Affinity u mask) reply new step = affinity_does u mask reply new step.0 step.2
  step_does (Offline q) reply new step = offline_does q reply new step.1
  step_does (Online q) reply new step = online_does q reply new step.1
