-- Of the reply to a change of a mask, or of the processors on line: no part fails where it passes, and one part fails first.
use Rattle.std.proofs.Common.{◌≡◌, ℕ, ◌<◌, true, Option, Some, None, refl, sym, ◌∙◌, subst, inl, inr}
use Rattle.std.proofs.lemmas.Bool.{true≢false}
use Rattle.task_set.specs.TaskSet.{IsMask}
use Rattle.task_set.specs.declared.event.Event.TheVariants.{Affinity, Offline, Online}
use Rattle.strong_apa.specs.declared.reply.Came.{Came}
use Rattle.strong_apa.specs.declared.reply.Gone.{Gone}
use Rattle.strong_apa.specs.declared.reply.Moved.{Moved}
use Rattle.strong_apa.specs.declared.reply.Reply.{Reply}
use Rattle.strong_apa.specs.declared.reply.Reply.TheVariants.{Remasked, Off, On}
use Rattle.strong_apa.specs.State.{State, IsState, is_ready, task_count, state_with_mask, state_with_online, state_with_offline}
use Rattle.strong_apa.specs.State.{state_after_leaving}
use Rattle.strong_apa.specs.History.{state_after_left}
use Rattle.strong_apa.proofs.Changes.{IsState-state_with_online}
use Rattle.strong_apa.proofs.Leaving.{IsState-state_after_leaving}
use Rattle.strong_apa.proofs.Linked.{is_linked-from_on, occupied_number}
use Rattle.strong_apa.proofs.Steps.{IsState-moved, IsState-remasked}
use Rattle.strong_apa.specs.Passing.{CamePasses, LeavingPasses, AffinityPasses, OfflinePasses, OnlinePasses}
use Rattle.strong_apa.proofs.KeptStates.{left_by_passing}
use Rattle.reach_certificate.specs.Defect.{GoneIsRight, IsGoneDefect, IsVacatedDefect, LeavesRightly, IsLeavingDefect, IsReturnDefect}
use Rattle.reach_certificate.specs.Defect.{IsMovedDefect, IsAllowedToAffinity, IsPartDefect}
use Rattle.reach_certificate.specs.declared.defect.Defect.{Defect}
use Rattle.reach_certificate.proofs.Fitting.{came_right, gone_right}
use Rattle.reach_certificate.proofs.PartDefects.{is_distinct, came_right_or_not, came_defect_unique, gone_right_or_not, gone_defect_unique}

-- ---- a reply says one thing
remasked_gone : (g h : Option Gone) (c d : Came) → Remasked g c ≡ Remasked h d → g ≡ h
remasked_gone g h c d e = cc

remasked_came : (g h : Option Gone) (c d : Came) → Remasked g c ≡ Remasked h d → c ≡ d
remasked_came g h c d e = cc

off_moved : (m n : Moved) → Off (Some m) ≡ Off (Some n) → m ≡ n
off_moved m n e = cc

on_parts : (g h : Gone) → On g ≡ On h → g ≡ h
on_parts g h e = cc

-- ---- a task leaves
module _ (s : State) (ok : IsState s) (t : ℕ) where
  abbrev left : State
  left = state_after_leaving s t

  left_ok : IsState left
  left_ok = IsState-state_after_leaving s ok t

  pub vacated_right : (gone : Gone) → LeavingPasses s t (Some gone) → LeavesRightly s t (Some gone)
  vacated_right gone passes =
      (passes.0, passes.1, gone_right left left_ok passes.0 (occupied_number s passes.0 t ok passes.1) gone passes.2)

  pub vacated_right_or_not : (gone : Gone) (defect : Defect) → LeavesRightly s t (Some gone) → IsVacatedDefect s t gone defect → ⊥
  vacated_right_or_not gone defect right bad =
      gone_right_or_not left (is_distinct left left_ok) right.0 gone defect right.2
      (subst (λ (p : ℕ). IsGoneDefect left p gone defect) (ok.once bad.0 right.0 t bad.1 right.1) bad.2)

  pub vacated_unique : (gone : Gone) (one other : Defect) → IsVacatedDefect s t gone one → IsVacatedDefect s t gone other → one ≡ other
  vacated_unique gone one other bad worse =
      gone_defect_unique left (is_distinct left left_ok) worse.0 gone one other
      (subst (λ (p : ℕ). IsGoneDefect left p gone one) (ok.once bad.0 worse.0 t bad.1 worse.1) bad.2) worse.2

  pub leaving_right : (gone : Option Gone) → LeavingPasses s t gone → LeavesRightly s t gone
  leaving_right None passes = passes
  leaving_right (Some gone) passes = vacated_right gone passes

  leaving_right_or_not : (gone : Option Gone) (defect : Defect) → LeavesRightly s t gone → IsLeavingDefect s t gone defect → ⊥
  leaving_right_or_not None defect right bad = bad
  leaving_right_or_not (Some gone) defect right bad = vacated_right_or_not gone defect right bad

  leaving_unique : (gone : Option Gone) (one other : Defect) → IsLeavingDefect s t gone one → IsLeavingDefect s t gone other → one ≡ other
  leaving_unique None one other bad worse = absurd bad
  leaving_unique (Some gone) one other bad worse = vacated_unique gone one other bad worse

  -- whoever leaves was ready
  right_ready : (gone : Option Gone) → LeavesRightly s t gone → is_ready s t ≡ true
  right_ready None right = right.ready
  right_ready (Some gone) right = ok.linked_ready right.0 t right.1

  leaving_ready : (gone : Option Gone) (defect : Defect) → IsLeavingDefect s t gone defect → is_ready s t ≡ true
  leaving_ready None defect bad = absurd bad
  leaving_ready (Some gone) defect bad = ok.linked_ready bad.0 t bad.1

  return_ready : (mask : ℕ) (gone : Option Gone) (came : Came) (defect : Defect) → IsReturnDefect s t mask gone came defect
      → is_ready s t ≡ true
  return_ready mask gone came defect (inl bad) = leaving_ready gone defect bad
  return_ready mask gone came defect (inr bad) = right_ready gone bad.0

  -- what a reply may say of it
  right_allowed : (gone : Option Gone) (came : Came) → LeavesRightly s t gone → IsAllowedToAffinity s t (Remasked gone came)
  right_allowed None came right = inr (inl (right, (came, refl)))
  right_allowed (Some gone) came right = inr (inr (is_linked-from_on s right.0 t right.1, (gone, came, refl)))

  leaving_allowed : (gone : Option Gone) (came : Came) (defect : Defect) → IsLeavingDefect s t gone defect
      → IsAllowedToAffinity s t (Remasked gone came)
  leaving_allowed None came defect bad = absurd bad
  leaving_allowed (Some gone) came defect bad = inr (inr (is_linked-from_on s bad.0 t bad.1, (gone, came, refl)))

  return_allowed : (mask : ℕ) (gone : Option Gone) (came : Came) (defect : Defect) → IsReturnDefect s t mask gone came defect
      → IsAllowedToAffinity s t (Remasked gone came)
  return_allowed mask gone came defect (inl bad) = leaving_allowed gone came defect bad
  return_allowed mask gone came defect (inr bad) = right_allowed gone came bad.0

  return_unique : (mask : ℕ) (gone : Option Gone) (came : Came) (one other : Defect) → IsReturnDefect s t mask gone came one
      → IsReturnDefect s t mask gone came other → one ≡ other
  return_unique mask gone came one other (inl bad) (inl worse) = leaving_unique gone one other bad worse
  return_unique mask gone came one other (inl bad) (inr worse) = absurd (leaving_right_or_not gone one worse.0 bad)
  return_unique mask gone came one other (inr bad) (inl worse) = absurd (leaving_right_or_not gone other bad.0 worse)
  return_unique mask gone came one other (inr bad) (inr worse) =
      came_defect_unique (state_with_mask (state_after_left s t gone) t mask) t came one other bad.1 worse.1

  -- where both parts pass, none fails
  return_right_or_not : (mask : ℕ) → t < task_count s → IsMask s.processors mask → (gone : Option Gone) (came : Came) (defect : Defect)
      → LeavingPasses s t gone → CamePasses (state_with_mask (state_after_left s t gone) t mask) t came
      → IsReturnDefect s t mask gone came defect → ⊥
  return_right_or_not mask number lawful gone came defect leaves comes (inl bad) =
      leaving_right_or_not gone defect (leaving_right gone leaves) bad
  return_right_or_not mask number lawful gone came defect leaves comes (inr bad) =
      let back = state_with_mask (state_after_left s t gone) t mask in
      let back_ok = IsState-remasked s t mask (state_after_left s t gone) (left_by_passing s ok t mask gone number lawful leaves) in
      came_right_or_not back t came defect (came_right back back_ok t came comes) bad.1

-- ---- a mask changes
pub affinity_part : (s : State) → IsState s → (t mask : ℕ) → t < task_count s → IsMask s.processors mask → (reply : Reply) (defect : Defect)
    → AffinityPasses s t mask reply → IsPartDefect s (Affinity t mask) reply defect → ⊥
affinity_part s ok t mask number lawful reply defect (inl absent) part =
    true≢false (sym (return_ready s ok t mask part.0 part.1 defect part.3) ∙ absent.0)
affinity_part s ok t mask number lawful reply defect (inr returns) part =
    let e = sym returns.answer ∙ part.2 in
    let gone = remasked_gone returns.gone part.0 returns.came part.1 e in
    let came = remasked_came returns.gone part.0 returns.came part.1 e in
    return_right_or_not s ok t mask number lawful part.0 part.1 defect
    (subst (LeavingPasses s t) gone returns.leaves)
    (subst (λ (c : Came). CamePasses (state_with_mask (state_after_left s t part.0) t mask) t c) came
    (subst (λ (g : Option Gone). CamePasses (state_with_mask (state_after_left s t g) t mask) t returns.came) gone returns.passes))
    part.3

pub affinity_allowed : (s : State) → IsState s → (t mask : ℕ) (reply : Reply) (defect : Defect)
    → IsPartDefect s (Affinity t mask) reply defect → IsAllowedToAffinity s t reply
affinity_allowed s ok t mask reply defect part = rw part.2 (return_allowed s ok t mask part.0 part.1 defect part.3)

pub passing_affinity_allowed : (s : State) → IsState s → (t mask : ℕ) (reply : Reply) → AffinityPasses s t mask reply
    → IsAllowedToAffinity s t reply
passing_affinity_allowed s ok t mask reply (inl absent) = inl absent
passing_affinity_allowed s ok t mask reply (inr returns) =
    rw returns.answer (right_allowed s ok t returns.gone returns.came (leaving_right s ok t returns.gone returns.leaves))

pub affinity_unique : (s : State) → IsState s → (t mask : ℕ) (reply : Reply) (one other : Defect)
    → IsPartDefect s (Affinity t mask) reply one → IsPartDefect s (Affinity t mask) reply other → one ≡ other
affinity_unique s ok t mask reply one other part again =
    let e = sym part.2 ∙ again.2 in
    let gone = remasked_gone part.0 again.0 part.1 again.1 e in
    let came = remasked_came part.0 again.0 part.1 again.1 e in
    return_unique s ok t mask again.0 again.1 one other
    (subst (λ (c : Came). IsReturnDefect s t mask again.0 c one) came
    (subst (λ (g : Option Gone). IsReturnDefect s t mask g part.1 one) gone part.3))
    again.3

-- ---- a processor goes off line
pub moved_right_or_not : (s : State) → IsState s → (p : ℕ) (moved : Moved) (defect : Defect)
    → CamePasses (state_with_offline (state_after_leaving s moved.task) p) moved.task moved.came → IsMovedDefect s p moved defect → ⊥
moved_right_or_not s ok p moved defect passes bad =
    let away = state_with_offline (state_after_leaving s moved.task) p in
    came_right_or_not away moved.task moved.came defect
    (came_right away (IsState-moved s ok p moved.task bad.0) moved.task moved.came passes) bad.1

pub offline_part : (s : State) → IsState s → (p : ℕ) (reply : Reply) (defect : Defect) → OfflinePasses s p reply
    → IsPartDefect s (Offline p) reply defect → ⊥
offline_part s ok p reply defect (inl off) part = let e = sym off.1 ∙ part.1 in cc
offline_part s ok p reply defect (inr (inl idle)) part = let e = sym idle.1 ∙ part.1 in cc
offline_part s ok p reply defect (inr (inr there)) part =
    let same = off_moved there.moved part.0 (sym there.answer ∙ part.1) in
    moved_right_or_not s ok p part.0 defect (subst
    (λ (m : Moved). CamePasses (state_with_offline (state_after_leaving s m.task) p) m.task m.came) same there.passes) part.2

pub offline_unique : (s : State) (p : ℕ) (reply : Reply) (one other : Defect) → IsPartDefect s (Offline p) reply one
    → IsPartDefect s (Offline p) reply other → one ≡ other
offline_unique s p reply one other part again =
    let same = off_moved part.0 again.0 (sym part.1 ∙ again.1) in
    let bad = subst (λ (m : Moved). IsMovedDefect s p m one) same part.2 in
    came_defect_unique (state_with_offline (state_after_leaving s again.0.task) p) again.0.task again.0.came one other bad.1 again.2.1

-- ---- a processor comes on line
pub online_part : (s : State) → IsState s → (p : ℕ) → p < s.processors → (reply : Reply) (defect : Defect) → OnlinePasses s p reply
    → IsPartDefect s (Online p) reply defect → ⊥
online_part s ok p number reply defect (inl on) part = true≢false (sym on.0 ∙ part.2)
online_part s ok p number reply defect (inr fills) part =
    let same = on_parts fills.parts part.0 (sym fills.answer ∙ part.1) in
    let back = state_with_online s p in
    let back_ok = IsState-state_with_online s p ok number in
    gone_right_or_not back (is_distinct back back_ok) p part.0 defect
    (subst (GoneIsRight back p) same (gone_right back back_ok p number fills.parts fills.passes)) part.3

pub online_unique : (s : State) → IsState s → (p : ℕ) (reply : Reply) (one other : Defect) → IsPartDefect s (Online p) reply one
    → IsPartDefect s (Online p) reply other → one ≡ other
online_unique s ok p reply one other part again =
    let same = on_parts part.0 again.0 (sym part.1 ∙ again.1) in
    let back = state_with_online s p in
    gone_defect_unique back (is_distinct s ok) p again.0 one other (subst (λ (g : Gone). IsGoneDefect back p g one) same part.3) again.3
