-- Each reply that passes leaves every waiting task with a certificate, and is justified by the state after it.
use Rattle.std.proofs.Common.{◌≡◌, ℕ, ◌<◌, Option, Some, None, sym, ap, ◌∙◌, subst, inl, inr}
use Rattle.std.proofs.lemmas.Option.{same_Some}
use Rattle.task_set.specs.TaskSet.{IsMask}
use Rattle.task_set.specs.declared.event.Event.TheVariants.{Arrive, Depart, Tick, Affinity, Offline, Online}
use Rattle.strong_apa.specs.declared.reply.Came.{Came}
use Rattle.strong_apa.specs.declared.reply.Gone.{Gone}
use Rattle.strong_apa.specs.declared.reply.Moved.{Moved}
use Rattle.strong_apa.specs.declared.reply.Reply.{Reply}
use Rattle.strong_apa.specs.declared.reply.Reply.TheVariants.{Remasked, Off, On}
use Rattle.strong_apa.specs.Reply.{came_of, gone_of}
use Rattle.strong_apa.proofs.Replies.{came_said, gone_said, one_came, one_gone}
use Rattle.strong_apa.specs.State.{State, IsState, task_count, task_on, state_with_mask, state_with_offline, state_after_leaving}
use Rattle.strong_apa.specs.History.{state_after_came, state_after_left, state_after_reply}
use Rattle.strong_apa.proofs.Linked.{linked_number}
use Rattle.strong_apa.proofs.Steps.{IsState-remasked, IsState-moved, absent_moved, effect_of_came}
use Rattle.strong_apa.specs.PassingLaws.{PassingKeepsCertificates, PassingHasJustification}
use Rattle.strong_apa.specs.Certified.{HasCertificates}
use Rattle.strong_apa.specs.Justification.{JustifiesCame, JustifiesLeft, LeavesNobody, HasJustification}
use Rattle.strong_apa.specs.Passing.{CamePasses, ArrivalPasses, DeparturePasses, LeavingPasses, AffinityPasses, OfflinePasses, OnlinePasses}
use Rattle.strong_apa.proofs.KeptByArrivals.{kept_by_came, came_justified}
use Rattle.strong_apa.proofs.KeptByChanges.{kept_by_mask, kept_by_offline, kept_by_online, online_justified}
use Rattle.strong_apa.proofs.KeptByDepartures.{kept_by_left, kept_by_gone, kept_without, gone_justified}
use Rattle.strong_apa.proofs.KeptStates.{left_by_passing}

-- ---- a ready task leaves and comes back
module _ (s : State) (ok : IsState s) (certificates : HasCertificates s) where
  kept_by_leaving : (t : ℕ) (gone : Option Gone) → t < task_count s → LeavingPasses s t gone → HasCertificates (state_after_left s t gone)
  kept_by_leaving t None number leaves = kept_by_left s ok certificates t number
  kept_by_leaving t (Some gone) number leaves = kept_by_gone s ok certificates t number leaves.0 leaves.1 gone leaves.2

  leaving_justified : (t : ℕ) (gone : Option Gone) → t < task_count s → LeavingPasses s t gone
      → JustifiesLeft (state_after_left s t gone) gone
  leaving_justified t None number leaves = tt
  leaving_justified t (Some gone) number leaves = gone_justified s ok certificates t number leaves.0 leaves.1 gone leaves.2

  module _ (t mask : ℕ) (number : t < task_count s) (lawful : IsMask s.processors mask) (gone : Option Gone)
      (leaves : LeavingPasses s t gone) (came : Came)
      (passes : CamePasses (state_with_mask (state_after_left s t gone) t mask) t came) where
    abbrev between : State
    between = state_after_left s t gone

    kept_by_return : HasCertificates (state_after_came (state_with_mask between t mask) t came)
    kept_by_return =
        let left = left_by_passing s ok t mask gone number lawful leaves in
        kept_by_came (state_with_mask between t mask) (IsState-remasked s t mask between left)
        (kept_by_mask between left.state (kept_by_leaving t gone number leaves) t mask left.absent) t left.number left.absent came passes

    return_justified : JustifiesCame (state_after_came (state_with_mask between t mask) t came) t came
    return_justified =
        let left = left_by_passing s ok t mask gone number lawful leaves in
        came_justified (state_with_mask between t mask) (IsState-remasked s t mask between left)
        (kept_by_mask between left.state (kept_by_leaving t gone number leaves) t mask left.absent) t left.number left.absent came passes

  module _ (p t : ℕ) (on : task_on s p ≡ Some t) (came : Came)
      (passes : CamePasses (state_with_offline (state_after_leaving s t) p) t came) where
    abbrev off : State
    off = state_with_offline (state_after_leaving s t) p

    kept_by_moved : HasCertificates (state_after_came off t came)
    kept_by_moved =
        let number = linked_number s p t ok on in
        kept_by_came off (IsState-moved s ok p t on) (kept_without s ok certificates t number p on) t number (absent_moved s ok p t on)
        came passes

    moved_justified : JustifiesCame (state_after_came off t came) t came
    moved_justified =
        let number = linked_number s p t ok on in
        came_justified off (IsState-moved s ok p t on) (kept_without s ok certificates t number p on) t number (absent_moved s ok p t on)
        came passes

-- ---- each waiting task keeps a certificate
module _ (s : State) (ok : IsState s) (certificates : HasCertificates s) (reply : Reply) where
  arrival_keeps : (t : ℕ) → t < task_count s → ArrivalPasses s t reply → HasCertificates (state_after_reply s (Arrive t) reply)
  arrival_keeps t number (inl again) = subst (λ (r : Reply). HasCertificates (state_after_reply s (Arrive t) r)) (sym again.1) certificates
  arrival_keeps t number (inr new) =
      subst (λ (r : Reply). HasCertificates (state_after_reply s (Arrive t) r)) (sym new.answer)
      (subst HasCertificates (sym (effect_of_came s t new.came)) (kept_by_came s ok certificates t number new.absent new.came new.passes))

  departure_keeps : (t : ℕ) → t < task_count s → DeparturePasses s t reply → HasCertificates (state_after_reply s (Depart t) reply)
  departure_keeps t number (inl again) =
      subst (λ (r : Reply). HasCertificates (state_after_reply s (Depart t) r)) (sym again.1) certificates
  departure_keeps t number (inr (inl waiting)) =
      subst (λ (r : Reply). HasCertificates (state_after_reply s (Depart t) r)) (sym waiting.1) (kept_by_left s ok certificates t number)
  departure_keeps t number (inr (inr linked)) =
      subst (λ (r : Reply). HasCertificates (state_after_reply s (Depart t) r)) (sym linked.answer)
      (kept_by_gone s ok certificates t number linked.place linked.linked linked.gone linked.passes)

  affinity_keeps : (t mask : ℕ) → t < task_count s → IsMask s.processors mask → AffinityPasses s t mask reply
      → HasCertificates (state_after_reply s (Affinity t mask) reply)
  affinity_keeps t mask number lawful (inl masked) = subst (λ (r : Reply). HasCertificates (state_after_reply s (Affinity t mask) r))
      (sym masked.1) (kept_by_mask s ok certificates t mask masked.0)
  affinity_keeps t mask number lawful (inr returns) =
      subst (λ (r : Reply). HasCertificates (state_after_reply s (Affinity t mask) r)) (sym returns.answer)
      (kept_by_return s ok certificates t mask number lawful returns.gone returns.leaves returns.came returns.passes)

  offline_keeps : (p : ℕ) → OfflinePasses s p reply → HasCertificates (state_after_reply s (Offline p) reply)
  offline_keeps p (inl again) = subst (λ (r : Reply). HasCertificates (state_after_reply s (Offline p) r)) (sym again.1) certificates
  offline_keeps p (inr (inl idle)) =
      subst (λ (r : Reply). HasCertificates (state_after_reply s (Offline p) r)) (sym idle.1) (kept_by_offline s certificates p)
  offline_keeps p (inr (inr there)) =
      subst (λ (r : Reply). HasCertificates (state_after_reply s (Offline p) r)) (sym there.answer)
      (kept_by_moved s ok certificates p there.moved.task there.occupied there.moved.came there.passes)

  online_keeps : (p : ℕ) → p < s.processors → OnlinePasses s p reply → HasCertificates (state_after_reply s (Online p) reply)
  online_keeps p number (inl again) = subst (λ (r : Reply). HasCertificates (state_after_reply s (Online p) r)) (sym again.1) certificates
  online_keeps p number (inr filled) =
      subst (λ (r : Reply). HasCertificates (state_after_reply s (Online p) r)) (sym filled.answer)
      (kept_by_online s ok p number filled.off filled.parts filled.passes certificates)

pub passing_keeps_certificates : PassingKeepsCertificates
passing_keeps_certificates s (Arrive t) reply ok certificates passes = arrival_keeps s ok certificates reply t passes.0 passes.1
passing_keeps_certificates s (Depart t) reply ok certificates passes = departure_keeps s ok certificates reply t passes.0 passes.1
passing_keeps_certificates s (Tick units) reply ok certificates passes = certificates
passing_keeps_certificates s (Affinity t mask) reply ok certificates passes =
    affinity_keeps s ok certificates reply t mask passes.0 passes.1 passes.2
passing_keeps_certificates s (Offline p) reply ok certificates passes = offline_keeps s ok certificates reply p passes.1
passing_keeps_certificates s (Online p) reply ok certificates passes = online_keeps s ok certificates reply p passes.0 passes.1

-- ---- a reply is justified
-- the parts that a reply has, where it is of the kind
abbrev remasked_gone : Reply → Option (Option Gone)
remasked_gone (Remasked gone _) = Some gone
remasked_gone _ = None

abbrev remasked_came : Reply → Option Came
remasked_came (Remasked _ came) = Some came
remasked_came _ = None

abbrev moved_off : Reply → Option Moved
moved_off (Off moved) = moved
moved_off _ = None

abbrev parts_on : Reply → Option Gone
parts_on (On parts) = Some parts
parts_on _ = None

module _ (s : State) (ok : IsState s) (certificates : HasCertificates s) (reply : Reply) where
  -- a reply that says what an arrival came to is not one to a task that was ready
  arrival_justified : (t : ℕ) → t < task_count s → ArrivalPasses s t reply
      → HasJustification s (state_after_reply s (Arrive t) reply) (Arrive t) reply
  arrival_justified t number (inl again) came says = absurd (let said = came_said reply came says in let other = ap came_of again.1 in cc)
  arrival_justified t number (inr new) came says =
      let same : new.came ≡ came = one_came new.came came (sym new.answer ∙ says) in
      subst (λ (c : Came). JustifiesCame (state_after_reply s (Arrive t) reply) t c) same
      (subst (λ (x : State). JustifiesCame x t new.came)
      (sym (ap (state_after_reply s (Arrive t)) new.answer ∙ effect_of_came s t new.came))
      (came_justified s ok certificates t number new.absent new.came new.passes))

  departure_justified : (t : ℕ) → t < task_count s → DeparturePasses s t reply
      → HasJustification s (state_after_reply s (Depart t) reply) (Depart t) reply
  departure_justified t number (inl again) gone says = absurd (let said = gone_said reply gone says in let other = ap gone_of again.1 in cc)
  departure_justified t number (inr (inl waiting)) gone says =
      absurd (let said = gone_said reply gone says in let other = ap gone_of waiting.1 in cc)
  departure_justified t number (inr (inr linked)) gone says =
      let same : linked.gone ≡ gone = one_gone linked.gone gone (sym linked.answer ∙ says) in
      subst (λ (g : Gone). LeavesNobody (state_after_reply s (Depart t) reply) g.entered g.back) same
      (subst (λ (x : State). LeavesNobody x linked.gone.entered linked.gone.back) (sym (ap (state_after_reply s (Depart t)) linked.answer))
      (gone_justified s ok certificates t number linked.place linked.linked linked.gone linked.passes))

  affinity_justified : (t mask : ℕ) → t < task_count s → IsMask s.processors mask → AffinityPasses s t mask reply
      → HasJustification s (state_after_reply s (Affinity t mask) reply) (Affinity t mask) reply
  affinity_justified t mask number lawful (inl masked) left came says =
      absurd (let said = ap remasked_came says in let other = ap remasked_came masked.1 in cc)
  affinity_justified t mask number lawful (inr returns) left came says =
      let same_gone : returns.gone ≡ left = same_Some returns.gone left (ap remasked_gone (sym returns.answer ∙ says)) in
      let same_came : returns.came ≡ came = same_Some returns.came came (ap remasked_came (sym returns.answer ∙ says)) in (
        subst (λ (g : Option Gone). JustifiesLeft (state_after_left s t g) g) same_gone
            (leaving_justified s ok certificates t returns.gone number returns.leaves),
        subst (λ (c : Came). JustifiesCame (state_after_reply s (Affinity t mask) reply) t c) same_came
            (subst (λ (x : State). JustifiesCame x t returns.came) (sym (ap (state_after_reply s (Affinity t mask)) returns.answer))
            (return_justified s ok certificates t mask number lawful returns.gone returns.leaves returns.came returns.passes)),
      )

  offline_justified : (p : ℕ) → OfflinePasses s p reply → HasJustification s (state_after_reply s (Offline p) reply) (Offline p) reply
  offline_justified p (inl again) moved says = absurd (let said = ap moved_off says in let other = ap moved_off again.1 in cc)
  offline_justified p (inr (inl idle)) moved says = absurd (let said = ap moved_off says in let other = ap moved_off idle.1 in cc)
  offline_justified p (inr (inr there)) moved says =
      let same : there.moved ≡ moved = same_Some there.moved moved (ap moved_off (sym there.answer ∙ says)) in
      subst (λ (m : Moved). JustifiesCame (state_after_reply s (Offline p) reply) m.task m.came) same
      (subst (λ (x : State). JustifiesCame x there.moved.task there.moved.came) (sym (ap (state_after_reply s (Offline p)) there.answer))
      (moved_justified s ok certificates p there.moved.task there.occupied there.moved.came there.passes))

  online_has_justification : (p : ℕ) → p < s.processors → OnlinePasses s p reply
      → HasJustification s (state_after_reply s (Online p) reply) (Online p) reply
  online_has_justification p number (inl again) parts says = absurd (let said = ap parts_on says in let other = ap parts_on again.1 in cc)
  online_has_justification p number (inr filled) parts says =
      let same : filled.parts ≡ parts = same_Some filled.parts parts (ap parts_on (sym filled.answer ∙ says)) in
      subst (λ (g : Gone). LeavesNobody (state_after_reply s (Online p) reply) g.entered g.back) same
      (subst (λ (x : State). LeavesNobody x filled.parts.entered filled.parts.back)
      (sym (ap (state_after_reply s (Online p)) filled.answer)) (online_justified s ok p number filled.off filled.parts filled.passes))

pub passing_has_justification : PassingHasJustification
passing_has_justification s (Arrive t) reply ok certificates passes = arrival_justified s ok certificates reply t passes.0 passes.1
passing_has_justification s (Depart t) reply ok certificates passes = departure_justified s ok certificates reply t passes.0 passes.1
passing_has_justification s (Tick units) reply ok certificates passes = tt
passing_has_justification s (Affinity t mask) reply ok certificates passes =
    affinity_justified s ok certificates reply t mask passes.0 passes.1 passes.2
passing_has_justification s (Offline p) reply ok certificates passes = offline_justified s ok certificates reply p passes.1
passing_has_justification s (Online p) reply ok certificates passes = online_has_justification s ok certificates reply p passes.0 passes.1
