-- A reply that passes has no defect, and a reply has one defect at most.
use Rattle.std.proofs.Common.{◌≡◌, ℕ, Some, sym, ◌∙◌, subst, inl, inr}
use Rattle.std.proofs.lemmas.Bool.{true≢false}
use Rattle.task_set.specs.declared.event.Event.{Event}
use Rattle.task_set.specs.declared.event.Event.TheVariants.{Arrive, Depart, Tick, Affinity, Offline, Online}
use Rattle.strong_apa.specs.declared.reply.Came.{Came}
use Rattle.strong_apa.specs.declared.reply.Gone.{Gone}
use Rattle.strong_apa.specs.declared.reply.Reply.{Reply}
use Rattle.strong_apa.proofs.Replies.{one_came, one_gone}
use Rattle.strong_apa.specs.State.{State, IsState}
use Rattle.strong_apa.proofs.Linked.{is_linked-from_on, not_on}
use Rattle.strong_apa.specs.Passing.{ArrivalPasses, DeparturePasses, Passes}
use Rattle.reach_certificate.specs.Defect.{CameIsRight, IsCameDefect, LeavesRightly, IsVacatedDefect, IsAllowed, IsPartDefect}
use Rattle.reach_certificate.specs.DefectLaws.{PassingHasNoDefect, DefectIsUnique}
use Rattle.reach_certificate.specs.declared.defect.Defect.{Defect}
use Rattle.reach_certificate.proofs.ChangeDefects.{vacated_right, vacated_right_or_not, vacated_unique, affinity_part, affinity_allowed}
use Rattle.reach_certificate.proofs.ChangeDefects.{passing_affinity_allowed, affinity_unique, offline_part, offline_unique, online_part}
use Rattle.reach_certificate.proofs.ChangeDefects.{online_unique}
use Rattle.reach_certificate.proofs.Fitting.{came_right}
use Rattle.reach_certificate.proofs.PartDefects.{came_right_or_not, came_defect_unique}

-- a reply that passes is of an allowed kind
passing_is_allowed : (s : State) (event : Event) (reply : Reply) → IsState s → Passes s event reply → IsAllowed s event reply
passing_is_allowed s (Arrive t) reply ok (number, inl again) = inl again
passing_is_allowed s (Arrive t) reply ok (number, inr new) = inr (new.absent, (new.came, new.answer))
passing_is_allowed s (Depart t) reply ok (number, inl again) = inl again
passing_is_allowed s (Depart t) reply ok (number, inr (inl waiting)) = inr (inl waiting)
passing_is_allowed s (Depart t) reply ok (number, inr (inr linked)) =
    inr (inr (is_linked-from_on s linked.place t linked.linked, (linked.gone, linked.answer)))
passing_is_allowed s (Tick units) reply ok passes = passes
passing_is_allowed s (Affinity t mask) reply ok passes = passing_affinity_allowed s ok t mask reply passes.2
passing_is_allowed s (Offline p) reply ok (number, inl off) = inl off
passing_is_allowed s (Offline p) reply ok (number, inr (inl idle)) = inr (inl idle)
passing_is_allowed s (Offline p) reply ok (number, inr (inr there)) = inr (inr (there.moved, there.answer, there.occupied))
passing_is_allowed s (Online p) reply ok (number, inl on) = inl on
passing_is_allowed s (Online p) reply ok (number, inr fills) = inr (fills.off, (fills.parts, fills.answer))

-- and so is one of which a part fails
part_is_allowed : (s : State) (event : Event) (reply : Reply) (defect : Defect) → IsState s → IsPartDefect s event reply defect
    → IsAllowed s event reply
part_is_allowed s (Arrive t) reply defect ok part = inr (part.2, (part.0, part.1))
part_is_allowed s (Depart t) reply defect ok part = inr (inr (is_linked-from_on s part.2.0 t part.2.1, (part.0, part.1)))
part_is_allowed s (Tick units) reply defect ok part = absurd part
part_is_allowed s (Affinity t mask) reply defect ok part = affinity_allowed s ok t mask reply defect part
part_is_allowed s (Offline p) reply defect ok part = inr (inr (part.0, part.1, part.2.0))
part_is_allowed s (Online p) reply defect ok part = inr (part.2, (part.0, part.1))

-- no part fails of a reply that passes
arrival_part : (s : State) (t : ℕ) (reply : Reply) (defect : Defect) → IsState s → ArrivalPasses s t reply
    → IsPartDefect s (Arrive t) reply defect → ⊥
arrival_part s t reply defect ok (inl again) part = true≢false (sym again.0 ∙ part.2)
arrival_part s t reply defect ok (inr new) part =
    let same : new.came ≡ part.0 = one_came new.came part.0 (sym new.answer ∙ part.1) in
    came_right_or_not s t part.0 defect (subst (CameIsRight s t) same (came_right s ok t new.came new.passes)) part.3

departure_part : (s : State) (t : ℕ) (reply : Reply) (defect : Defect) → IsState s → DeparturePasses s t reply
    → IsPartDefect s (Depart t) reply defect → ⊥
departure_part s t reply defect ok (inl again) part = true≢false (sym (ok.linked_ready part.2.0 t part.2.1) ∙ again.0)
departure_part s t reply defect ok (inr (inl waiting)) part = not_on s part.2.0 t waiting.0.not_linked part.2.1
departure_part s t reply defect ok (inr (inr linked)) part =
    let same : linked.gone ≡ part.0 = one_gone linked.gone part.0 (sym linked.answer ∙ part.1) in
    vacated_right_or_not s ok t part.0 defect
    (subst (λ (g : Gone). LeavesRightly s t (Some g)) same
    (vacated_right s ok t linked.gone (linked.place, linked.linked, linked.passes))) part.2

passing_part : (s : State) (event : Event) (reply : Reply) (defect : Defect) → IsState s → Passes s event reply
    → IsPartDefect s event reply defect → ⊥
passing_part s (Arrive t) reply defect ok passes part = arrival_part s t reply defect ok passes.1 part
passing_part s (Depart t) reply defect ok passes part = departure_part s t reply defect ok passes.1 part
passing_part s (Tick units) reply defect ok passes part = part
passing_part s (Affinity t mask) reply defect ok passes part = affinity_part s ok t mask passes.0 passes.1 reply defect passes.2 part
passing_part s (Offline p) reply defect ok passes part = offline_part s ok p reply defect passes.1 part
passing_part s (Online p) reply defect ok passes part = online_part s ok p passes.0 reply defect passes.1 part

pub passing_has_no_defect : PassingHasNoDefect
passing_has_no_defect s event reply defect ok passes (inl wrong) = wrong.1 (passing_is_allowed s event reply ok passes)
passing_has_no_defect s event reply defect ok passes (inr part) = passing_part s event reply defect ok passes part

part_unique : (s : State) (event : Event) (reply : Reply) (one other : Defect) → IsState s → IsPartDefect s event reply one
    → IsPartDefect s event reply other → one ≡ other
part_unique s (Arrive t) reply one other ok part part' =
    let same : part.0 ≡ part'.0 = one_came part.0 part'.0 (sym part.1 ∙ part'.1) in
    came_defect_unique s t part'.0 one other (subst (λ (c : Came). IsCameDefect s t c one) same part.3) part'.3
part_unique s (Depart t) reply one other ok part part' =
    let same : part.0 ≡ part'.0 = one_gone part.0 part'.0 (sym part.1 ∙ part'.1) in
    vacated_unique s ok t part'.0 one other (subst (λ (g : Gone). IsVacatedDefect s t g one) same part.2) part'.2
part_unique s (Tick units) reply one other ok part part' = absurd part
part_unique s (Affinity t mask) reply one other ok part part' = affinity_unique s ok t mask reply one other part part'
part_unique s (Offline p) reply one other ok part part' = offline_unique s p reply one other part part'
part_unique s (Online p) reply one other ok part part' = online_unique s ok p reply one other part part'

pub defect_is_unique : DefectIsUnique
defect_is_unique s event reply one other ok (inl wrong) (inl wrong') = wrong.0 ∙ sym wrong'.0
defect_is_unique s event reply one other ok (inl wrong) (inr part) = absurd (wrong.1 (part_is_allowed s event reply other ok part))
defect_is_unique s event reply one other ok (inr part) (inl wrong) = absurd (wrong.1 (part_is_allowed s event reply one ok part))
defect_is_unique s event reply one other ok (inr part) (inr part') = part_unique s event reply one other ok part part'
