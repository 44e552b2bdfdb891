-- A task that arrives was not linked before, one that departs is not linked then, and a tick changes nothing.
use Rattle.std.proofs.Common.{◌≡◌, ℕ, ◌≤◌, Bool, true, false, not, ◌&&◌, ◌==◌, List, [], ◌∷◌, refl, sym, ap, ◌∙◌, inl, inr, arith, eq-eqb}
use Rattle.std.proofs.Common.{eqb-true}
use Rattle.std.proofs.lemmas.Bool.{cases_Bool, true≢false, and_from, and_right, and_parts}
use Rattle.task_set.specs.declared.event.Event.{Event}
use Rattle.task_set.specs.declared.event.Event.TheVariants.{Arrive, Depart, Tick, Affinity, Offline, Online}
use Rattle.strong_apa.specs.declared.reply.Reply.{Reply}
use Rattle.strong_apa.specs.declared.reply.Entry.{Entry}
use Rattle.strong_apa.specs.State.{State, IsState, start_of, is_ready, is_linked}
use Rattle.strong_apa.specs.Step.{SchedulerStep}
use Rattle.strong_apa.specs.History.{IsLegalFrom, effect_of}
use Rattle.strong_apa.proofs.Linked.{place_in, task_on-linked}
use Rattle.strong_apa.proofs.Start.{IsState-start}
use Rattle.strong_apa.proofs.Steps.{step_keeps_state}
use Rattle.job_release.proofs.Readied.{ready_departed}
use Rattle.scheduling_laws.specs.Migrations.{processor_of, migrates, one_where, migrations_of, is_of_others, events_of_others}
use Rattle.scheduling_laws.specs.Migrations.{MigrationsAreFew}

linked_is_ready : (s : State) → IsState s → (t : ℕ) → is_linked s t ≡ true → is_ready s t ≡ true
linked_is_ready s ok t linked = ok.linked_ready (place_in t s.on) t (task_on-linked s t linked)

-- who stays where it is does not migrate
stays : (s : State) (t : ℕ) → migrates s s t ≡ false
stays s t = and_right (is_linked s t && is_linked s t) _ (ap not (eq-eqb (processor_of s t) (processor_of s t) refl))

not_from : (a b : ℕ) → (a ≡ b → ⊥) → not (a == b) ≡ true
not_from a b differ = elim (cases_Bool (a == b)) [
  | inl same ↦ absurd (differ (eqb-true a b same))
  | inr other ↦ ap not other
]

module _ (s new : State) (t : ℕ) (ok : IsState s) (new_ok : IsState new) (does : migrates s new t ≡ true) where
  before : is_linked s t ≡ true
  before = (and_parts (is_linked s t) _ (and_parts (is_linked s t && is_linked new t) _ does).0).0

  after : is_linked new t ≡ true
  after = (and_parts (is_linked s t) _ (and_parts (is_linked s t && is_linked new t) _ does).0).1

  is_moved_away : new ≡ s → ⊥
  is_moved_away same = true≢false (sym does ∙ ap (λ (x : State). migrates s x t) same ∙ stays s t)

  by_others : (event : Event) (reply : Reply) → SchedulerStep s event reply new → is_of_others t event ≡ true
  by_others (Arrive u) reply step = not_from u t (λ same. elim step.1 [
    | inl again ↦ is_moved_away again.same
    | inr arrives ↦ true≢false (sym (linked_is_ready s ok t before) ∙ ap (is_ready s) (sym same) ∙ arrives.absent)
  ])
  by_others (Depart u) reply step = not_from u t (λ same.
      true≢false (sym (linked_is_ready new new_ok t after) ∙ ap (is_ready new) (sym same) ∙ ready_departed s u reply new ok step))
  by_others (Tick units) reply step = absurd (is_moved_away step.1)
  by_others (Affinity u mask) reply step = refl
  by_others (Offline p) reply step = refl
  by_others (Online p) reply step = refl

no_more : (a b : Bool) → (a ≡ true → b ≡ true) → one_where a ≤ one_where b
no_more false b up = omega arith
no_more true b up = rw (up refl) (omega arith)

few_from : (s : State) (history : List Entry) (t : ℕ) → IsState s → IsLegalFrom s history
    → migrations_of s history t ≤ events_of_others s history t
few_from s [] t ok legal = omega arith
few_from s (entry ∷ rest) t ok legal =
    let new_ok = step_keeps_state s entry.event entry.reply (effect_of s entry) ok legal.0 in
    let later = few_from (effect_of s entry) rest t new_ok legal.1 in
    let here = no_more (migrates s (effect_of s entry) t) (is_ready s t && is_of_others t entry.event)
    (λ does. and_from _ _ (linked_is_ready s ok t (before s (effect_of s entry) t ok new_ok does))
    (by_others s (effect_of s entry) t ok new_ok does entry.event entry.reply legal.0)) in
    omega arith

pub migrations_are_few : MigrationsAreFew
migrations_are_few set history t valid legal = few_from (start_of set) history t (IsState-start set valid) legal
