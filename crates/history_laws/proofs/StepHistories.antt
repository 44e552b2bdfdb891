-- Events of tasks and processors have just one legal history: each step is there, and there is no other.
use Rattle.std.proofs.Common.{◌≡◌, ℕ, List, [], ◌∷◌, length, map, refl, sym, ap, ◌∙◌, subst}
use Rattle.std.specs.Prelude.{All}
use Rattle.std.proofs.lemmas.List.{length-map}
use Rattle.std.proofs.lemmas.List.Elements.{All-head, All-tail}
use Rattle.task_set.specs.TaskSet.{TaskData}
use Rattle.task_set.specs.Event.{IsOfSystem}
use Rattle.task_set.specs.declared.event.Event.{Event}
use Rattle.strong_apa.specs.declared.reply.Entry.{Entry}
use Rattle.strong_apa.specs.State.{State, IsState, start_of, task_count}
use Rattle.strong_apa.specs.Step.{SchedulerStep}
use Rattle.strong_apa.specs.History.{IsLegalFrom, effect_of}
use Rattle.strong_apa.proofs.SameTasks.{same_tasks-effect, same_count}
use Rattle.strong_apa.proofs.Start.{IsState-start}
use Rattle.strong_apa.proofs.Steps.{reply_gives_new_state, step_keeps_state}
use Rattle.strong_apa.proofs.Unique.{step_is_unique}
use Rattle.history_laws.specs.StepLaws.{LegalHistoryExists, LegalHistoryIsUnique, caller_and_event}
use Rattle.history_laws.proofs.StepExists.{step_exists}

-- ---- there is one
-- the event of each pair is of a system of m processors and n tasks
abbrev AreOfSystem : ℕ → ℕ → List (ℕ × Event) → Type 0
AreOfSystem m n events = All (λ posted. IsOfSystem m n posted.1) events

pub history_exists-from : (s : State) (m n : ℕ) (events : List (ℕ × Event)) → IsState s → s.processors ≡ m → task_count s ≡ n
    → AreOfSystem m n events → (history : List Entry) × IsLegalFrom s history × (map caller_and_event history ≡ events)
history_exists-from s m n [] ok processors count known = ([], tt, refl)
history_exists-from s m n (posted ∷ rest) ok processors count known =
    let event = posted.1 in
    let here : IsOfSystem m n event = All-head (λ (p : ℕ × Event). IsOfSystem m n p.1) posted rest known in
    let found = step_exists s event ok (rw (processors, count) here) in
    let entry : Entry = record { caller = posted.0; event = event; reply = found.0 } in
    let next = effect_of s entry in
    let step : SchedulerStep s event found.0 next = subst (SchedulerStep s event found.0)
    (reply_gives_new_state s event found.0 found.1 found.2) found.2 in
    let same = same_tasks-effect s entry in
    let later = history_exists-from next m n rest (step_keeps_state s event found.0 next ok step) (same.processors ∙ processors)
    (same_count s next same ∙ count) (All-tail (λ (p : ℕ × Event). IsOfSystem m n p.1) posted rest known) in
    (entry ∷ later.0, (step, later.1), ap (λ (events : List (ℕ × Event)). posted ∷ events) later.2)

pub legal_history_exists : LegalHistoryExists
legal_history_exists set events valid_set known = history_exists-from (start_of set) set.processors (length set.tasks) events
    (IsState-start set valid_set) refl (length-map set.tasks (λ (t : TaskData). t.priority)) known

-- ---- there is no other
same_entry : (a b : Entry) → a.caller ≡ b.caller → a.event ≡ b.event → a.reply ≡ b.reply → a ≡ b
same_entry a b callers events replies = λ i. record { caller = callers i; event = events i; reply = replies i }

pub history_is_unique-from : (s : State) (history other : List Entry) → IsState s → IsLegalFrom s history → IsLegalFrom s other
    → map caller_and_event history ≡ map caller_and_event other → history ≡ other
history_is_unique-from s [] [] ok one two e = refl
history_is_unique-from s [] (b ∷ bs) ok one two e = cc
history_is_unique-from s (a ∷ rest) [] ok one two e = cc
history_is_unique-from s (a ∷ rest) (b ∷ others) ok one two e =
    let first : caller_and_event a ≡ caller_and_event b = cc in
    let behind : map caller_and_event rest ≡ map caller_and_event others = cc in
    let events : a.event ≡ b.event = ap (λ (posted : ℕ × Event). posted.1) first in
    let step : SchedulerStep s a.event b.reply (effect_of s b) = subst (λ (event : Event). SchedulerStep s event b.reply (effect_of s b))
    (sym events) two.0 in
    let replies : a.reply ≡ b.reply = (step_is_unique s a.event a.reply b.reply (effect_of s a) (effect_of s b) ok one.0 step).0 in
    let entries : a ≡ b = same_entry a b (ap (λ (posted : ℕ × Event). posted.0) first) events replies in
    let later : rest ≡ others = history_is_unique-from (effect_of s a) rest others
    (step_keeps_state s a.event a.reply (effect_of s a) ok one.0) one.1
    (subst (λ (entry : Entry). IsLegalFrom (effect_of s entry) others) (sym entries) two.1) behind in
    ap (λ (entry : Entry). entry ∷ rest) entries ∙ ap (λ (xs : List Entry). b ∷ xs) later

pub legal_history_is_unique : LegalHistoryIsUnique
legal_history_is_unique set history other valid_set one two e =
    history_is_unique-from (start_of set) history other (IsState-start set valid_set) one two e
