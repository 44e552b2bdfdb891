-- Neither scheduler has a choice, so two comparisons of the same events are one.
use Rattle.std.proofs.Common.{◌≡◌, ℕ, true, List, [], ◌∷◌, map, Option, Some, None, refl, sym, ap, ◌∙◌, subst, le_antisymm}
use Rattle.std.specs.Prelude.{IfSome}
use Rattle.task_set.specs.TaskSet.{SetData}
use Rattle.task_set.specs.declared.event.Event.{Event}
use Rattle.strong_apa.specs.declared.reply.Entry.{Entry}
use Rattle.strong_apa.specs.State.{State, IsState, start_of, is_linked}
use Rattle.strong_apa.specs.Step.{SchedulerStep}
use Rattle.strong_apa.specs.History.{IsLegalFrom, effect_of}
use Rattle.strong_apa.proofs.Linked.{place_in, task_on-linked, linked_number}
use Rattle.strong_apa.proofs.Start.{IsState-start}
use Rattle.strong_apa.proofs.Steps.{step_keeps_state}
use Rattle.strong_apa.proofs.Unique.{step_is_unique}
use Rattle.weak_apa.proofs.Unique.{weak_step_is_unique, weak_step_keeps_state}
use Rattle.weak_apa.specs.Compared.{Compares, IsNoBetter, IsFirstApart, IsWeakRun, IsFoundOf, EachBeside, states_after}
use Rattle.weak_apa.specs.Laws.{EventsHaveOneText}
use Rattle.weak_apa.specs.WeakText.{weak_text}
use Rattle.weak_apa.specs.declared.comparison.Comparison.{Comparison}

-- ---- the states of the two schedulers
pub weak_states : (events : List Event) (s : State) → IsState s → (states others : List State) → IsWeakRun s events states
    → IsWeakRun s events others → states ≡ others
weak_states [] s ok [] [] one two = refl
weak_states [] s ok [] (next ∷ others) one two = absurd two
weak_states [] s ok (new ∷ states) others one two = absurd one
weak_states (event ∷ events) s ok [] others one two = absurd one
weak_states (event ∷ events) s ok (new ∷ states) [] one two = absurd two
weak_states (event ∷ events) s ok (new ∷ states) (next ∷ others) one two =
    let same : next ≡ new = weak_step_is_unique s event next new ok two.0 one.0 in
    let later = weak_states events new (weak_step_keeps_state s event new ok one.0) states others one.1
    (subst (λ (k : State). IsWeakRun k events others) same two.1) in
    λ i. (sym same) i ∷ later i

strong_states : (s : State) → IsState s → (history other : List Entry) → map (λ (entry : Entry). entry.event) history
    ≡ map (λ (entry : Entry). entry.event) other → IsLegalFrom s history → IsLegalFrom s other
    → states_after s history ≡ states_after s other
strong_states s ok [] [] same one two = refl
strong_states s ok [] (second ∷ other) same one two = absurd (cc)
strong_states s ok (first ∷ history) [] same one two = absurd (cc)
strong_states s ok (first ∷ history) (second ∷ other) same one two =
    let here : second.event ≡ first.event = cc in
    let rest : map (λ (entry : Entry). entry.event) history ≡ map (λ (entry : Entry). entry.event) other = cc in
    let step : SchedulerStep s first.event second.reply (effect_of s second) = subst
    (λ (event : Event). SchedulerStep s event second.reply (effect_of s second)) here two.0 in
    let next : effect_of s second ≡ effect_of s first = (step_is_unique s first.event second.reply first.reply (effect_of s second)
    (effect_of s first) ok step one.0).1 in
    let ok' = step_keeps_state s first.event first.reply (effect_of s first) ok one.0 in
    let later = strong_states (effect_of s first) ok' history other rest one.1 (subst (λ (k : State). IsLegalFrom k other) next two.1) in
    λ i. (sym next) i ∷ (later ∙ ap (λ (k : State). states_after k other) (sym next)) i

-- each of them is a state
abbrev AreStates : List State → Type 0
AreStates [] = Unit {0}
AreStates (s ∷ states) = IsState s × AreStates states

states_are : (s : State) → IsState s → (history : List Entry) → IsLegalFrom s history → AreStates (states_after s history)
states_are s ok [] legal = tt
states_are s ok (first ∷ history) legal =
    let ok' = step_keeps_state s first.event first.reply (effect_of s first) ok legal.0 in
    (ok', states_are (effect_of s first) ok' history legal.1)

-- ---- what is found of two states
module _ (weak strong : State) (ok : IsState strong) where
  first_apart_once : (first other : Option ℕ) → IsFirstApart weak strong first → IsFirstApart weak strong other
      → IfSome first (λ t. is_linked strong t ≡ true) → IfSome other (λ t. is_linked strong t ≡ true) → first ≡ other
  first_apart_once None None one two named also = refl
  first_apart_once None (Some u) one two named also = absurd (two.0 (one u))
  first_apart_once (Some t) None one two named also = absurd (one.0 (two t))
  first_apart_once (Some t) (Some u) one two named also =
      ap (λ (n : ℕ). Some n)
      (ok.distinct t u (linked_number strong (place_in t strong.on) t ok (task_on-linked strong t named))
      (linked_number strong (place_in u strong.on) u ok (task_on-linked strong u also))
      (le_antisymm (one.1 u two.0) (two.1 t one.0)))

  found_once : (found other : Comparison) → Compares weak strong found → Compares weak strong other → IsNoBetter weak strong found
      → IsNoBetter weak strong other → found ≡ other
  found_once found other one two better also =
      let weaks : found.weak ≡ other.weak = one.weak_count ∙ sym two.weak_count in
      let strongs : found.strong ≡ other.strong = one.strong_count ∙ sym two.strong_count in
      let firsts = first_apart_once found.first other.first one.first two.first better.named also.named in
      λ i. record { weak = weaks i; strong = strongs i; first = firsts i }

all_found_once : (weaks strongs : List State) → AreStates strongs → (found others : List Comparison)
    → EachBeside Compares weaks strongs found → EachBeside Compares weaks strongs others
    → EachBeside IsNoBetter weaks strongs found → EachBeside IsNoBetter weaks strongs others → found ≡ others
all_found_once [] [] ok [] [] one two better also = refl
all_found_once [] [] ok [] (other ∷ others) one two better also = absurd two
all_found_once [] [] ok (first ∷ found) others one two better also = absurd one
all_found_once [] (strong ∷ strongs) ok found others one two better also = absurd one
all_found_once (weak ∷ weaks) [] ok found others one two better also = absurd one
all_found_once (weak ∷ weaks) (strong ∷ strongs) ok [] others one two better also = absurd one
all_found_once (weak ∷ weaks) (strong ∷ strongs) ok (first ∷ found) [] one two better also = absurd two
all_found_once (weak ∷ weaks) (strong ∷ strongs) ok (first ∷ found) (other ∷ others) one two better also =
    let here = found_once weak strong ok.0 first other one.0 two.0 better.0 also.0 in
    let later = all_found_once weaks strongs ok.1 found others one.1 two.1 better.1 also.1 in
    λ i. here i ∷ later i

-- ---- the text
comparisons_once : (set : SetData) (events : List Event) (found others : List Comparison) → IsState (start_of set)
    → IsFoundOf set events found → IsFoundOf set events others → found ≡ others
comparisons_once set events found others ok one two =
    let weaks : two.states ≡ one.states = weak_states events (start_of set) ok two.states one.states two.weak one.weak in
    let strongs : states_after (start_of set) two.history ≡ states_after (start_of set) one.history = strong_states (start_of set)
    ok two.history one.history (two.of_events ∙ sym one.of_events) two.legal one.legal in
    let compared : EachBeside Compares one.states (states_after (start_of set) one.history) others =
    subst (λ (states : List State). EachBeside Compares states (states_after (start_of set) one.history) others) weaks
    (subst (λ (after : List State). EachBeside Compares two.states after others) strongs two.compared) in
    let no_better : EachBeside IsNoBetter one.states (states_after (start_of set) one.history) others =
    subst (λ (states : List State). EachBeside IsNoBetter states (states_after (start_of set) one.history) others) weaks
    (subst (λ (after : List State). EachBeside IsNoBetter two.states after others) strongs two.no_better) in
    all_found_once one.states (states_after (start_of set) one.history) (states_are (start_of set) ok one.history one.legal)
    found others one.compared compared one.no_better no_better

pub events_have_one_text : EventsHaveOneText
events_have_one_text set events text other valid one two =
    one.is_text ∙ ap (weak_text set) (comparisons_once set _ one.found two.found (IsState-start set valid) one.is_found two.is_found)
    ∙ sym two.is_text
