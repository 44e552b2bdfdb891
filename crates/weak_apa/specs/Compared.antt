-- The weak scheduler beside the strong one. Both are given the same events; after each event the
-- tasks that each of them has linked are counted, and the most urgent task that just one of them
-- has linked is named.
use Rattle.std.specs.Prelude.{◌≡◌, ◌≢◌, ℕ, ◌≤◌, true, List, [], ◌∷◌, length, map, Option, Some}
use Rattle.std.specs.Prelude.{None, IfSome}
use Rattle.task_set.specs.TaskSet.{SetData}
use Rattle.task_set.specs.declared.event.Event.{Event}
use Rattle.strong_apa.specs.declared.reply.Entry.{Entry}
use Rattle.strong_apa.specs.State.{State, start_of, is_linked, priority_of}
use Rattle.strong_apa.specs.Placement.{IsBetter}
use Rattle.strong_apa.specs.History.{IsLegal, effect_of}
use Rattle.strong_apa.specs.CertificateLaws.{LinkedIsBest}
use Rattle.strong_apa.specs.Ranks.{tasks_of}
use Rattle.weak_apa.specs.Stable.{IsWeaklyStable}
use Rattle.weak_apa.specs.Step.{WeakStep}
use Rattle.weak_apa.specs.declared.comparison.Comparison.{Comparison}

-- how many tasks are linked
abbrev pub linked_count : State → ℕ
linked_count s = length (tasks_of s (is_linked s))

-- t is linked in just one of two states
abbrev pub IsInJustOne : State → State → ℕ → Type 0
IsInJustOne weak strong t = is_linked weak t ≢ is_linked strong t

-- the most urgent task that is linked in just one of two states, or that there is none
abbrev pub IsFirstApart : State → State → Option ℕ → Type 0
IsFirstApart weak strong None = (u : ℕ) → is_linked weak u ≡ is_linked strong u
IsFirstApart weak strong (Some t) = IsInJustOne weak strong t
    × ((u : ℕ) → IsInJustOne weak strong u → priority_of strong t ≤ priority_of strong u)

-- what a comparison says of two states
pub record Compares (weak strong : State) (found : Comparison) : Type 0 where
  pub weak_count : found.weak ≡ linked_count weak
  pub strong_count : found.strong ≡ linked_count strong
  pub first : IsFirstApart weak strong found.first

-- the weak scheduler keeps its invariant, and does no better than the strong one, which has the
-- best set linked: the same tasks are ready, no more are linked, the linked set is not better, and
-- the task that is named is one of the strong one
pub record IsNoBetter (weak strong : State) (found : Comparison) : Type 0 where
  pub stable : IsWeaklyStable weak
  pub ready : weak.ready ≡ strong.ready
  pub best : LinkedIsBest strong
  pub never_better : IsBetter strong (is_linked weak) (is_linked strong) → ⊥
  pub no_more : found.weak ≤ found.strong
  pub named : IfSome found.first (λ t. is_linked strong t ≡ true)

-- the states that the weak scheduler's steps lead to, one after each event
abbrev pub IsWeakRun : State → List Event → List State → Type 0
IsWeakRun s [] [] = Unit {0}
IsWeakRun s (event ∷ events) (new ∷ states) = WeakStep s event new × IsWeakRun new events states
IsWeakRun s _ _ = ⊥

-- the states after each entry of a history
abbrev pub states_after : State → List Entry → List State
states_after s [] = []
states_after s (entry ∷ rest) = effect_of s entry ∷ states_after (effect_of s entry) rest

-- what holds of each two states that stand side by side, and of what is found of them
abbrev pub EachBeside : (State → State → Comparison → Type 0) → List State → List State
    → List Comparison → Type 0
EachBeside Holds [] [] [] = Unit {0}
EachBeside Holds (weak ∷ weaks) (strong ∷ strongs) (found ∷ more) =
    Holds weak strong found × EachBeside Holds weaks strongs more
EachBeside Holds _ _ _ = ⊥

-- what is found of these events, from the start on: by the weak scheduler's states, and by the
-- strong one's legal history
pub record IsFoundOf (set : SetData) (events : List Event) (found : List Comparison) : Type 0 where
  pub states : List State
  pub history : List Entry
  pub weak : IsWeakRun (start_of set) events states
  pub of_events : map (λ (entry : Entry). entry.event) history ≡ events
  pub legal : IsLegal set history
  pub compared : EachBeside Compares states (states_after (start_of set) history) found
  pub no_better : EachBeside IsNoBetter states (states_after (start_of set) history) found
