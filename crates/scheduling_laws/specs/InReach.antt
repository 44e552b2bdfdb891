-- What a waiting task finds where chains of shifts lead it, in the field's words: no processor
-- there is idle, and no less urgent task runs there.
use Rattle.std.specs.Prelude.{◌≡◌, ℕ, ◌≤◌, List, length, Some}
use Rattle.task_set.specs.TaskSet.{SetData, IsTaskSet}
use Rattle.strong_apa.specs.declared.reply.Entry.{Entry}
use Rattle.strong_apa.specs.State.{State, task_on, IsIdle, IsWaiting, IsMoreUrgent}
use Rattle.strong_apa.specs.Chain.{Reaches}
use Rattle.strong_apa.specs.History.{IsLegal, state_at}
use Rattle.strong_apa.specs.Passing.{IsPassing}

-- work is conserved: no processor that a waiting task reaches is idle
abbrev pub IsWorkConserving : State → Type 0
IsWorkConserving s = (w p : ℕ) → IsWaiting s w → Reaches s w p → IsIdle s p → ⊥

-- no priority is inverted within reach: each task on a processor that a waiting task reaches is
-- more urgent
abbrev pub HasNoInversion : State → Type 0
HasNoInversion s =
    (w p u : ℕ) → IsWaiting s w → Reaches s w p → task_on s p ≡ Some u → IsMoreUrgent s u w

-- what holds before each legal history of a set, and after every entry of it
abbrev pub HoldsOfLegal : (State → Type 0) → Type 0
HoldsOfLegal Law = (set : SetData) (history : List Entry) (n : ℕ) → IsTaskSet set
    → IsLegal set history → n ≤ length history → Law (state_at set history n)

-- and of each history whose replies pass, whoever gave them
abbrev pub HoldsOfPassing : (State → Type 0) → Type 0
HoldsOfPassing Law = (set : SetData) (history : List Entry) (n : ℕ) → IsTaskSet set
    → IsPassing set history → n ≤ length history → Law (state_at set history n)

-- in a legal history no processor idles that a waiting task reaches
abbrev pub LegalConservesWork : Type 0
LegalConservesWork = HoldsOfLegal IsWorkConserving

-- nor where replies pass
abbrev pub PassingConservesWork : Type 0
PassingConservesWork = HoldsOfPassing IsWorkConserving

-- in a legal history no less urgent task is on a processor that a waiting task reaches
abbrev pub LegalHasNoInversion : Type 0
LegalHasNoInversion = HoldsOfLegal HasNoInversion

-- nor where replies pass
abbrev pub PassingHasNoInversion : Type 0
PassingHasNoInversion = HoldsOfPassing HasNoInversion
