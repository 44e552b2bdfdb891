-- Histories one entry longer, and the states between their entries.
use Rattle.std.proofs.Common.{◌≡◌, ℕ, zero, suc, ◌+◌, List, [], ◌∷◌, ◌++◌, length, take, refl, sym, ap, ◌∙◌, arith, append_assoc}
use Rattle.std.proofs.Common.{append-nil}
use Rattle.std.proofs.lemmas.List.{length-append}
use Rattle.task_set.specs.TaskSet.{SetData, IsTaskSet}
use Rattle.task_set.specs.declared.order.Order.{Order}
use Rattle.strong_apa.specs.declared.reply.Entry.{Entry}
use Rattle.strong_apa.specs.State.{State, IsState, start_of, task_on}
use Rattle.strong_apa.specs.Step.{SchedulerStep}
use Rattle.strong_apa.specs.History.{effect_of, state_after, state_at, IsLegal, IsLegalFrom}
use Rattle.strong_apa.specs.Dispatch.{processors_of, taken_between, runs_of, tick_runs, places_of, orders_from, orders_of, change_orders}
use Rattle.strong_apa.specs.Dispatch.{tick_orders}
use Rattle.strong_apa.proofs.Start.{IsState-start}
use Rattle.strong_apa.proofs.Steps.{step_keeps_state}

-- ---- one more entry
pub state_after-push : (s : State) (history : List Entry) (entry : Entry) → state_after s (history ++ entry ∷ [])
    ≡ effect_of (state_after s history) entry
state_after-push s [] entry = refl
state_after-push s (first ∷ rest) entry = state_after-push (effect_of s first) rest entry

-- a legal history and a step from the state after it
pub IsLegalFrom-push : (s : State) (history : List Entry) (entry : Entry) → IsLegalFrom s history
    → SchedulerStep (state_after s history) entry.event entry.reply (effect_of (state_after s history) entry)
    → IsLegalFrom s (history ++ entry ∷ [])
IsLegalFrom-push s [] entry legal step = (step, tt)
IsLegalFrom-push s (first ∷ rest) entry legal step = (legal.0, IsLegalFrom-push (effect_of s first) rest entry legal.1 step)

pub processors_of-push : (s : State) (history : List Entry) (entry : Entry) (t : ℕ) → processors_of s (history ++ entry ∷ []) t
    ≡ processors_of s history t ++ taken_between (state_after s history) (effect_of (state_after s history) entry) t
processors_of-push s [] entry t = append-nil (taken_between s (effect_of s entry) t)
processors_of-push s (first ∷ rest) entry t =
    ap (λ (later : List ℕ). taken_between s (effect_of s first) t ++ later) (processors_of-push (effect_of s first) rest entry t)
    ∙ sym (append_assoc (taken_between s (effect_of s first) t) (processors_of (effect_of s first) rest t) _)

pub runs_of-push : (s : State) (history : List Entry) (entry : Entry) (t : ℕ) → runs_of s (history ++ entry ∷ []) t ≡ runs_of s history t
    ++ tick_runs entry.event (places_of (state_after s history) t)
runs_of-push s [] entry t = append-nil (tick_runs entry.event (places_of s t))
runs_of-push s (first ∷ rest) entry t =
    ap (λ (later : List (ℕ × ℕ)). tick_runs first.event (places_of s t) ++ later) (runs_of-push (effect_of s first) rest entry t)
    ∙ sym (append_assoc (tick_runs first.event (places_of s t)) (runs_of (effect_of s first) rest t) _)

-- the orders of p by one entry, before which each task was taken so many times
abbrev pub entry_orders : State → (ℕ → ℕ) → Entry → ℕ → List Order
entry_orders s takes entry p = change_orders takes (task_on s p) (task_on (effect_of s entry) p) ++ tick_orders entry.event (task_on s p)

-- how many times each task was taken after a history, if it was taken so many times before
abbrev pub takes_after : State → (ℕ → ℕ) → List Entry → ℕ → ℕ
takes_after s takes history t = takes t + length (processors_of s history t)

no_takes : (s : State) (takes : ℕ → ℕ) → takes ≡ takes_after s takes []
no_takes s takes = λ i t. at t i
  where
    at : (t : ℕ) → takes t ≡ takes t + 0
    at t = omega arith

takes_on : (s : State) (takes : ℕ → ℕ) (first : Entry) (rest : List Entry)
    → takes_after (effect_of s first) (λ t. takes t + length (taken_between s (effect_of s first) t)) rest
    ≡ takes_after s takes (first ∷ rest)
takes_on s takes first rest = λ i t. at t i
  where
    at : (t : ℕ) → takes t + length (taken_between s (effect_of s first) t) + length (processors_of (effect_of s first) rest t) ≡ takes t
        + length (taken_between s (effect_of s first) t ++ processors_of (effect_of s first) rest t)
    at t = let n = length-append (taken_between s (effect_of s first) t) (processors_of (effect_of s first) rest t) in omega arith

pub orders_from-push : (s : State) (takes : ℕ → ℕ) (history : List Entry) (entry : Entry) (p : ℕ)
    → orders_from s takes (history ++ entry ∷ []) p ≡ orders_from s takes history p
    ++ entry_orders (state_after s history) (takes_after s takes history) entry p
orders_from-push s takes [] entry p =
    append-nil (entry_orders s takes entry p) ∙ ap (λ (k : ℕ → ℕ). entry_orders s k entry p) (no_takes s takes)
orders_from-push s takes (first ∷ rest) entry p =
    let next = effect_of s first in
    let takes' : ℕ → ℕ = λ t. takes t + length (taken_between s next t) in
    ap (λ (later : List Order). entry_orders s takes first p ++ later) (orders_from-push next takes' rest entry p)
    ∙ sym (append_assoc (entry_orders s takes first p) (orders_from next takes' rest p) _)
    ∙ ap (λ (k : ℕ → ℕ). entry_orders s takes first p ++ orders_from next takes' rest p ++ entry_orders (state_after next rest) k entry p)
    (takes_on s takes first rest)

-- the orders of p by one more entry, with the numbers of the takes so far
pub orders_of-push : (s : State) (history : List Entry) (entry : Entry) (p : ℕ) → orders_of s (history ++ entry ∷ []) p
    ≡ orders_of s history p ++ entry_orders (state_after s history) (λ t. length (processors_of s history t)) entry p
orders_of-push s history entry p = orders_from-push s (λ t. 0) history entry p
    ∙ ap (λ (k : ℕ → ℕ). orders_of s history p ++ entry_orders (state_after s history) k entry p) counts
  where
    at : (t : ℕ) → 0 + length (processors_of s history t) ≡ length (processors_of s history t)
    at t = omega arith

    counts : takes_after s (λ t. 0) history ≡ (λ t. length (processors_of s history t))
    counts = λ i t. at t i

-- ---- the states of a legal history are states
pub IsState-state_after : (s : State) (history : List Entry) → IsState s → IsLegalFrom s history → IsState (state_after s history)
IsState-state_after s [] ok legal = ok
IsState-state_after s (first ∷ rest) ok legal =
    IsState-state_after (effect_of s first) rest (step_keeps_state s first.event first.reply (effect_of s first) ok legal.0) legal.1

-- a front of a legal history is legal
pub IsLegalFrom-take : (s : State) (history : List Entry) (n : ℕ) → IsLegalFrom s history → IsLegalFrom s (take n history)
IsLegalFrom-take s history zero legal = tt
IsLegalFrom-take s [] (suc n) legal = tt
IsLegalFrom-take s (first ∷ rest) (suc n) legal = (legal.0, IsLegalFrom-take (effect_of s first) rest n legal.1)

pub IsState-state_at : (set : SetData) (history : List Entry) (n : ℕ) → IsTaskSet set → IsLegal set history
    → IsState (state_at set history n)
IsState-state_at set history n ok legal =
    IsState-state_after (start_of set) (take n history) (IsState-start set ok) (IsLegalFrom-take (start_of set) history n legal)
