-- Which events a pass posted, and what a closed board's history holds of what all passes posted.
use Rattle.std.specs.Prelude.{◌≡◌, ℕ, ◌<◌, ◌≤◌, ◌==◌, List, [], ◌∷◌, ◌++◌, map, filter, slice_get}
use Rattle.std.specs.Prelude.{Some, All, Contains}
use Rattle.task_set.specs.TaskSet.{SetData}
use Rattle.task_set.specs.declared.event.Event.{Event}
use Rattle.strong_apa.specs.declared.reply.Entry.{Entry}
use Rattle.sched_core.specs.CoreData.{CoreData}
use Rattle.event_history.specs.declared.fault.Receipt.{Receipt}
use Rattle.event_history.specs.Boards.{BoardData, PassData, AreAllPasses, Grown}
use Rattle.event_history.specs.Closing.{IsCoreOf}
use Rattle.event_history.specs.Posting.{Posted}

-- the events of a caller's entries, in the order of the history
abbrev pub events_of_caller : ℕ → List Entry → List Event
events_of_caller caller history = map (λ (entry : Entry). entry.event)
    (filter (λ (entry : Entry). entry.caller == caller) history)

-- the entry at this place is of this event
abbrev pub IsEventAt : List Entry → ℕ → Event → Type 0
IsEventAt history place event =
    (entry : Entry) × (slice_get history place ≡ Some entry) × (entry.event ≡ event)

-- the entries at these places are of these events, in order
abbrev pub AreEventsAt : List Entry → List ℕ → List Event → Type 0
AreEventsAt history [] [] = Unit {0}
AreEventsAt history [] (event ∷ events) = ⊥
AreEventsAt history (place ∷ places) [] = ⊥
AreEventsAt history (place ∷ places) (event ∷ events) =
    IsEventAt history place event × AreEventsAt history places events

-- the entries that each pass posted are of the events of its caller, in order
abbrev pub AllPosted : (ℕ → List Event) → List PassData → Type 0
AllPosted events [] = Unit {0}
AllPosted events (pass ∷ rest) =
    AreEventsAt pass.seen pass.mine (events pass.caller) × AllPosted events rest

-- the history holds the events of each of so many callers, in their order, and no others
pub record HoldsEvents (callers : ℕ) (events : ℕ → List Event) (history : List Entry) : Type 0 where
  pub each_caller : (caller : ℕ) → caller < callers → events_of_caller caller history
      ≡ events caller
  pub nobody_else : (caller : ℕ) → callers ≤ caller → events_of_caller caller history ≡ []
  pub each_entry : All (λ (entry : Entry). (entry.caller < callers)
      × Contains (events entry.caller) entry.event) history

-- a closed board's history holds the events that its passes posted
abbrev pub ClosedBoardHoldsEvents : Type 0
ClosedBoardHoldsEvents =
    (board : BoardData) (passes : List PassData) (core : CoreData) (events : ℕ → List Event)
    → AreAllPasses board passes → IsCoreOf board passes core → AllPosted events passes
    → HoldsEvents board.callers events core.history

-- the events that a pass posted stay those, as long as its own places stay
abbrev pub PostedEventsStay : Type 0
PostedEventsStay = (old new : PassData) (events : List Event) → Grown old new → new.mine ≡ old.mine
    → AreEventsAt old.seen old.mine events → AreEventsAt new.seen new.mine events

-- an event that a pass posts comes after those that it had posted
abbrev pub PostedEventIsLast : Type 0
PostedEventIsLast =
    (set : SetData) (old new : PassData) (event : Event) (receipt : Receipt) (events : List Event)
    → Posted set old event receipt new → AreEventsAt old.seen old.mine events
    → AreEventsAt new.seen new.mine (events ++ event ∷ [])
