-- The scheduler on one thread. A core has a history from the state in which it began, and the links
-- after it; each event that is applied adds one entry, which is the scheduler's step; the orders of
-- each processor are those of the history, and of the close once the core is closed.
use Rattle.std.specs.Prelude.{◌≡◌, ◌≢◌, ℕ, ◌+◌, ◌≤◌, ◌↔◌, IsTrue, Bool, false, List, [], ◌∷◌, ◌++◌}
use Rattle.std.specs.Prelude.{length, Result, Err, IfOk, if◌then◌else◌}
use Rattle.std.specs.Result.{OnErr}
use Rattle.task_set.specs.declared.event.Event.{Event}
use Rattle.task_set.specs.declared.order.Order.{Order}
use Rattle.strong_apa.specs.declared.reply.Reply.{Reply}
use Rattle.strong_apa.specs.declared.reply.Entry.{Entry}
use Rattle.strong_apa.specs.State.{State, IsState, task_count}
use Rattle.strong_apa.specs.Step.{SchedulerStep}
use Rattle.strong_apa.specs.History.{IsLegalFrom, state_after}
use Rattle.strong_apa.specs.Dispatch.{orders_of, closed_orders_of}
use Rattle.strong_apa.specs.Certified.{HasCertificates}
use Rattle.strong_apa.specs.Justification.{HasJustification}
use Rattle.history_laws.specs.Start.{NobodyIsReady}
use Rattle.sched_core.specs.declared.fault.CoreFault.{CoreFault}
use Rattle.sched_core.specs.declared.fault.CoreFault.TheVariants.{Closed, Full, OutOfMemory}

-- the state in which a core began, its history, the links now, whether it is closed, and for how
-- many more entries there is room
pub record CoreData : Type 0 where
  pub start : State
  pub history : List Entry
  pub links : State
  pub closed : Bool
  pub spare : ℕ

-- a history has at most so many entries
abbrev pub max_entries : ℕ
max_entries = 20000

-- what holds of every core: nobody was ready in the state in which it began, the history is legal
-- from there, the links are those after it, and each waiting task has a certificate
pub record IsCore (core : CoreData) : Type 0 where
  pub start : IsState core.start
  pub nobody : NobodyIsReady core.start
  pub state : IsState core.links
  pub legal : IsLegalFrom core.start core.history
  pub links : core.links ≡ state_after core.start core.history
  pub certificates : HasCertificates core.links
  pub processors : core.links.processors ≡ core.start.processors
  pub tasks : task_count core.links ≡ task_count core.start
  pub fits : length core.history ≤ max_entries

-- the orders of p: those of the history, and of the close once the core is closed
abbrev pub core_orders : CoreData → ℕ → List Order
core_orders core p = if core.closed then closed_orders_of core.start core.history p
    else orders_of core.start core.history p

-- an entry of a caller and an event, with the reply to it
abbrev pub entry_of : ℕ → Event → Reply → Entry
entry_of caller event reply = record { caller = caller; event = event; reply = reply }

-- the event of this caller was applied: the history has one more entry, at this place, which is the
-- scheduler's step from the links before it to the links after it; its reply is justified by the
-- links before it and after it, and it takes the room of one entry at most
pub record Applied (old : CoreData) (caller : ℕ) (event : Event) (place : ℕ)
    (new : CoreData) : Type 0 where
  pub reply : Reply
  pub at_place : place ≡ length old.history
  pub history : new.history ≡ old.history ++ entry_of caller event reply ∷ []
  pub step : SchedulerStep old.links event reply new.links
  pub justified : HasJustification old.links new.links event reply
  pub start : new.start ≡ old.start
  pub closed : new.closed ≡ old.closed
  pub spare : old.spare ≤ new.spare + 1

-- all that was applied stays, and there is no less room
pub record OnlyMadeRoom (old new : CoreData) : Type 0 where
  pub start : new.start ≡ old.start
  pub history : new.history ≡ old.history
  pub links : new.links ≡ old.links
  pub closed : new.closed ≡ old.closed
  pub spare : old.spare ≤ new.spare

-- the answer to an event of a caller: it was applied, at this place; or it was refused, since the
-- core was closed, or full, or memory ran out, which cannot be where room for an entry was made
pub record AppliedOrRefused (old : CoreData) (caller : ℕ) (event : Event)
    (result : Result ℕ CoreFault) (new : CoreData) : Type 0 where
  pub applied : IfOk result (λ place. Applied old caller event place new)
  pub closed : (result ≡ Err Closed) ↔ IsTrue old.closed
  pub full : (result ≡ Err Full) ↔ (old.closed ≡ false) × (length old.history ≡ max_entries)
  pub memory : 1 ≤ old.spare → result ≢ Err OutOfMemory
  pub refused : OnErr result (OnlyMadeRoom old new)
