-- The justification of a reply, in the state after it: who waits by a reply is certified by its
-- set; of the tasks that still wait once a processor was filled, none that is more urgent than the
-- one that came in may run on a processor of the set, and none at all where nobody came in. Where a
-- ready task leaves and comes back in one event, each part is justified by the state right after
-- it.
use Rattle.std.specs.Prelude.{◌≡◌, ℕ, IsTrue, Option, Some, None}
use Rattle.affinity_mask.specs.ProcSet.{has}
use Rattle.task_set.specs.declared.event.Event.{Event}
use Rattle.task_set.specs.declared.event.Event.TheVariants.{Arrive, Depart, Tick, Affinity, Offline}
use Rattle.task_set.specs.declared.event.Event.TheVariants.{Online}
use Rattle.strong_apa.specs.declared.reply.Came.{Came}
use Rattle.strong_apa.specs.declared.reply.Came.TheVariants.{Placed, Displaced, Waits}
use Rattle.strong_apa.specs.declared.reply.Gone.{Gone}
use Rattle.strong_apa.specs.declared.reply.Reply.{Reply}
use Rattle.strong_apa.specs.declared.reply.Moved.{Moved}
use Rattle.strong_apa.specs.declared.reply.Reply.TheVariants.{Remasked, Off, On}
use Rattle.strong_apa.specs.Reply.{reply_of_came, reply_of_gone}
use Rattle.strong_apa.specs.State.{State, IsWaiting, IsMoreUrgent}
use Rattle.strong_apa.specs.Chain.{CanEnterAt}
use Rattle.strong_apa.specs.Step.{IsNobodyInto}
use Rattle.strong_apa.specs.History.{state_after_left}
use Rattle.strong_apa.specs.Certificate.{IsCertificate}

-- the set certifies a task that waits
pub record WaitsBehind (s : State) (t set : ℕ) : Type 0 where
  pub waits : IsWaiting s t
  pub certified : IsCertificate s t set

-- who waits once a processor was filled may not run on a processor of the set, or is less urgent
-- than the one that came in
abbrev pub LeavesNobody : State → Option ℕ → ℕ → Type 0
LeavesNobody s None back = IsNobodyInto s back
LeavesNobody s (Some w) back =
    (v q : ℕ) → IsWaiting s v → IsMoreUrgent s v w → IsTrue (has back q) → CanEnterAt s v q → ⊥

-- what the set shows of the state after t came to this
abbrev pub JustifiesCame : State → ℕ → Came → Type 0
JustifiesCame new t (Placed chain) = Unit {0}
JustifiesCame new t (Displaced chain out reach) = WaitsBehind new out reach
JustifiesCame new t (Waits reach) = WaitsBehind new t reach

-- what the set shows of the state after t left and others came in, or nobody; of a task that had
-- waited it is nothing
abbrev pub JustifiesLeft : State → Option Gone → Type 0
JustifiesLeft between None = Unit {0}
JustifiesLeft between (Some gone) = LeavesNobody between gone.entered gone.back

-- what the sets of a reply to an event in the state `old` show of the state after it: of whoever
-- arrived, or of whoever came in
abbrev pub HasJustification : State → State → Event → Reply → Type 0
HasJustification old new (Arrive t) reply =
    (came : Came) → reply ≡ reply_of_came came → JustifiesCame new t came
HasJustification old new (Depart t) reply =
    (gone : Gone) → reply ≡ reply_of_gone gone → LeavesNobody new gone.entered gone.back
HasJustification old new (Tick units) reply = Unit {0}
HasJustification old new (Affinity t mask) reply = (gone : Option Gone) (came : Came)
    → reply ≡ Remasked gone came → JustifiesLeft (state_after_left old t gone) gone
    × JustifiesCame new t came
HasJustification old new (Offline p) reply =
    (moved : Moved) → reply ≡ Off (Some moved) → JustifiesCame new moved.task moved.came
HasJustification old new (Online p) reply =
    (parts : Gone) → reply ≡ On parts → LeavesNobody new parts.entered parts.back
