-- Replies that pass, whoever gave them: a chain passes where it is a chain of the task that enters,
-- visits no processor twice, and ends as the reply says; it need not be the least. A set passes
-- where no shift leads out of it, or, after a departure, where none leads into it from outside; it
-- need not be the smallest. A history passes where each reply does in the state to which the
-- replies before it lead.
use Rattle.std.specs.Prelude.{◌≡◌, ℕ, ◌<◌, ◌≤◌, ◌⊎◌, false, true, List, [], ◌∷◌, IsTrue, Option}
use Rattle.std.specs.Prelude.{Some, None}
use Rattle.affinity_mask.specs.ProcSet.{has, Within}
use Rattle.task_set.specs.TaskSet.{SetData, IsMask}
use Rattle.task_set.specs.declared.event.Event.{Event}
use Rattle.task_set.specs.declared.event.Event.TheVariants.{Arrive, Depart, Tick, Affinity, Offline}
use Rattle.task_set.specs.declared.event.Event.TheVariants.{Online}
use Rattle.strong_apa.specs.declared.reply.Came.{Came}
use Rattle.strong_apa.specs.declared.reply.Came.TheVariants.{Placed, Displaced, Waits}
use Rattle.strong_apa.specs.declared.reply.Gone.{Gone}
use Rattle.strong_apa.specs.declared.reply.Reply.{Reply}
use Rattle.strong_apa.specs.declared.reply.Moved.{Moved}
use Rattle.strong_apa.specs.declared.reply.Reply.TheVariants.{Left, Ticked, AlreadyReady, NotReady}
use Rattle.strong_apa.specs.declared.reply.Reply.TheVariants.{Masked, Remasked, AlreadyOff}
use Rattle.strong_apa.specs.declared.reply.Reply.TheVariants.{AlreadyOn, Off, On}
use Rattle.strong_apa.specs.Reply.{reply_of_came, reply_of_gone}
use Rattle.strong_apa.specs.declared.reply.Entry.{Entry}
use Rattle.strong_apa.specs.State.{State, effective_mask, task_on, task_count, is_ready}
use Rattle.strong_apa.specs.State.{priority_of, start_of, IsIdle, IsWaiting, IsMoreUrgent}
use Rattle.strong_apa.specs.State.{state_with_mask, state_with_online, state_with_offline}
use Rattle.strong_apa.specs.State.{state_after_leaving}
use Rattle.strong_apa.specs.Chain.{CanShift, IsSimple, EndsIdle, EndsOnTask, EntersBy}
use Rattle.strong_apa.specs.Certificate.{IsCertificate}
use Rattle.strong_apa.specs.Step.{IsNobodyInto, IsMostUrgentInto}
use Rattle.strong_apa.specs.History.{effect_of, state_after_left}

-- t is placed: the chain ends on an idle processor
pub record PlacedPasses (s : State) (t : ℕ) (chain : List ℕ) : Type 0 where
  pub ends : EndsIdle s t chain
  pub simple : IsSimple chain

-- t displaces a less urgent task: the chain ends on the processor of that task, and the set, which
-- has the mask of t, is full of tasks that are no less urgent than it and may run only within the
-- set
pub record DisplacedPasses (s : State) (t : ℕ) (chain : List ℕ) (out reach : ℕ) : Type 0 where
  pub ends : EndsOnTask s t out chain
  pub simple : IsSimple chain
  pub out_less_urgent : IsMoreUrgent s t out
  pub mask : Within (effective_mask s t) reach
  pub full : (p : ℕ) → IsTrue (has reach p) → (u : ℕ) × (task_on s p ≡ Some u)
      × Within (effective_mask s u) reach × (priority_of s u ≤ priority_of s out)

-- what t, which is absent, comes to passes; where t waits, the set certifies it
abbrev pub CamePasses : State → ℕ → Came → Type 0
CamePasses s t (Placed chain) = PlacedPasses s t chain
CamePasses s t (Displaced chain out reach) = DisplacedPasses s t chain out reach
CamePasses s t (Waits reach) = IsCertificate s t reach

-- t was absent, and what it comes to passes
pub record NewPasses (s : State) (t : ℕ) (reply : Reply) : Type 0 where
  pub absent : is_ready s t ≡ false
  pub came : Came
  pub answer : reply ≡ reply_of_came came
  pub passes : CamePasses s t came

-- t arrives, and the reply passes
abbrev pub ArrivalPasses : State → ℕ → Reply → Type 0
ArrivalPasses s t reply = ((is_ready s t ≡ true) × (reply ≡ AlreadyReady)) ⊎ NewPasses s t reply

-- no shift leads into the set from a processor outside
abbrev pub IsBackClosed : State → ℕ → Type 0
IsBackClosed s back = (p q : ℕ) → IsTrue (has back q) → CanShift s p q → IsTrue (has back p)

-- who comes in, where p has become idle in the state s: the most urgent waiting task that may run
-- on a processor of the set, by a back chain to p, or nobody, and then the chain is p alone
abbrev pub EnteringPasses : State → ℕ → Option ℕ → List ℕ → ℕ → Type 0
EnteringPasses s p None chain back = IsNobodyInto s back × (chain ≡ p ∷ [])
EnteringPasses s p (Some w) chain back =
    IsMostUrgentInto s back w × EntersBy s p w chain × IsSimple chain

-- who comes in passes, where p has become idle: the set has p, and no shift leads into it from
-- outside
pub record GonePasses (s : State) (p : ℕ) (gone : Gone) : Type 0 where
  pub has_place : IsTrue (has gone.back p)
  pub below : (q : ℕ) → IsTrue (has gone.back q) → q < s.processors
  pub closed : IsBackClosed s gone.back
  pub enters : EnteringPasses s p gone.entered gone.chain gone.back

-- t departs from a processor, and who comes in there passes
pub record LinkedPasses (s : State) (t : ℕ) (reply : Reply) : Type 0 where
  pub place : ℕ
  pub linked : task_on s place ≡ Some t
  pub gone : Gone
  pub answer : reply ≡ reply_of_gone gone
  pub passes : GonePasses (state_after_leaving s t) place gone

-- t departs, and the reply passes
abbrev pub DeparturePasses : State → ℕ → Reply → Type 0
DeparturePasses s t reply = ((is_ready s t ≡ false) × (reply ≡ NotReady))
    ⊎ ((IsWaiting s t × (reply ≡ Left)) ⊎ LinkedPasses s t reply)

-- t leaves: it had waited, or who comes in at its processor passes
abbrev pub LeavingPasses : State → ℕ → Option Gone → Type 0
LeavingPasses s t None = IsWaiting s t
LeavingPasses s t (Some gone) =
    (place : ℕ) × (task_on s place ≡ Some t) × GonePasses (state_after_leaving s t) place gone

-- t, which is ready, leaves, its mask changes while it is absent, and what it comes to passes
pub record ReturnPasses (s : State) (t mask : ℕ) (reply : Reply) : Type 0 where
  pub gone : Option Gone
  pub came : Came
  pub answer : reply ≡ Remasked gone came
  pub leaves : LeavingPasses s t gone
  pub passes : CamePasses (state_with_mask (state_after_left s t gone) t mask) t came

-- the mask of t changes, and the reply passes
abbrev pub AffinityPasses : State → ℕ → ℕ → Reply → Type 0
AffinityPasses s t mask reply =
    ((is_ready s t ≡ false) × (reply ≡ Masked)) ⊎ ReturnPasses s t mask reply

-- the task of p leaves, p goes off line while the task is absent, and what the task comes to passes
pub record MovedPasses (s : State) (p : ℕ) (reply : Reply) : Type 0 where
  pub moved : Moved
  pub occupied : task_on s p ≡ Some moved.task
  pub answer : reply ≡ Off (Some moved)
  pub passes : CamePasses (state_with_offline (state_after_leaving s moved.task) p)
      moved.task moved.came

-- p goes off line, and the reply passes
abbrev pub OfflinePasses : State → ℕ → Reply → Type 0
OfflinePasses s p reply = ((has s.online p ≡ false) × (reply ≡ AlreadyOff))
    ⊎ ((IsIdle s p × (reply ≡ Off None)) ⊎ MovedPasses s p reply)

-- p comes on line, and who comes in there passes
pub record FilledPasses (s : State) (p : ℕ) (reply : Reply) : Type 0 where
  pub off : has s.online p ≡ false
  pub parts : Gone
  pub answer : reply ≡ On parts
  pub passes : GonePasses (state_with_online s p) p parts

-- p comes on line, and the reply passes
abbrev pub OnlinePasses : State → ℕ → Reply → Type 0
OnlinePasses s p reply = ((has s.online p ≡ true) × (reply ≡ AlreadyOn)) ⊎ FilledPasses s p reply

-- the reply to an event of one of the tasks or processors passes; that to a tick is always the same
abbrev pub Passes : State → Event → Reply → Type 0
Passes s (Arrive t) reply = (t < task_count s) × ArrivalPasses s t reply
Passes s (Depart t) reply = (t < task_count s) × DeparturePasses s t reply
Passes s (Tick units) reply = reply ≡ Ticked
Passes s (Affinity t mask) reply =
    (t < task_count s) × IsMask s.processors mask × AffinityPasses s t mask reply
Passes s (Offline p) reply = (p < s.processors) × OfflinePasses s p reply
Passes s (Online p) reply = (p < s.processors) × OnlinePasses s p reply

-- each reply passes in the state to which those before it lead
abbrev pub IsPassingFrom : State → List Entry → Type 0
IsPassingFrom s [] = Unit {0}
IsPassingFrom s (entry ∷ rest) =
    Passes s entry.event entry.reply × IsPassingFrom (effect_of s entry) rest

-- a history of a set of tasks, of which all are absent at first, whose replies pass
abbrev pub IsPassing : SetData → List Entry → Type 0
IsPassing set history = IsPassingFrom (start_of set) history
