-- What the scheduler does at an event. An arriving task is shifted along its least chain to an idle
-- processor, else along its least chain to the least urgent task that it reaches where that one is
-- less urgent, else it waits; when a task leaves a processor, the most urgent waiting task that can
-- be shifted there comes in, along its least back chain. A ready task whose mask changes leaves,
-- and arrives again with the new mask; so does the task of a processor that goes off line; a
-- processor that comes on line has become idle. The reply says which case it was: what an arrival
-- came to, or who came in.
use Rattle.std.specs.Prelude.{◌≡◌, ℕ, ◌<◌, ◌≤◌, ◌⊎◌, true, false, List, [], ◌∷◌, reverse, IsTrue}
use Rattle.std.specs.Prelude.{Option, Some, None}
use Rattle.affinity_mask.specs.ProcSet.{has}
use Rattle.task_set.specs.TaskSet.{IsMask}
use Rattle.task_set.specs.Event.{IsOfSystem}
use Rattle.task_set.specs.declared.event.Event.{Event}
use Rattle.task_set.specs.declared.event.Event.TheVariants.{Arrive, Depart, Tick, Affinity, Offline}
use Rattle.task_set.specs.declared.event.Event.TheVariants.{Online}
use Rattle.strong_apa.specs.declared.reply.Came.{Came}
use Rattle.strong_apa.specs.declared.reply.Came.TheVariants.{Placed, Displaced, Waits}
use Rattle.strong_apa.specs.declared.reply.Gone.{Gone}
use Rattle.strong_apa.specs.declared.reply.Reply.{Reply}
use Rattle.strong_apa.specs.declared.reply.Moved.{Moved}
use Rattle.strong_apa.specs.declared.reply.Reply.TheVariants.{Left, Ticked, AlreadyReady, NotReady}
use Rattle.strong_apa.specs.declared.reply.Reply.TheVariants.{Masked, Remasked, AlreadyOff}
use Rattle.strong_apa.specs.declared.reply.Reply.TheVariants.{AlreadyOn, Off, On}
use Rattle.strong_apa.specs.Reply.{reply_of_came, reply_of_gone}
use Rattle.strong_apa.specs.State.{State, task_on, task_count, is_ready, priority_of, IsIdle}
use Rattle.strong_apa.specs.State.{IsWaiting, IsMoreUrgent, state_with_ready, state_with_absent}
use Rattle.strong_apa.specs.State.{state_with_mask, state_with_online, state_with_offline}
use Rattle.strong_apa.specs.State.{state_after_leaving}
use Rattle.strong_apa.specs.Chain.{IsReach, IsBackReach, IsLeastSuch, EndsIdle, EndsOnTask}
use Rattle.strong_apa.specs.Chain.{EntersBy, CanEnterAt, Shifted}

-- each processor of the set is occupied
abbrev pub IsOccupied : State → ℕ → Type 0
IsOccupied s set = (p : ℕ) → IsTrue (has set p) → (u : ℕ) × (task_on s p ≡ Some u)

-- d is the least urgent occupant of the set
pub record IsLeastUrgentOn (s : State) (set d : ℕ) : Type 0 where
  pub there : (p : ℕ) × IsTrue (has set p) × (task_on s p ≡ Some d)
  pub least_urgent : (p u : ℕ) → IsTrue (has set p) → task_on s p ≡ Some u
      → priority_of s u ≤ priority_of s d

-- no processor of the set is occupied
abbrev pub IsNobodyOn : State → ℕ → Type 0
IsNobodyOn s set = (p u : ℕ) → IsTrue (has set p) → task_on s p ≡ Some u → ⊥

-- t reaches an idle processor: it is shifted along the least of all its chains to idle processors
pub record ComesPlaced (s : State) (t : ℕ) (chain : List ℕ) (new : State) : Type 0 where
  pub least : IsLeastSuch (EndsIdle s t) chain
  pub shifted : Shifted (state_with_ready s t) t chain new

-- t reaches no idle processor, but less urgent tasks: it is shifted along its least chain to the
-- least urgent of them, which waits then
pub record ComesDisplaced (s : State) (t : ℕ) (chain : List ℕ) (out reach : ℕ)
    (new : State) : Type 0 where
  pub reached : IsReach s t reach
  pub occupied : IsOccupied s reach
  pub out_there : IsLeastUrgentOn s reach out
  pub out_less_urgent : IsMoreUrgent s t out
  pub least : IsLeastSuch (EndsOnTask s t out) chain
  pub shifted : Shifted (state_with_ready s t) t chain new

-- t reaches more urgent tasks alone: it waits
pub record ComesWaits (s : State) (t reach : ℕ) (new : State) : Type 0 where
  pub reached : IsReach s t reach
  pub more_urgent : (p : ℕ) → IsTrue (has reach p) → (u : ℕ) × (task_on s p ≡ Some u)
      × IsMoreUrgent s u t
  pub waits : new ≡ state_with_ready s t

-- what t, which is absent, comes to once it becomes ready
abbrev pub Comes : State → ℕ → Came → State → Type 0
Comes s t (Placed chain) new = ComesPlaced s t chain new
Comes s t (Displaced chain out reach) new = ComesDisplaced s t chain out reach new
Comes s t (Waits reach) new = ComesWaits s t reach new

-- t was ready before, and nothing changes
pub record ArrivesAgain (s : State) (t : ℕ) (reply : Reply) (new : State) : Type 0 where
  pub ready : is_ready s t ≡ true
  pub answer : reply ≡ AlreadyReady
  pub same : new ≡ s

-- t was absent, and comes to what the reply says
pub record Arrives (s : State) (t : ℕ) (reply : Reply) (new : State) : Type 0 where
  pub absent : is_ready s t ≡ false
  pub came : Came
  pub answer : reply ≡ reply_of_came came
  pub comes : Comes s t came new

-- t arrives, with this reply
abbrev pub ArriveStep : State → ℕ → Reply → State → Type 0
ArriveStep s t reply new = ArrivesAgain s t reply new ⊎ Arrives s t reply new

-- w waits, and can enter at a processor of the set
abbrev pub CanEnterInto : State → ℕ → ℕ → Type 0
CanEnterInto s set w = IsWaiting s w × ((p : ℕ) × IsTrue (has set p) × CanEnterAt s w p)

-- no waiting task can enter at a processor of the set
abbrev pub IsNobodyInto : State → ℕ → Type 0
IsNobodyInto s set = (w p : ℕ) → IsWaiting s w → IsTrue (has set p) → CanEnterAt s w p → ⊥

-- w is the most urgent waiting task that can enter at a processor of the set
pub record IsMostUrgentInto (s : State) (back w : ℕ) : Type 0 where
  pub waits : IsWaiting s w
  pub there : (p : ℕ) × IsTrue (has back p) × CanEnterAt s w p
  pub most_urgent : (v p : ℕ) → IsWaiting s v → IsTrue (has back p) → CanEnterAt s v p
      → priority_of s w ≤ priority_of s v

-- who comes in, where p has become idle in the state s: the most urgent waiting task that can,
-- along its least back chain, or nobody, and then the chain is p alone
abbrev pub EnterStep : State → ℕ → Option ℕ → List ℕ → ℕ → State → Type 0
EnterStep s p None chain back new = IsNobodyInto s back × (chain ≡ p ∷ []) × (new ≡ s)
EnterStep s p (Some w) chain back new =
    IsMostUrgentInto s back w × IsLeastSuch (EntersBy s p w) chain × Shifted s w (reverse chain) new

-- what came of it that p became idle in the state s: whom back chains let in, and who came in
pub record Fills (s : State) (p : ℕ) (gone : Gone) (new : State) : Type 0 where
  pub reached : IsBackReach s p gone.back
  pub enters : EnterStep s p gone.entered gone.chain gone.back new

-- t was absent before, and nothing changes
pub record DepartsAgain (s : State) (t : ℕ) (reply : Reply) (new : State) : Type 0 where
  pub absent : is_ready s t ≡ false
  pub answer : reply ≡ NotReady
  pub same : new ≡ s

-- t departs, and had waited
pub record DepartsWaiting (s : State) (t : ℕ) (reply : Reply) (new : State) : Type 0 where
  pub waits : IsWaiting s t
  pub answer : reply ≡ Left
  pub left : new ≡ state_with_absent s t

-- t departs from a processor, which others fill
pub record DepartsLinked (s : State) (t : ℕ) (reply : Reply) (new : State) : Type 0 where
  pub place : ℕ
  pub linked : task_on s place ≡ Some t
  pub gone : Gone
  pub answer : reply ≡ reply_of_gone gone
  pub fills : Fills (state_after_leaving s t) place gone new

-- t departs, with this reply
abbrev pub DepartStep : State → ℕ → Reply → State → Type 0
DepartStep s t reply new =
    DepartsAgain s t reply new ⊎ (DepartsWaiting s t reply new ⊎ DepartsLinked s t reply new)

-- t was absent, and its mask changes
pub record MasksAbsent (s : State) (t mask : ℕ) (reply : Reply) (new : State) : Type 0 where
  pub absent : is_ready s t ≡ false
  pub answer : reply ≡ Masked
  pub masked : new ≡ state_with_mask s t mask

-- t, which is ready, becomes absent: it had waited, or it leaves a processor, which others fill
abbrev pub LeaveStep : State → ℕ → Option Gone → State → Type 0
LeaveStep s t None new = IsWaiting s t × (new ≡ state_with_absent s t)
LeaveStep s t (Some gone) new =
    (place : ℕ) × (task_on s place ≡ Some t) × Fills (state_after_leaving s t) place gone new

-- t was ready: it leaves, its mask changes while it is absent, and it comes back
pub record Remasks (s : State) (t mask : ℕ) (reply : Reply) (new : State) : Type 0 where
  pub gone : Option Gone
  pub came : Came
  pub answer : reply ≡ Remasked gone came
  pub between : State
  pub leaves : LeaveStep s t gone between
  pub comes : Comes (state_with_mask between t mask) t came new

-- the mask of t changes, with this reply
abbrev pub AffinityStep : State → ℕ → ℕ → Reply → State → Type 0
AffinityStep s t mask reply new = MasksAbsent s t mask reply new ⊎ Remasks s t mask reply new

-- p was off line before, and nothing changes
pub record OffAgain (s : State) (p : ℕ) (reply : Reply) (new : State) : Type 0 where
  pub off : has s.online p ≡ false
  pub answer : reply ≡ AlreadyOff
  pub same : new ≡ s

-- p was idle, and goes off line
pub record OffIdle (s : State) (p : ℕ) (reply : Reply) (new : State) : Type 0 where
  pub idle : IsIdle s p
  pub answer : reply ≡ Off None
  pub off : new ≡ state_with_offline s p

-- p was occupied: its task leaves, p goes off line while the task is absent, and the task comes
-- back
pub record OffOccupied (s : State) (p : ℕ) (reply : Reply) (new : State) : Type 0 where
  pub moved : Moved
  pub occupied : task_on s p ≡ Some moved.task
  pub answer : reply ≡ Off (Some moved)
  pub comes : Comes (state_with_offline (state_after_leaving s moved.task) p)
      moved.task moved.came new

-- p goes off line, with this reply
abbrev pub OfflineStep : State → ℕ → Reply → State → Type 0
OfflineStep s p reply new =
    OffAgain s p reply new ⊎ (OffIdle s p reply new ⊎ OffOccupied s p reply new)

-- p was on line before, and nothing changes
pub record OnAgain (s : State) (p : ℕ) (reply : Reply) (new : State) : Type 0 where
  pub on : has s.online p ≡ true
  pub answer : reply ≡ AlreadyOn
  pub same : new ≡ s

-- p was off line: it comes on line, and others fill it
pub record OnFills (s : State) (p : ℕ) (reply : Reply) (new : State) : Type 0 where
  pub off : has s.online p ≡ false
  pub parts : Gone
  pub answer : reply ≡ On parts
  pub fills : Fills (state_with_online s p) p parts new

-- p comes on line, with this reply
abbrev pub OnlineStep : State → ℕ → Reply → State → Type 0
OnlineStep s p reply new = OnAgain s p reply new ⊎ OnFills s p reply new

-- the event is of the processors and the tasks of the state
abbrev pub IsEventFor : State → Event → Type 0
IsEventFor s event = IsOfSystem s.processors (task_count s) event

-- the scheduler's step at an event of one of the tasks or processors; a tick changes nothing
abbrev pub SchedulerStep : State → Event → Reply → State → Type 0
SchedulerStep s (Arrive t) reply new = (t < task_count s) × ArriveStep s t reply new
SchedulerStep s (Depart t) reply new = (t < task_count s) × DepartStep s t reply new
SchedulerStep s (Tick units) reply new = (reply ≡ Ticked) × (new ≡ s)
SchedulerStep s (Affinity t mask) reply new =
    (t < task_count s) × IsMask s.processors mask × AffinityStep s t mask reply new
SchedulerStep s (Offline p) reply new = (p < s.processors) × OfflineStep s p reply new
SchedulerStep s (Online p) reply new = (p < s.processors) × OnlineStep s p reply new
