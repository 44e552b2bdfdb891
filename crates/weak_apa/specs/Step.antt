-- What the weak scheduler does at an event. An arriving task goes on the least idle processor of
-- its own effective mask; where there is none it takes the processor of the least urgent task
-- there, where that one is less urgent, and whom it displaces is placed in turn; else it waits. No
-- running task moves aside for another. When a task leaves a processor, the most urgent waiting
-- task that may run there goes on it. A ready task whose mask changes leaves, and arrives again
-- with the new mask; so does the task of a processor that goes off line; a processor that comes on
-- line has become idle.
use Rattle.std.specs.Prelude.{◌≡◌, ℕ, ◌<◌, ◌≤◌, ◌⊎◌, true, false, List, [], ◌∷◌, IsTrue, Option}
use Rattle.std.specs.Prelude.{Some, None}
use Rattle.affinity_mask.specs.ProcSet.{has}
use Rattle.task_set.specs.TaskSet.{IsMask}
use Rattle.task_set.specs.declared.event.Event.{Event}
use Rattle.task_set.specs.declared.event.Event.TheVariants.{Arrive, Depart, Tick, Affinity, Offline}
use Rattle.task_set.specs.declared.event.Event.TheVariants.{Online}
use Rattle.strong_apa.specs.State.{State, task_on, task_count, is_ready, priority_of}
use Rattle.strong_apa.specs.State.{effective_mask, IsIdle, IsWaiting, IsMoreUrgent}
use Rattle.strong_apa.specs.State.{state_with_ready, state_with_absent, state_with_mask}
use Rattle.strong_apa.specs.State.{state_with_online, state_with_offline, state_after_leaving}
use Rattle.strong_apa.specs.Chain.{CanEnterAt, Shifted}
use Rattle.strong_apa.specs.Step.{IsOccupied, IsLeastUrgentOn}
use Rattle.weak_apa.specs.Stable.{IsKeptOut}

-- x goes on p, and whoever was there waits then: a shift along the chain of this one processor
abbrev pub TakesProcessor : State → ℕ → ℕ → State → Type 0
TakesProcessor s x p new = Shifted s x (p ∷ []) new

-- x finds an idle processor in its effective mask, and goes on the least one
pub record FindsIdle (s : State) (x : ℕ) (new : State) : Type 0 where
  pub place : ℕ
  pub there : IsTrue (has (effective_mask s x) place)
  pub idle : IsIdle s place
  pub least : (p : ℕ) → IsTrue (has (effective_mask s x) p) → IsIdle s p → place ≤ p
  pub goes : TakesProcessor s x place new

-- x finds no idle processor in its effective mask, and takes the processor of the least urgent task
-- there, which is less urgent
pub record WeaklyDisplaces (s : State) (x out : ℕ) (new : State) : Type 0 where
  pub occupied : IsOccupied s (effective_mask s x)
  pub out_there : IsLeastUrgentOn s (effective_mask s x) out
  pub out_less_urgent : IsMoreUrgent s x out
  pub place : ℕ
  pub on : task_on s place ≡ Some out
  pub goes : TakesProcessor s x place new

-- x finds more urgent tasks alone on the processors of its effective mask, and waits
abbrev pub KeepsWaiting : State → ℕ → State → Type 0
KeepsWaiting s x new = IsKeptOut s x × (new ≡ s)

-- one turn of x, which waits: it displaces a task; or it finds an idle processor, or waits, and
-- displaces none
abbrev pub IsTurn : State → ℕ → Option ℕ → State → Type 0
IsTurn s x None new = FindsIdle s x new ⊎ KeepsWaiting s x new
IsTurn s x (Some out) new = WeaklyDisplaces s x out new

-- x is placed in turns: it displaces the first task of the list, which has the next turn, and so
-- on; the last one displaces none
abbrev pub IsPlacedInTurns : State → ℕ → List ℕ → State → Type 0
IsPlacedInTurns s x [] new = IsTurn s x None new
IsPlacedInTurns s x (out ∷ rest) new =
    (between : State) × IsTurn s x (Some out) between × IsPlacedInTurns between out rest new

-- t, which is absent, becomes ready, and is placed in turns
abbrev pub WeaklyComes : State → ℕ → State → Type 0
WeaklyComes s t new = (displaced : List ℕ) × IsPlacedInTurns (state_with_ready s t) t displaced new

-- w is the most urgent waiting task that may run on p
pub record IsMostUrgentAt (s : State) (p w : ℕ) : Type 0 where
  pub waits : IsWaiting s w
  pub enters : CanEnterAt s w p
  pub most_urgent : (v : ℕ) → IsWaiting s v → CanEnterAt s v p → priority_of s w ≤ priority_of s v

-- no waiting task may run on p
abbrev pub IsNobodyAt : State → ℕ → Type 0
IsNobodyAt s p = (w : ℕ) → IsWaiting s w → CanEnterAt s w p → ⊥

-- p has become idle in the state s: the most urgent waiting task that may run on p goes on it, or
-- there is none
abbrev pub WeaklyFills : State → ℕ → State → Type 0
WeaklyFills s p new =
    (IsNobodyAt s p × (new ≡ s)) ⊎ ((w : ℕ) × IsMostUrgentAt s p w × TakesProcessor s w p new)

-- t, which is linked, leaves its processor, which another one may fill
pub record LeavesProcessor (s : State) (t : ℕ) (new : State) : Type 0 where
  pub place : ℕ
  pub on : task_on s place ≡ Some t
  pub fills : WeaklyFills (state_after_leaving s t) place new

-- t, which is ready, becomes absent: it had waited, or it leaves a processor
abbrev pub WeaklyLeaves : State → ℕ → State → Type 0
WeaklyLeaves s t new = (IsWaiting s t × (new ≡ state_with_absent s t)) ⊎ LeavesProcessor s t new

-- t arrives: it was ready, and nothing changes, or it was absent, and comes
abbrev pub WeaklyArrives : State → ℕ → State → Type 0
WeaklyArrives s t new =
    ((is_ready s t ≡ true) × (new ≡ s)) ⊎ ((is_ready s t ≡ false) × WeaklyComes s t new)

-- t departs: it was absent, and nothing changes, or it leaves
abbrev pub WeaklyDeparts : State → ℕ → State → Type 0
WeaklyDeparts s t new = ((is_ready s t ≡ false) × (new ≡ s)) ⊎ WeaklyLeaves s t new

-- t was ready: it leaves, its mask changes while it is absent, and it comes back
pub record WeaklyRemasks (s : State) (t mask : ℕ) (new : State) : Type 0 where
  pub between : State
  pub leaves : WeaklyLeaves s t between
  pub comes : WeaklyComes (state_with_mask between t mask) t new

-- the mask of t changes
abbrev pub WeaklyMasks : State → ℕ → ℕ → State → Type 0
WeaklyMasks s t mask new =
    ((is_ready s t ≡ false) × (new ≡ state_with_mask s t mask)) ⊎ WeaklyRemasks s t mask new

-- p was occupied: its task leaves, p goes off line while the task is absent, and the task comes
-- back
pub record WeaklyMoves (s : State) (p : ℕ) (new : State) : Type 0 where
  pub task : ℕ
  pub on : task_on s p ≡ Some task
  pub comes : WeaklyComes (state_with_offline (state_after_leaving s task) p) task new

-- p goes off line: it was off line, and nothing changes, or it was idle, or occupied
abbrev pub WeaklyGoesOff : State → ℕ → State → Type 0
WeaklyGoesOff s p new = ((has s.online p ≡ false) × (new ≡ s))
    ⊎ ((IsIdle s p × (new ≡ state_with_offline s p)) ⊎ WeaklyMoves s p new)

-- p comes on line: it was on line, and nothing changes, or it was off line, and is filled
abbrev pub WeaklyComesOn : State → ℕ → State → Type 0
WeaklyComesOn s p new = ((has s.online p ≡ true) × (new ≡ s))
    ⊎ ((has s.online p ≡ false) × WeaklyFills (state_with_online s p) p new)

-- the weak scheduler's step at an event of one of the tasks or processors; a tick changes nothing
abbrev pub WeakStep : State → Event → State → Type 0
WeakStep s (Arrive t) new = (t < task_count s) × WeaklyArrives s t new
WeakStep s (Depart t) new = (t < task_count s) × WeaklyDeparts s t new
WeakStep s (Tick units) new = new ≡ s
WeakStep s (Affinity t mask) new =
    (t < task_count s) × IsMask s.processors mask × WeaklyMasks s t mask new
WeakStep s (Offline p) new = (p < s.processors) × WeaklyGoesOff s p new
WeakStep s (Online p) new = (p < s.processors) × WeaklyComesOn s p new

-- the event itself, before anybody is placed: who is ready, the mask of a task, which processors
-- are on line
abbrev pub state_with_event : State → Event → State
state_with_event s (Arrive t) = state_with_ready s t
state_with_event s (Depart t) = state_with_absent s t
state_with_event s (Tick units) = s
state_with_event s (Affinity t mask) = state_with_mask s t mask
state_with_event s (Offline p) = state_with_offline s p
state_with_event s (Online p) = state_with_online s p

-- a state but for its links
abbrev pub without_links : State → State
without_links s = record s { on = [] }

-- but for the links, the event has changed what it says, and nothing else
abbrev pub Follows : State → Event → State → Type 0
Follows old event new = without_links new ≡ without_links (state_with_event old event)
