-- Where another scheduler has the tasks. Each task is seen on a processor, or nowhere. A linked
-- task claims the processor on which it is seen, where its effective mask has it. A table says who
-- of the claimants of each processor holds it: it is the state of the links, with the holders in
-- place of the linked tasks. A linked task that holds no processor is lost.
use Rattle.std.specs.Prelude.{◌≡◌, ◌≢◌, ℕ, ◌+◌, ◌≤◌, ◌⊎◌, ◌&&◌, not, zero, suc, Bool, true, false}
use Rattle.std.specs.Prelude.{List, length, get_or, Option, Some, None, IsTrue}
use Rattle.affinity_mask.specs.ProcSet.{has}
use Rattle.strong_apa.specs.State.{State, IsState, task_on, is_linked, is_ready, effective_mask}
use Rattle.strong_apa.specs.State.{priority_of, IsMoreUrgent}
use Rattle.strong_apa.specs.Ranks.{tasks_of}
use Rattle.strong_apa.specs.Chain.{IsLeastSuch, IsSimple, EndsIdle, state_after_shift}
use Rattle.live_core.specs.Moves.{MovesLead}
use Rattle.live_core.specs.Needed.{MovesOnce}
use Rattle.live_core.specs.declared.moves.Move.{Move}

-- by task the processor on which it is seen, if on any; the table of the holders, and whether it is
-- one of the links and of what is seen
pub record SeenData : Type 0 where
  pub seen : List (Option ℕ)
  pub table : State
  pub is_settled : Bool

-- the processor on which t is seen
abbrev pub seen_at : List (Option ℕ) → ℕ → Option ℕ
seen_at seen t = get_or seen t None

-- t is linked, and it is seen on q, which is on line and in its mask
pub record Claims (s : State) (seen : List (Option ℕ)) (t q : ℕ) : Type 0 where
  pub linked : is_linked s t ≡ true
  pub there : seen_at seen t ≡ Some q
  pub allowed : IsTrue (has (effective_mask s t) q)

-- t runs on q: of the linked tasks that are seen there, and may run there, it is the most urgent
pub record RunsOn (s : State) (seen : List (Option ℕ)) (t q : ℕ) : Type 0 where
  pub claims : Claims s seen t q
  pub most_urgent : (u : ℕ) → Claims s seen u q → priority_of s t ≤ priority_of s u

-- each linked task is seen on a processor of its mask that is on line, and no two of them on one
pub record AreAllApart (s : State) (seen : List (Option ℕ)) : Type 0 where
  pub each : (t : ℕ) → is_linked s t ≡ true → (q : ℕ) × Claims s seen t q
  pub apart : (t u q : ℕ) → Claims s seen t q → Claims s seen u q → t ≡ u

-- the table of the holders: each of them claims its processor, and each processor that is claimed
-- has a holder
pub record IsTable (s : State) (seen : List (Option ℕ)) (table : State) : Type 0 where
  pub same : table ≡ record s { on = table.on }
  pub state : IsState table
  pub holds : (q t : ℕ) → task_on table q ≡ Some t → Claims s seen t q
  pub covers : (q t : ℕ) → Claims s seen t q → (u : ℕ) × (task_on table q ≡ Some u)

-- each holder is the most urgent task that claims its processor
abbrev pub IsFresh : State → List (Option ℕ) → State → Type 0
IsFresh s seen table =
    (q t u : ℕ) → task_on table q ≡ Some t → Claims s seen u q → priority_of s t ≤ priority_of s u

-- t or the old holder of q holds q, whoever is more urgent, and all else stays
pub record IsTaken (s old : State) (t q : ℕ) (new : State) : Type 0 where
  pub holder : ℕ
  pub there : task_on new q ≡ Some holder
  pub which : (holder ≡ t) ⊎ (task_on old q ≡ Some holder)
  pub urgent : priority_of s holder ≤ priority_of s t
  pub before : (u : ℕ) → task_on old q ≡ Some u → priority_of s holder ≤ priority_of s u
  pub others : (r : ℕ) → r ≢ q → task_on new r ≡ task_on old r

-- t is linked, and holds no processor
pub record IsLost (s table : State) (t : ℕ) : Type 0 where
  pub linked : is_linked s t ≡ true
  pub nowhere : is_linked table t ≡ false

-- t is lost, and no lost task is more urgent
pub record IsMostUrgentLost (s table : State) (t : ℕ) : Type 0 where
  pub lost : IsLost s table t
  pub first : (u : ℕ) → IsLost s table u → priority_of s t ≤ priority_of s u

-- nobody is lost
abbrev pub IsNobodyLost : State → State → Type 0
IsNobodyLost s table = (t : ℕ) → IsLost s table t → ⊥

-- how many tasks are lost
abbrev pub lost_count : State → State → ℕ
lost_count s table = length (tasks_of s (λ t. is_linked s t && not (is_linked table t)))

-- a lost task gets a processor along a chain: the least one to a processor that nobody claims.
-- Whoever held a processor holds one then, and is seen there; whoever holds none stays where it was
-- seen. The moves lead to the new holders, and a task has one move where its processor changes, and
-- else none
pub record Helps (s : State) (t : ℕ) (old : SeenData) (chain : List ℕ) (moves : List Move)
    (new : SeenData) : Type 0 where
  pub lost : IsLost s old.table t
  pub least : IsLeastSuch (EndsIdle old.table t) chain
  pub simple : IsSimple chain
  pub shifted : new.table ≡ state_after_shift old.table t chain
  pub replays : MovesLead old.table.on moves new.table.on
  pub few : length moves ≤ length chain + 1
  pub once : (u : ℕ) → MovesOnce old.table.on new.table.on moves u
  pub moved : (q u : ℕ) → task_on new.table q ≡ Some u → seen_at new.seen u ≡ Some q
  pub others : (u : ℕ) → is_linked new.table u ≡ false → seen_at new.seen u ≡ seen_at old.seen u
  pub table : IsTable s new.seen new.table
  pub runs : is_linked new.table t ≡ true
  pub fewer : lost_count s old.table ≡ suc (lost_count s new.table)
  pub go_on : (u : ℕ) → is_linked old.table u ≡ true → is_linked new.table u ≡ true

-- there are at most n helps, one after another, and after n of them nobody is lost
abbrev pub EndsWithin : ℕ → State → SeenData → Type 0
EndsWithin zero s d = IsNobodyLost s d.table
EndsWithin (suc n) s d = (t : ℕ) (chain : List ℕ) (moves : List Move) (new : SeenData)
    → Helps s t d chain moves new → EndsWithin n s new

-- w is ready, and seen on q, which is on line and in its mask
pub record IsQueuedOn (s : State) (seen : List (Option ℕ)) (w q : ℕ) : Type 0 where
  pub ready : is_ready s w ≡ true
  pub there : seen_at seen w ≡ Some q
  pub allowed : IsTrue (has (effective_mask s w) q)

-- each linked task is more urgent than every other ready task that is seen on its processor and may
-- run there: so a kernel that runs the most urgent task of each processor runs just the linked
-- tasks
abbrev pub RunsJustLinked : State → List (Option ℕ) → Type 0
RunsJustLinked s seen =
    (q w : ℕ) → IsQueuedOn s seen w q → (t : ℕ) × Claims s seen t q × ((w ≢ t) → IsMoreUrgent s t w)
