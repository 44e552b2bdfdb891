-- How few running tasks an event moves. A task is moved where it runs before the event and after
-- it, and not on the same processor; a task that comes or goes is not. The linked tasks after the
-- event are the best set: this counts how many of them a placement moves.
use Rattle.std.specs.Prelude.{◌≡◌, ℕ, ◌+◌, ◌≤◌, Bool, true, ◌&&◌, not, List, length, Some}
use Rattle.std.specs.Prelude.{slice_get}
use Rattle.task_set.specs.TaskSet.{SetData, IsTaskSet}
use Rattle.task_set.specs.declared.event.Event.{Event}
use Rattle.task_set.specs.declared.event.Event.TheVariants.{Arrive, Depart, Tick, Affinity, Offline}
use Rattle.task_set.specs.declared.event.Event.TheVariants.{Online}
use Rattle.strong_apa.specs.declared.reply.Reply.{Reply}
use Rattle.strong_apa.specs.declared.reply.Entry.{Entry}
use Rattle.strong_apa.specs.State.{State, IsState, task_on, is_task, is_linked}
use Rattle.strong_apa.specs.Placement.{IsPlacement}
use Rattle.strong_apa.specs.Ranks.{tasks_of}
use Rattle.strong_apa.specs.CertificateLaws.{LinkedIsBest}
use Rattle.strong_apa.specs.Step.{SchedulerStep}
use Rattle.strong_apa.specs.History.{IsLegal, state_at}

-- t is linked before and after, and the placement has it on another processor than before
abbrev pub is_moved : State → State → (ℕ → ℕ) → ℕ → Bool
is_moved old new place t = is_linked old t && is_linked new t
    && not (is_task t (task_on old (place t)))

-- how many running tasks a placement moves
abbrev pub moved_count : State → State → (ℕ → ℕ) → ℕ
moved_count old new place = length (tasks_of old (is_moved old new place))

-- the placement that the links are: each linked task is on its processor
abbrev pub IsPlaceOf : State → (ℕ → ℕ) → Type 0
IsPlaceOf s place = (t : ℕ) → is_linked s t ≡ true → task_on s (place t) ≡ Some t

-- the links move no more running tasks than any other placement of the same tasks
abbrev pub MovesFewest : State → State → Type 0
MovesFewest old new = (own place : ℕ → ℕ)
    → IsPlaceOf new own → IsPlacement new (is_linked new) place
    → moved_count old new own ≤ moved_count old new place

-- the event changes no mask
abbrev pub ChangesNoMask : Event → Type 0
ChangesNoMask (Arrive t) = Unit {0}
ChangesNoMask (Depart t) = Unit {0}
ChangesNoMask (Tick units) = Unit {0}
ChangesNoMask (Affinity t mask) = ⊥
ChangesNoMask (Offline p) = Unit {0}
ChangesNoMask (Online p) = Unit {0}

-- from a state whose linked tasks are the best set, each step but a change of a mask moves fewest
abbrev pub StepMovesFewest : Type 0
StepMovesFewest = (s : State) (event : Event) (reply : Reply) (new : State)
    → IsState s → LinkedIsBest s → SchedulerStep s event reply new → ChangesNoMask event
    → MovesFewest s new

-- so does each entry of a legal history
abbrev pub LegalMovesFewest : Type 0
LegalMovesFewest = (set : SetData) (history : List Entry) (n : ℕ) (entry : Entry)
    → IsTaskSet set → IsLegal set history
    → slice_get history n ≡ Some entry → ChangesNoMask entry.event
    → MovesFewest (state_at set history n) (state_at set history (n + 1))
