-- No move is needless. At all events but a change of a mask a task has one move where its processor
-- changes, and else none; only the task of a processor that goes off line may stop and start again.
-- At no event has a task a move that runs neither before nor after it.
use Rattle.std.specs.Prelude.{◌≡◌, ℕ, ◌+◌, ◌≤◌, ◌↔◌, List, [], ◌∷◌, length, Option, Some, None}
use Rattle.std.specs.Prelude.{if◌then◌else◌, ◌==◌}
use Rattle.task_set.specs.declared.event.Event.{Event}
use Rattle.task_set.specs.declared.event.Event.TheVariants.{Arrive, Depart, Tick, Affinity, Offline}
use Rattle.task_set.specs.declared.event.Event.TheVariants.{Online}
use Rattle.strong_apa.specs.declared.reply.Reply.{Reply}
use Rattle.strong_apa.specs.declared.reply.Moved.{Moved}
use Rattle.strong_apa.specs.Reply.{chain_of}
use Rattle.live_core.specs.Moves.{occupant_at, IsNowhere}
use Rattle.live_core.specs.MoveData.{moved_of}
use Rattle.live_core.specs.declared.moves.Move.{Move}
use Rattle.live_core.specs.declared.moves.Move.TheVariants.{Start, Shift, Stop}

-- the task of a move
abbrev pub task_in : Move → ℕ
task_in (Start t to) = t
task_in (Shift t from to) = t
task_in (Stop t from) = t

-- how many of the moves are of the task t
abbrev pub count_of : ℕ → List Move → ℕ
count_of t [] = 0
count_of t (move ∷ rest) = (if task_in move == t then 1 else 0) + count_of t rest

-- t is after the moves where it was before them
abbrev pub Stays : List (Option ℕ) → List (Option ℕ) → ℕ → Type 0
Stays old new t = (p : ℕ) → (occupant_at old p ≡ Some t) ↔ (occupant_at new p ≡ Some t)

-- t has no move where it stays, and else one
pub record MovesOnce (old new : List (Option ℕ)) (moves : List Move) (t : ℕ) : Type 0 where
  pub most : count_of t moves ≤ 1
  pub stays : (count_of t moves ≡ 0) ↔ Stays old new t

-- the event is no change of a mask
abbrev pub IsNoMaskChange : Event → Type 0
IsNoMaskChange (Affinity t mask) = ⊥
IsNoMaskChange (Arrive t) = Unit {0}
IsNoMaskChange (Depart t) = Unit {0}
IsNoMaskChange (Tick units) = Unit {0}
IsNoMaskChange (Offline p) = Unit {0}
IsNoMaskChange (Online p) = Unit {0}

-- t had to leave a processor that went off line
abbrev pub HadToLeave : Option Moved → ℕ → Type 0
HadToLeave None t = ⊥
HadToLeave (Some moved) t = moved.task ≡ t

-- the moves of an event with this reply, which lead from the old occupants to the new ones
pub record AreNeeded (event : Event) (reply : Reply) (old new : List (Option ℕ))
    (moves : List Move) : Type 0 where
  pub once : IsNoMaskChange event → (t : ℕ) → ¬ HadToLeave (moved_of reply) t
      → MovesOnce old new moves t
  pub twice : (t : ℕ) → count_of t moves ≤ 2
  pub few : length moves ≤ length (chain_of reply) + 2
  pub idle : (t : ℕ) → IsNowhere old t → IsNowhere new t → count_of t moves ≡ 0
