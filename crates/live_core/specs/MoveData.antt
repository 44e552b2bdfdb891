-- The list of moves as it grows. Occupants are passed on along a chain of processors: each goes on
-- the next processor, and a guest on the first.
use Rattle.std.specs.Prelude.{◌≡◌, ℕ, ◌+◌, ◌-◌, ◌<◌, ◌≤◌, List, [], ◌∷◌, ◌++◌, length, reverse}
use Rattle.std.specs.Prelude.{slice_index, set, Option, Some, None, if◌then◌else◌, ◌==◌}
use Rattle.std.specs.Option.{ForSome}
use Rattle.task_set.specs.declared.event.Event.{Event}
use Rattle.task_set.specs.declared.event.Event.TheVariants.{Arrive, Depart, Tick, Affinity, Offline}
use Rattle.task_set.specs.declared.event.Event.TheVariants.{Online}
use Rattle.strong_apa.specs.declared.reply.Reply.{Reply}
use Rattle.strong_apa.specs.declared.reply.Reply.TheVariants.{Freed, Remasked, Off, On}
use Rattle.strong_apa.specs.declared.reply.Moved.{Moved}
use Rattle.strong_apa.specs.Reply.{came_chain, filling_chain, coming_chain}
use Rattle.strong_apa.specs.State.{State, IsState}
use Rattle.strong_apa.specs.Chain.{IsSimple}
use Rattle.strong_apa.specs.Step.{SchedulerStep}
use Rattle.live_core.specs.Moves.{MovesLead, occupant_at, IsNowhere}
use Rattle.live_core.specs.declared.moves.Move.{Move}
use Rattle.live_core.specs.declared.moves.Move.TheVariants.{Start, Shift, Stop}

-- the occupants, and the moves that led to them
pub record MoveData : Type 0 where
  pub occupants : List (Option ℕ)
  pub moves : List Move

-- at most so many moves were added, which lead from the old occupants to the new ones
pub record DoesMore (most : ℕ) (old new : MoveData) : Type 0 where
  pub more : List Move
  pub added : new.moves ≡ old.moves ++ more
  pub few : length more ≤ most
  pub replays : MovesLead old.occupants more new.occupants

-- each processor of the chain is there, none stands twice, and each but the last has somebody
pub record CanPassOn (occupants : List (Option ℕ)) (chain : List ℕ) : Type 0 where
  pub simple : IsSimple chain
  pub below : (i : ℕ) → i < length chain → slice_index chain i < length occupants
  pub somebody : (i : ℕ) → i + 1 < length chain
      → (u : ℕ) × (occupant_at occupants (slice_index chain i) ≡ Some u)

-- who is on p once the guest goes on the first processor of the chain, and each occupant on the
-- next one
abbrev pub occupant_passed : List (Option ℕ) → Option ℕ → List ℕ → ℕ → Option ℕ
occupant_passed occupants guest [] p = occupant_at occupants p
occupant_passed occupants guest (q ∷ rest) p =
    if p == q then guest else occupant_passed occupants (occupant_at occupants q) rest p

-- the occupants can be passed on along the chain, which leads to those after it
pub record PassesOn (occupants : List (Option ℕ)) (guest : Option ℕ) (chain : List ℕ)
    (after : List (Option ℕ)) : Type 0 where
  pub can : CanPassOn occupants chain
  pub nowhere : 0 < length chain → ForSome guest (IsNowhere occupants)
  pub fits : length chain ≤ 64
  pub count : length after ≡ length occupants
  pub passed : (p : ℕ) → p < length occupants
      → occupant_at after p ≡ occupant_passed occupants guest chain p

-- the task that a reply lets in where a processor was left
abbrev pub entered_by : Reply → Option ℕ
entered_by (Freed entered chain back) = entered
entered_by (Remasked (Some gone) came) = gone.entered
entered_by (On parts) = parts.entered
entered_by _ = None

-- the task that had to leave a processor that went off line
abbrev pub moved_of : Reply → Option Moved
moved_of (Off moved) = moved
moved_of _ = None

-- the occupants can be passed on along one chain, and then along another, which leads to those
-- after both
abbrev pub PassesOnTwice : List (Option ℕ) → Option ℕ → List ℕ → Option ℕ → List ℕ → List (Option ℕ)
    → Type 0
PassesOnTwice occupants first one second two after = (between : List (Option ℕ))
    × PassesOn occupants first one between × PassesOn between second two after

-- p goes off line, and its task, if it has one, comes back
abbrev pub OfflinePassesOn : List (Option ℕ) → ℕ → Option Moved → List (Option ℕ) → Type 0
OfflinePassesOn occupants p None after = occupants ≡ after
OfflinePassesOn occupants p (Some moved) after =
    PassesOnTwice occupants None (p ∷ []) (Some moved.task) (came_chain moved.came) after

-- the event with this reply leads from links with these occupants to links with those after it
pub record EventLeadsTo (occupants : List (Option ℕ)) (event : Event) (reply : Reply)
    (after : List (Option ℕ)) : Type 0 where
  pub old : State
  pub new : State
  pub state : IsState old
  pub before : old.on ≡ occupants
  pub step : SchedulerStep old event reply new
  pub links : new.on ≡ after

-- ---- the moves, one by one
-- whoever is on p, if somebody is, stops
abbrev pub stop_of : Option ℕ → ℕ → List Move
stop_of None p = []
stop_of (Some t) p = Stop t p ∷ []

-- whoever is on p, if somebody is, goes to q
abbrev pub shift_of : Option ℕ → ℕ → ℕ → List Move
shift_of None p q = []
shift_of (Some t) p q = Shift t p q ∷ []

-- the guest, if there is one, starts on p
abbrev pub start_of_guest : Option ℕ → ℕ → List Move
start_of_guest None p = []
start_of_guest (Some t) p = Start t p ∷ []

-- the occupant of each processor of a chain but the last goes on the next one, from the end on
abbrev pub shifts_along : List (Option ℕ) → List ℕ → List Move
shifts_along on [] = []
shifts_along on (p ∷ []) = []
shifts_along on (p ∷ q ∷ rest) = shifts_along on (q ∷ rest) ++ shift_of (occupant_at on p) p q

-- the last processor of a chain
abbrev pub last_of : List ℕ → ℕ
last_of chain = slice_index chain (length chain - 1)

-- the occupant of the last processor stops, those of the others go on the next one, and the guest
-- starts on the first
abbrev pub passing_moves : List (Option ℕ) → Option ℕ → List ℕ → List Move
passing_moves on guest [] = []
passing_moves on guest (p ∷ rest) =
    (stop_of (occupant_at on (last_of (p ∷ rest))) (last_of (p ∷ rest))
    ++ shifts_along (set on (last_of (p ∷ rest)) None) (p ∷ rest)) ++ start_of_guest guest p

-- no task is on two processors
abbrev pub IsOnce : List (Option ℕ) → Type 0
IsOnce on = (p q t : ℕ) → occupant_at on p ≡ Some t → occupant_at on q ≡ Some t → p ≡ q

-- occupants that are passed on along one chain, and then along another
abbrev pub AreMovesTwice : List (Option ℕ) → Option ℕ → List ℕ → Option ℕ → List ℕ → List Move
    → Type 0
AreMovesTwice on first one second two moves =
    (between : List (Option ℕ)) → PassesOn on first one between
    → (moves ≡ passing_moves on first one ++ passing_moves between second two)
    × (IsOnce on → IsOnce between)

-- what there is to do where p goes off line
abbrev pub AreOfflineMoves : List (Option ℕ) → ℕ → Option Moved → List Move → Type 0
AreOfflineMoves on p None moves = moves ≡ []
AreOfflineMoves on p (Some moved) moves =
    AreMovesTwice on None (p ∷ []) (Some moved.task) (came_chain moved.came) moves

-- the guest of a first chain; nobody, where a second chain ends on the processor on which the guest
-- would start, and so would stop at once
abbrev pub guest_who_stays : Option ℕ → List ℕ → List ℕ → Option ℕ
guest_who_stays guest [] two = guest
guest_who_stays guest (p ∷ rest) [] = guest
guest_who_stays guest (p ∷ rest) (q ∷ more) = if p == last_of (q ∷ more) then None else guest

-- the moves of an event with its reply
abbrev pub AreMovesFor : List (Option ℕ) → Event → Reply → List Move → Type 0
AreMovesFor on (Arrive t) reply moves = moves ≡ passing_moves on (Some t) (coming_chain reply)
AreMovesFor on (Depart t) reply moves =
    moves ≡ passing_moves on (entered_by reply) (reverse (filling_chain reply))
AreMovesFor on (Online p) reply moves =
    moves ≡ passing_moves on (entered_by reply) (reverse (filling_chain reply))
AreMovesFor on (Tick units) reply moves = moves ≡ []
AreMovesFor on (Affinity t mask) reply moves =
    AreMovesTwice on (guest_who_stays (entered_by reply) (reverse (filling_chain reply))
    (coming_chain reply)) (reverse (filling_chain reply)) (Some t)
    (coming_chain reply) moves
AreMovesFor on (Offline p) reply moves = AreOfflineMoves on p (moved_of reply) moves
