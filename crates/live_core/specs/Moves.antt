-- Moves. What an event asks for is said by a list of moves, which are done one by one. The
-- occupants list who is on each processor. A move can be done where its task is on the processor
-- that it leaves, and on none where it starts, and nobody is on the processor that it goes to: so
-- no processor ever has two tasks, and no task two processors.
use Rattle.std.specs.Prelude.{◌≡◌, ◌≢◌, ℕ, ◌<◌, List, [], ◌∷◌, length, get_or, set, Option, Some}
use Rattle.std.specs.Prelude.{None}
use Rattle.live_core.specs.declared.moves.Move.{Move}
use Rattle.live_core.specs.declared.moves.Move.TheVariants.{Start, Shift, Stop}

-- who is on p, if somebody is
abbrev pub occupant_at : List (Option ℕ) → ℕ → Option ℕ
occupant_at occupants p = get_or occupants p None

-- t is on no processor
abbrev pub IsNowhere : List (Option ℕ) → ℕ → Type 0
IsNowhere occupants t = (p : ℕ) → occupant_at occupants p ≢ Some t

-- the move can be done
abbrev pub CanMove : List (Option ℕ) → Move → Type 0
CanMove occupants (Start t to) =
    (to < length occupants) × (occupant_at occupants to ≡ None) × IsNowhere occupants t
CanMove occupants (Shift t from to) = (to < length occupants) × (occupant_at occupants to ≡ None)
    × (occupant_at occupants from ≡ Some t)
CanMove occupants (Stop t from) = occupant_at occupants from ≡ Some t

-- the occupants after the move
abbrev pub occupants_after : List (Option ℕ) → Move → List (Option ℕ)
occupants_after occupants (Start t to) = set occupants to (Some t)
occupants_after occupants (Shift t from to) = set (set occupants from None) to (Some t)
occupants_after occupants (Stop t from) = set occupants from None

-- the moves lead from the old occupants to the new ones: each can be done after those before it
abbrev pub MovesLead : List (Option ℕ) → List Move → List (Option ℕ) → Type 0
MovesLead old [] new = old ≡ new
MovesLead old (move ∷ rest) new = CanMove old move × MovesLead (occupants_after old move) rest new
