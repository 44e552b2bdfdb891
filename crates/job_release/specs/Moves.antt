-- Moves: how often a task is linked to another processor than the one to which it was linked last,
-- however long ago that was.
use Rattle.std.specs.Prelude.{ℕ, ◌+◌, ◌==◌, Bool, false, not, zero, suc, List, [], ◌∷◌, length}
use Rattle.std.specs.Prelude.{sum_by, Option, Some, None, if◌then◌else◌}
use Rattle.std.specs.List.{range_with_len}
use Rattle.affinity_mask.specs.ProcSet.{passing_below}
use Rattle.strong_apa.specs.State.{State, is_task}
use Rattle.job_release.specs.Moments.{Timeline}

-- the first place that the task has in these, where they are counted from p on
abbrev pub place_from : ℕ → ℕ → List (Option ℕ) → Option ℕ
place_from t p [] = None
place_from t p (occupant ∷ rest) = if is_task t occupant then Some p else place_from t (p + 1) rest

-- the processor to which the task is linked, if it is linked
abbrev pub place_of : State → ℕ → Option ℕ
place_of s t = place_from t 0 s.on

-- the later of two places, if there is a later one
abbrev pub later_place : Option ℕ → Option ℕ → Option ℕ
later_place earlier None = earlier
later_place earlier (Some p) = Some p

-- the processor to which the task was linked last before the moment x
unfoldable pub last_place : Timeline → ℕ → ℕ → Option ℕ
last_place states t zero = None
last_place states t (suc y) = later_place (last_place states t y) (place_of (states y) t)

-- there are both places, and they differ
abbrev pub is_other_place : Option ℕ → Option ℕ → Bool
is_other_place None place = false
is_other_place (Some p) None = false
is_other_place (Some p) (Some q) = not (p == q)

-- the task moves at the moment x: it is linked, and to another processor than last
abbrev pub is_move : Timeline → ℕ → ℕ → Bool
is_move states t x = is_other_place (last_place states t x) (place_of (states x) t)

-- how often the task moves before the moment x
abbrev pub moves_of : Timeline → ℕ → ℕ → ℕ
moves_of states t x = length (passing_below (is_move states t) x)

-- how often the first n tasks move before the moment x
abbrev pub moves_of_all : Timeline → ℕ → ℕ → ℕ
moves_of_all states n x = sum_by (λ t. moves_of states t x) (range_with_len 0 n)
