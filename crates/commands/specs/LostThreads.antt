-- Which threads that are no tasks ran while a task was lost: those told apart, with the moments at
-- which each of them did, and of these the ten that ran most.
use Rattle.std.specs.Prelude.{◌≡◌, ℕ, ◌<◌, ◌≤◌, ◌⊎◌, ◌==◌, zero, suc, List, [], ◌∷◌, map, All}
use Rattle.std.specs.Prelude.{Contains, if◌then◌else◌}
use Rattle.kernel_trace.specs.declared.loss_text.ThreadRow.{ThreadRow}

-- a row for each id, with the count that stands at its place
abbrev pub thread_rows : List ℕ → List ℕ → List ThreadRow
thread_rows [] counts = []
thread_rows (id ∷ ids) [] = []
thread_rows (id ∷ ids) (count ∷ counts) =
    record { id = id; ran = count } ∷ thread_rows ids counts

-- the thread ran no less than another: at more moments, or at as many with no greater id
abbrev pub RanMost : ThreadRow → ThreadRow → Type 0
RanMost row other = (other.ran < row.ran) ⊎ ((row.ran ≡ other.ran) × (row.id ≤ other.id))

-- the thread ran at all
abbrev pub Ran : ThreadRow → Type 0
Ran row = 0 < row.ran

-- the thread is one of these, it ran, and none of them ran more
pub record IsMost (rows : List ThreadRow) (row : ThreadRow) : Type 0 where
  pub among : Contains rows row
  pub ran : Ran row
  pub most : All (RanMost row) rows

-- none of these ran
abbrev pub NoneRan : List ThreadRow → Type 0
NoneRan rows = All (λ (row : ThreadRow). row.ran ≡ 0) rows

-- the row of a thread as if it had not run, where it is this one
abbrev pub rested : ℕ → ThreadRow → ThreadRow
rested id row = if row.id == id then record row { ran = 0 } else row

-- so many of these ran most: the first one of all, and then those of the others; there are fewer
-- where no other one ran
abbrev pub AreMost : ℕ → List ThreadRow → List ThreadRow → Type 0
AreMost zero rows [] = Unit {0}
AreMost zero rows (first ∷ rest) = ⊥
AreMost (suc n) rows [] = NoneRan rows
AreMost (suc n) rows (first ∷ rest) =
    IsMost rows first × AreMost n (map (rested first.id) rows) rest
