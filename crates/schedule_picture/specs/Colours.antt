-- The colours of tasks, by their numbers, and that of a wait.
use Rattle.std.specs.Prelude.{◌≢◌, ℕ, ◌%◌, List, [], ◌∷◌, codes, slice_index_or}

-- 24 light colours
abbrev pub palette : List (List ℕ)
palette =
    codes "#a6cee3" ∷ codes "#fdbf6f" ∷ codes "#b2df8a" ∷ codes "#a5ebe3" ∷ codes "#cab2d6"
    ∷ codes "#ffff99" ∷ codes "#8dd3c7" ∷ codes "#f4cae4"
    ∷ codes "#d9c3a5" ∷ codes "#9ec9ff" ∷ codes "#c7e89c" ∷ codes "#ffc9a3" ∷ codes "#7fc8d9"
    ∷ codes "#e8d174" ∷ codes "#8fd19e" ∷ codes "#94a8d8"
    ∷ codes "#b59ad0" ∷ codes "#e3e36b" ∷ codes "#66c2a5" ∷ codes "#e5a0c8" ∷ codes "#bfa27c"
    ∷ codes "#77a8e6" ∷ codes "#a3cf62" ∷ codes "#ffab73" ∷ []

-- the colour of a task
unfoldable pub colour_of : ℕ → List ℕ
colour_of t = slice_index_or palette (t % 24) []

-- red, the colour of a wait
abbrev pub waiting_colour : List ℕ
waiting_colour = codes "#d9534f"

-- no task has the colour of a wait
abbrev pub IsNoTasksColour : List ℕ → Type 0
IsNoTasksColour colour = (t : ℕ) → colour_of t ≢ colour
