-- What is known of the stretches of readiness from a moment on, while the passages go by from the
-- last one to the first. Private: the contracts of this crate's own functions.
use Rattle.std.specs.Prelude.{◌≡◌, ℕ, ◌-◌, ◌<◌, ◌≤◌, List, length, get_or, slice_get, Option, None}
use Rattle.std.specs.Prelude.{Some}
use Rattle.std.specs.Option.{is_some}
use Rattle.trace_losses.specs.Jobs.{RunsAt, Change, end_by}
use Rattle.trace_losses.specs.Moments.{IsCount}
use Rattle.trace_passages.specs.Passages.{span_of}
use Rattle.trace_losses.specs.Tally.{more}
use Rattle.trace_passages.specs.declared.passage.Passage.{Passage}

-- so many of the moments from this one up to the end are such at which the task runs
pub record IsAhead (passages : List Passage) (moment t end units : ℕ) : Type 0 where
  pub first : moment ≤ end
  pub last : end ≤ span_of passages
  pub count : IsCount (RunsAt passages t) moment (end - moment) units

-- the same of each task, up to the first of these changes that makes it absent
abbrev pub AreAhead : List Passage → List Change → ℕ → List ℕ → Type 0
AreAhead passages later moment ahead =
    (t units : ℕ) → slice_get ahead t ≡ Some units
    → IsAhead passages moment t (end_by (span_of passages) later t) units

-- each of the first so many tasks that is on a processor has these moments more, and the others
-- have as many as before
pub record AreLonger (old new : List ℕ) (processors : List (Option ℕ))
    (units done : ℕ) : Type 0 where
  pub same : length new ≡ length old
  pub counted : (t : ℕ) (count : ℕ) → t < done → slice_get old t ≡ Some count
      → slice_get new t ≡ Some (more (is_some (get_or processors t None)) count units)
  pub waiting : (t : ℕ) → done ≤ t → slice_get new t ≡ slice_get old t
