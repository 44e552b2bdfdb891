-- Who runs where. A line says of a switch from which thread a processor goes to which one, or that
-- a wakeup makes a task ready. A thread ran on a processor up to a switch of it from this thread,
-- from the latest line before it on that is of them. So what holds between two lines is said by
-- those after it.
use Rattle.std.specs.Prelude.{◌≡◌, ℕ, ◌<◌, ◌≤◌, Bool, true, false, ◌&&◌, ◌||◌, ◌==◌, List, [], ◌∷◌}
use Rattle.std.specs.Prelude.{◌++◌, length, map, reverse, set, get_or, slice_get, Option, None}
use Rattle.std.specs.Prelude.{Some, if◌then◌else◌}
use Rattle.std.specs.Option.{ForSome}
use Rattle.trace_losses.specs.declared.former.Former.{Former}
use Rattle.trace_passages.specs.Turns.{turned}
use Rattle.trace_passages.specs.declared.turn.Turn.{Turn}
use Rattle.trace_passages.specs.declared.turn.Turn.TheVariants.{Switch, Woken}

-- there is a number, and it is this one
abbrev pub is_some_of : Option ℕ → ℕ → Bool
is_some_of None n = false
is_some_of (Some m) n = m == n

-- the line is of the task, or of the processor
abbrev pub is_of : Turn → ℕ → ℕ → Bool
is_of (Woken task) t p = task == t
is_of (Switch processor from to) t p = (processor == p) || (is_some_of from t || is_some_of to t)

-- the processor goes from the task to another
abbrev pub is_switch_from : Turn → ℕ → ℕ → Bool
is_switch_from (Woken task) t p = false
is_switch_from (Switch processor from to) t p = (processor == p) && is_some_of from t

-- whether a task runs on a processor before some lines: the first of them that is of the task or
-- the processor is a switch of the processor from it; where none is, it is said by what holds after
-- them
abbrev pub runs : (ℕ → ℕ → Bool) → List Turn → ℕ → ℕ → Bool
runs base [] t p = base t p
runs base (turn ∷ after) t p =
    if is_of turn t p then is_switch_from turn t p else runs base after t p

-- nobody runs
abbrev pub nobody_runs : ℕ → ℕ → Bool
nobody_runs t p = false

-- whether a task is on a processor after some lines, the last one first: the last of them that is
-- of the task or the processor is a switch of the processor to it
abbrev pub holds : List Turn → ℕ → ℕ → Bool
holds earlier t p = runs nobody_runs (map turned earlier) t p

-- of each task it is said which processor it runs on before some lines
abbrev pub IsArmed : (ℕ → ℕ → Bool) → List Turn → List (Option ℕ) → Type 0
IsArmed base after processors =
    (t : ℕ) (on : Option ℕ) (p : ℕ) → slice_get processors t ≡ Some on
    → is_some_of on p ≡ runs base after t p

-- a task, if there is one, is put on a processor, or on none
abbrev pub put_at : List (Option ℕ) → Option ℕ → Option ℕ → List (Option ℕ)
put_at processors None on = processors
put_at processors (Some t) on = set processors t on

-- where a task runs once everybody on a processor has stopped
abbrev pub stopped : Option ℕ → ℕ → Option ℕ
stopped on processor = if is_some_of on processor then None else on

-- of the first so many tasks those on the processor have stopped, and the others are as they were
pub record IsStopped (old new : List (Option ℕ)) (processor done : ℕ) : Type 0 where
  pub same : length new ≡ length old
  pub stops : (t : ℕ) (on : Option ℕ) → t < done → slice_get old t ≡ Some on
      → slice_get new t ≡ Some (stopped on processor)
  pub waiting : (t : ℕ) → done ≤ t → slice_get new t ≡ slice_get old t

-- no two threads are on one processor
abbrev pub RunApart : List (Option ℕ) → Type 0
RunApart processors =
    (t u p : ℕ) → is_some_of (get_or processors t None) p ≡ true
    → is_some_of (get_or processors u None) p ≡ true → t ≡ u

-- of the first so many threads this one is on the processor, if one is
abbrev pub IsHolder : List (Option ℕ) → ℕ → ℕ → Option ℕ → Type 0
IsHolder processors p done None =
    (t : ℕ) → t < done → is_some_of (get_or processors t None) p ≡ false
IsHolder processors p done (Some t) = (t < done) × (is_some_of (get_or processors t None) p ≡ true)

-- where the threads of a line were, and who was on its processor: who is where after it, by who is
-- where before it
abbrev pub restored : Turn → Former → List (Option ℕ) → List (Option ℕ)
restored (Woken task) former processors = put_at processors (Some task) former.from
restored (Switch processor from to) former processors =
    put_at (put_at (put_at processors former.stopped (Some processor)) to former.to)
    from former.from

-- the same of a line that may be none
abbrev pub restored_by : Option Turn → Former → List (Option ℕ) → List (Option ℕ)
restored_by None former processors = processors
restored_by (Some turn) former processors = restored turn former processors

-- of each task it is said which processor it is on after some lines, the last one first
abbrev pub IsWhereabouts : List Turn → List (Option ℕ) → Type 0
IsWhereabouts earlier processors = IsArmed (holds earlier) [] processors

-- whether a task runs on a processor between two lines of a trace: those before, the last one
-- first, and those after
abbrev pub runs_between : List Turn → List Turn → ℕ → ℕ → Bool
runs_between earlier after t p = runs (holds (reverse after ++ earlier)) after t p
