-- Threads that the head does not list. Such a thread is told apart where a used switch gives it a
-- priority of real time; the first 1,024 that the lines name so are, and all others are nobody. The
-- tasks have the first numbers, and those told apart the next ones, in the order in which they are
-- named. Which of them are is known at the end alone: while a text is read, a thread that is no
-- task has its id after the tasks for a number.
use Rattle.std.specs.Prelude.{ℕ, ◌+◌, ◌-◌, Bool, not, ◌&&◌, nat_eq, nat_lt, nat_le, List, [], ◌∷◌}
use Rattle.std.specs.Prelude.{◌++◌, length, position, Option, None, Some, if◌then◌else◌}
use Rattle.std.specs.List.{list_any}
use Rattle.std.specs.Option.{option_map, option_and_then}
use Rattle.kernel_trace.specs.declared.change.Change.{Change}
use Rattle.kernel_trace.specs.declared.change.Change.TheVariants.{Wakeup, Switch}
use Rattle.kernel_trace.specs.declared.change.Thread.{Thread}
use Rattle.trace_passages.specs.declared.passage.Passage.{Passage}
use Rattle.trace_passages.specs.declared.turn.Turn.{Turn}
use Rattle.trace_passages.specs.declared.turn.Turn.TheVariants as turn

-- ---- which threads are told apart
-- the id is one of these
abbrev pub is_among : ℕ → List ℕ → Bool
is_among id ids = list_any (nat_eq id) ids

-- the thread has an id, is no task, and its priority is one of real time
abbrev pub is_unlisted : List ℕ → Thread → Bool
is_unlisted ids thread =
    thread.is_real_time && nat_lt 0 thread.id && nat_le thread.id 4194304
    && not (is_among thread.id ids)

-- an id more, where it is new
abbrev pub with_id : List ℕ → ℕ → List ℕ
with_id unlisted id = if is_among id unlisted then unlisted else unlisted ++ id ∷ []

-- those told apart after one more thread is named, where there are not too many
abbrev pub with_named : List ℕ → List ℕ → Thread → List ℕ
with_named ids unlisted thread =
    if is_unlisted ids thread && nat_lt (length unlisted) 1024 then with_id unlisted thread.id
    else unlisted

-- the same after a line
abbrev pub with_said : List ℕ → List ℕ → Change → List ℕ
with_said ids unlisted (Wakeup id) = unlisted
with_said ids unlisted (Switch from stays to) = with_named ids (with_named ids unlisted from) to

-- ---- their numbers
-- the number of a thread by its task, and by its place among those told apart
abbrev pub numbered : ℕ → Option ℕ → Option ℕ → Option ℕ
numbered tasks (Some task) place = Some task
numbered tasks None place = option_map (λ k. tasks + k) place

-- the number of a thread, if it has one: the tasks come first, and then those told apart
abbrev pub number_of : List ℕ → List ℕ → ℕ → Option ℕ
number_of ids unlisted id =
    numbered (length ids) (position (nat_eq id) ids) (position (nat_eq id) unlisted)

-- the number of a thread by its task, or by its id
abbrev pub read_as : ℕ → ℕ → Option ℕ → Option ℕ
read_as tasks id (Some task) = Some task
read_as tasks id None = if nat_le id 4194304 then Some (tasks + id) else None

-- the number of a thread while the text is read
abbrev pub number_read : List ℕ → ℕ → Option ℕ
number_read ids id = read_as (length ids) id (position (nat_eq id) ids)

-- ---- from the one to the other
-- the number of a thread, by the one that it had while the text was read
abbrev pub settled : ℕ → List ℕ → ℕ → Option ℕ
settled tasks unlisted n =
    if nat_lt n tasks then Some n
    else option_map (λ k. tasks + k) (position (nat_eq (n - tasks)) unlisted)

-- the same in a line
abbrev pub settled_turn : ℕ → List ℕ → Turn → Turn
settled_turn tasks unlisted (turn.Woken task) = turn.Woken task
settled_turn tasks unlisted (turn.Switch processor from to) =
    turn.Switch processor (option_and_then (settled tasks unlisted) from)
    (option_and_then (settled tasks unlisted) to)

-- the same in a passage
abbrev pub settled_passage : ℕ → List ℕ → Passage → Passage
settled_passage tasks unlisted passage =
    record passage { turn = option_map (settled_turn tasks unlisted) passage.turn }
