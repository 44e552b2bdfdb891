-- What contracts see of a core, and what its stored parts keep. Of the state in which it began a
-- core keeps the masks: all else of it the links tell. Its rows have the orders of the history, and
-- there is room in them for the orders of the entries for which room was made, and of the close.
use Rattle.std.specs.Prelude.{◌≡◌, ℕ, ◌+◌, ◌*◌, ◌<◌, ◌≤◌, false, List, length, get_or, replicate}
use Rattle.std.specs.Prelude.{None}
use Rattle.std.specs.Vec.{vec_len, vec_capacity}
use Rattle.affinity_mask.specs.ProcSet.{all_below}
use Rattle.strong_apa.specs.State.{State, task_count, task_on}
use Rattle.strong_apa.specs.Dispatch.{processors_of}
use Rattle.sched_core.specs.CoreData.{CoreData, IsCore, core_orders}
use Rattle.sched_core.specs.CoreRows.{row_at}
use Rattle.sched_core.specs.declared.scheduler.Core.TheInside.{Inside}

-- the state before any event, by the state now and the masks then: processors and priorities stay
abbrev pub state_before : State → List ℕ → State
state_before links masks = record links {
  masks = masks;
  online = all_below links.processors;
  ready = replicate (task_count links) false;
  on = replicate links.processors None;
}

-- the parts that are stored, for a core that began in this state
abbrev pub core_from : State → Inside → CoreData
core_from start a = record {
  start = start;
  history = a.history.items;
  links = a.links;
  closed = a.closed;
  spare = a.spare;
}

abbrev pub core_view : Inside → CoreData
core_view a = core_from (state_before a.links a.first_masks.items) a

-- while the core is open, p holds its occupant, and its row has room for the entries and the close
pub record RowIsOpen (a : Inside) (p : ℕ) : Type 0 where
  pub held : (row_at a.rows.items p).held ≡ task_on a.links p
  pub room : 2 * a.spare + 2 ≤ (row_at a.rows.items p).room

-- what is stored beside the history is what the history gives from this state
pub record IsKeptFrom (start : State) (a : Inside) : Type 0 where
  pub core : IsCore (core_from start a)
  pub rows_count : length a.rows.items ≡ a.links.processors
  pub takes_count : length a.takes.items ≡ task_count a.links
  pub orders : (p : ℕ) → p < a.links.processors
      → (row_at a.rows.items p).orders ≡ core_orders (core_from start a) p
  pub takes : (t : ℕ) → t < task_count a.links
      → get_or a.takes.items t 0 ≡ length (processors_of start a.history.items t)
  pub rows_open : a.closed ≡ false → (p : ℕ) → p < a.links.processors → RowIsOpen a p
  pub room : vec_len a.history + a.spare ≤ vec_capacity a.history

abbrev pub IsKept : Inside → Type 0
IsKept a = IsKeptFrom (state_before a.links a.first_masks.items) a
