-- What contracts see of a table of links. Its fields are the columns of a state, and beside them
-- the processors that each task waits for, on line or not.
use Rattle.std.specs.Prelude.{◌≡◌, ℕ, ◌<◌, ◌&&◌, not, List, length, get_or, if◌then◌else◌}
use Rattle.affinity_mask.specs.ProcSet.{empty}
use Rattle.strong_apa.specs.State.{State, IsState, task_count, is_ready, is_linked, mask_of}
use Rattle.link_table.specs.declared.links.Links.TheInside.{Inside}

-- the processors that a task waits for: those of its mask, where it waits
abbrev pub awaited : State → ℕ → ℕ
awaited s t = if is_ready s t && not (is_linked s t) then mask_of s t else empty

-- the sets by task are those that the tasks wait for
pub record AreAwaited (s : State) (masks : List ℕ) : Type 0 where
  pub count : length masks ≡ task_count s
  pub each : (t : ℕ) → t < task_count s → get_or masks t empty ≡ awaited s t

-- the state whose columns are stored
abbrev pub links_view : Inside → State
links_view a = record {
  processors = a.processors;
  priorities = a.waiting.priorities;
  masks = a.places.masks;
  online = a.places.online;
  ready = a.ready.items;
  on = a.places.on;
}

-- the stored columns are those of a state at every moment, and what tasks wait for agrees with it
pub record IsStored (a : Inside) : Type 0 where
  pub state : IsState (links_view a)
  pub waiting : AreAwaited (links_view a) a.waiting.masks
