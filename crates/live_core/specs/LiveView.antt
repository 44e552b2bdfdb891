-- What contracts see of a scheduler without a history, and what it keeps.
use Rattle.std.specs.Prelude.{◌≡◌, ◌≤◌, true, length, Some, None, if◌then◌else◌}
use Rattle.strong_apa.specs.State.{IsState, HasSameTasks, task_count}
use Rattle.strong_apa.specs.Certified.{HasCertificates}
use Rattle.live_core.specs.Live.{LiveData}
use Rattle.live_core.specs.Seen.{IsTable}
use Rattle.live_core.specs.Slots.{AreFreeAbsent}
use Rattle.live_core.specs.declared.live.LiveCore.TheInside.{Inside}

-- the parts that are stored
abbrev pub live_view : Inside → LiveData
live_view a = record {
  links = a.links;
  last = a.last;
  moves = a.moves.moves;
  in_use = a.in_use.items;
  seen = a.seen.seen;
  holders = if a.seen.is_settled then Some a.seen.table.on else None;
}

-- the links are a placement of ready tasks, each waiting task has a certificate, the moves led to
-- these links, and each task has a slot, which is in use where the task is ready; the table of the
-- holders has the same tasks, and is one where it is settled
pub record IsKept (a : Inside) : Type 0 where
  pub state : IsState a.links
  pub certificates : HasCertificates a.links
  pub occupants : a.moves.occupants ≡ a.links.on
  pub few : length a.moves.moves ≤ 130
  pub slots : length a.in_use.items ≡ task_count a.links
  pub free_absent : AreFreeAbsent a.links a.in_use.items
  pub tasks : HasSameTasks a.seen.table a.links
  pub settled : a.seen.is_settled ≡ true → IsTable a.links a.seen.seen a.seen.table
