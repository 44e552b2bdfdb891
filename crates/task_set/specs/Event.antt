-- Events of a system of some processors and some tasks, with the units of time that a tick can
-- have. In the first version of an input the masks stay and all processors are on line.
use Rattle.std.specs.Prelude.{◌≡◌, ℕ, ◌<◌, ◌≤◌}
use Rattle.task_set.specs.TaskSet.{IsMask}
use Rattle.task_set.specs.declared.event.Event.{Event}
use Rattle.task_set.specs.declared.event.Event.TheVariants.{Arrive, Depart, Tick, Affinity, Offline}
use Rattle.task_set.specs.declared.event.Event.TheVariants.{Online}

-- the task of the event, its mask and its processor are of a system of m processors and so many
-- tasks; a tick has none of them
abbrev pub IsOfSystem : ℕ → ℕ → Event → Type 0
IsOfSystem m count (Arrive t) = t < count
IsOfSystem m count (Depart t) = t < count
IsOfSystem m count (Tick units) = Unit {0}
IsOfSystem m count (Affinity t mask) = (t < count) × IsMask m mask
IsOfSystem m count (Offline p) = p < m
IsOfSystem m count (Online p) = p < m

-- a tick has from 1 to 1,000,000 units
abbrev pub HasUnits : Event → Type 0
HasUnits (Tick units) = (1 ≤ units) × (units ≤ 1000000)
HasUnits (Arrive t) = Unit {0}
HasUnits (Depart t) = Unit {0}
HasUnits (Affinity t mask) = Unit {0}
HasUnits (Offline p) = Unit {0}
HasUnits (Online p) = Unit {0}

-- the version of the formats has such an event: the first one has arrivals, departures and ticks
-- alone
abbrev pub IsOfVersion : ℕ → Event → Type 0
IsOfVersion version (Affinity t mask) = version ≡ 2
IsOfVersion version (Offline p) = version ≡ 2
IsOfVersion version (Online p) = version ≡ 2
IsOfVersion version (Arrive t) = Unit {0}
IsOfVersion version (Depart t) = Unit {0}
IsOfVersion version (Tick units) = Unit {0}
