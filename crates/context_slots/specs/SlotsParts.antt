-- What contracts see of slots.
use Rattle.task_set.specs.TaskSet.{IsTaskSet}
use Rattle.context_slots.specs.Hands.{SlotsData}
use Rattle.context_slots.specs.declared.slots.Slots.TheInside.{Inside}

-- the table, and the set that it was told
abbrev pub slots_data : Inside → SlotsData
slots_data a =
    record { id = a.words.table.shared.table_id; set = a.words.table.shared.key.set.value }

-- what holds of all slots
abbrev pub IsSlots : Inside → Type 0
IsSlots a = IsTaskSet a.words.table.shared.key.set.value
