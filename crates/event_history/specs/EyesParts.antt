-- What contracts see of a pass's eyes.
use Rattle.std.specs.Prelude.{List}
use Rattle.order_queues.specs.Ends.{EyeData}
use Rattle.event_history.specs.declared.eyes.Eyes.TheInside.{Inside}

-- the eyes, in the order of the queues
abbrev pub eyes_data : Inside → List EyeData
eyes_data a = a.row.items
