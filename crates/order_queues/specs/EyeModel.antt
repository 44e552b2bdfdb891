-- What contracts see of an eye.
use Rattle.order_queues.specs.Ends.{EyeData}
use Rattle.order_queues.specs.Views.{eye_of}
use Rattle.order_queues.specs.declared.queue.Eye.TheInside.{Inside}

-- what is seen of the reader in it
abbrev pub eye_data : Inside → EyeData
eye_data a = eye_of a.reader
