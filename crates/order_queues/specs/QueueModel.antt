-- What contracts see of a queue.
use Rattle.order_queues.specs.Ends.{QueueData}
use Rattle.order_queues.specs.Views.{queue_of}
use Rattle.order_queues.specs.declared.queue.Queue.TheInside.{Inside}

-- what is seen of the parts in it
abbrev pub queue_data : Inside → QueueData
queue_data a = queue_of a.parts
