use Rattle.order_queues.proofs.parts.QueueParts.new.Given as goal

abbrev pub ghosts-split_ends : goal.ghosts-split_ends
ghosts-split_ends a = record { tasks = a.tasks }
