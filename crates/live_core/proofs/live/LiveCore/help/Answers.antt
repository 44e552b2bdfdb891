use Rattle.std.proofs.Common.{[], ap}
use Rattle.live_core.specs.Live.{LiveData}
use Rattle.live_core.proofs.Finding.{helped, nobody_helped, found_is_lost}
use Rattle.live_core.proofs.live.LiveCore.help.Goals as goal

pub help_task-requires : goal.help_task-requires
help_task-requires c = found_is_lost c.args.self.now c.lost.new.self c.in-Some.t c.in-Some.ensures

pub returns-in-Some : goal.returns-in-Some
returns-in-Some c = helped c.args.self.now c.lost.new.self c.help_task.new.self c.in-Some.t c.in-Some.ensures c.help_task.ensures

pub returns-in-None : goal.returns-in-None
returns-in-None c =
    rw c.clear.ensures (nobody_helped c.args.self.now c.lost.new.self _ c.in-None.ensures
    (ap (λ (d : LiveData). record d { moves = [] }) c.self.view_is))
