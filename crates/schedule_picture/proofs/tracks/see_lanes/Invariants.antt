use Rattle.schedule_picture.specs.Spans.{lane_of}
use Rattle.schedule_picture.proofs.Looking.{BecomesBelow, Becoming}
use Rattle.schedule_picture.proofs.tracks.see_lanes.Given as goal

abbrev pub invariant-loop-p : goal.invariant-loop-p
invariant-loop-p l = BecomesBelow (Becoming l.n (lane_of l.links)) l.p l.fn.lanes.items l.lanes.items
