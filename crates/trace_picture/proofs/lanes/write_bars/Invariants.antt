use Rattle.std.proofs.Common.{◌≡◌, ◌++◌, take}
use Rattle.std.specs.List.{flat_map}
use Rattle.trace_picture.specs.Lanes.{lane_bar}
use Rattle.trace_picture.specs.Scene.{scene_of}
use Rattle.trace_picture.proofs.lanes.write_bars.Given as goal

abbrev pub invariant-loop-bar : goal.invariant-loop-bar
invariant-loop-bar l = l.text.items ≡ l.fn.text.items ++ flat_map (lane_bar (scene_of l.scene)) (take l.bar-index l.bars)
