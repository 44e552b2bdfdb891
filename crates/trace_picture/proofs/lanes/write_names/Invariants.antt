use Rattle.std.proofs.Common.{◌≡◌, ◌++◌, take}
use Rattle.std.specs.List.{flat_map}
use Rattle.trace_picture.specs.Lanes.{lane_name}
use Rattle.trace_picture.specs.Scene.{scene_of}
use Rattle.trace_picture.proofs.lanes.write_names.Given as goal

abbrev pub invariant-loop-bar : goal.invariant-loop-bar
invariant-loop-bar l = l.text.items ≡ l.fn.text.items ++ flat_map (lane_name (scene_of l.scene) l.fn.top) (take l.bar-index l.bars)
