use Rattle.std.proofs.Common.{◌≡◌, ◌++◌, take}
use Rattle.std.specs.List.{flat_map}
use Rattle.trace_picture.specs.Rows.{row_bar}
use Rattle.trace_picture.specs.Scene.{scene_of}
use Rattle.trace_picture.proofs.rows.write_rows.Given as goal

abbrev pub invariant-loop-bar : goal.invariant-loop-bar
invariant-loop-bar l = l.text.items ≡ l.fn.text.items ++ flat_map (row_bar (scene_of l.scene) l.listed) (take l.bar-index l.bars)
