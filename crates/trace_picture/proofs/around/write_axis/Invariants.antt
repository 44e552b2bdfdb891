use Rattle.std.proofs.Common.{◌≡◌, ◌++◌}
use Rattle.std.specs.List.{flat_map, range_with_len}
use Rattle.trace_picture.specs.Around.{tick_at}
use Rattle.trace_picture.specs.Page.{bottom}
use Rattle.trace_picture.specs.Scene.{scene_of}
use Rattle.trace_picture.proofs.around.write_axis.Given as goal

abbrev pub invariant-loop-i : goal.invariant-loop-i
invariant-loop-i l =
    l.text.items ≡ l.fn.text.items ++ flat_map (tick_at (scene_of l.scene) (bottom l.fn.page) l.fn.step) (range_with_len 0 l.i)
