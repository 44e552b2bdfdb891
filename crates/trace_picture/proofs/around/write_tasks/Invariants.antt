use Rattle.std.proofs.Common.{◌≡◌, ◌++◌, drop}
use Rattle.trace_picture.specs.Around.{tasks_text}
use Rattle.trace_picture.specs.Scene.{scene_of}
use Rattle.trace_picture.proofs.around.write_tasks.Given as goal

abbrev pub invariant-loop-k : goal.invariant-loop-k
invariant-loop-k l =
    l.text.items ++ tasks_text (scene_of l.scene) l.fn.top l.k (drop l.k l.listed)
    ≡ l.fn.text.items ++ tasks_text (scene_of l.scene) l.fn.top 0 l.listed
