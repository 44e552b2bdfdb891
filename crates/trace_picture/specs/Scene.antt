-- What is drawn: the tasks of a trace, the clock of its moment 0, and the part that is shown. The
-- bars of the part are 1000 wide on the page, from 200 on.
use Rattle.std.specs.Prelude.{ℕ, ◌+◌, ◌-◌, ◌*◌, ◌/◌, ◌%◌, nat_lt, min, max, List, length, codes, Option}
use Rattle.std.specs.Prelude.{if◌then◌else◌}
use Rattle.task_set.specs.TaskSet.{SetData}
use Rattle.text_fields.specs.EventText.{name_of}
use Rattle.trace_bars.specs.declared.bars.Part.{Part}
use Rattle.trace_picture.specs.declared.scene.Scene.{Scene}

pub record SceneData : Type 0 where
  pub set : SetData
  pub clock : Option ℕ
  pub part : Part

abbrev pub scene_of : Scene → SceneData
scene_of scene = record { set = scene.set.now; clock = scene.clock; part = scene.part }

-- the name of a task; threads that are no tasks have one word
abbrev pub name_at : SceneData → ℕ → List ℕ
name_at scene t =
    if nat_lt t (length scene.set.tasks) then name_of scene.set t else codes "not listed"

-- the number of the colour of a task; threads that are no tasks have one colour
abbrev pub colour_at : SceneData → ℕ → ℕ
colour_at scene t = if nat_lt t (length scene.set.tasks) then t % 24 else 24

-- how long a part is, and at least 1
abbrev pub span_of : Part → ℕ
span_of part = max (part.to - part.from) 1

-- where a moment stands on the page, from the left
abbrev pub across : Part → ℕ → ℕ
across part moment = 200 + (moment - part.from) * 1000 / span_of part

-- the lane of a processor: all processors beyond have one lane, after the others
abbrev pub lane_of : SceneData → ℕ → ℕ
lane_of scene p = min p scene.set.processors
