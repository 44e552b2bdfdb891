-- Laws of masks that nest, and of runs by counts.
use Rattle.std.specs.Prelude.{◌≡◌, ℕ, ◌<◌, ◌↔◌, true, List, length}
use Rattle.task_set.specs.TaskSet.{SetData, IsTaskSet, masks}
use Rattle.strong_apa.specs.State.{start_of}
use Rattle.strong_apa.specs.Placement.{TaskTest, IsPlaceable}
use Rattle.trace_reader.specs.declared.posted.Posted.{Posted}
use Rattle.nested_masks.specs.Laminar.{IsLaminar, FitsNodes}
use Rattle.nested_masks.specs.NestedText.{IsNestedText}

-- where masks nest, a set of tasks is placeable exactly where no node holds more of its tasks than
-- it has processors
abbrev pub PlaceableByCounts : Type 0
PlaceableByCounts = (set : SetData) → IsTaskSet set → IsLaminar (masks set) → (tasks : TaskTest)
    → ((t : ℕ) → tasks t ≡ true → t < length set.tasks)
    → IsPlaceable (start_of set) tasks ↔ FitsNodes (masks set) tasks

-- the run by counts of the events of a set has one text: the scheduler by counts has no choice
abbrev pub NestedTextIsUnique : Type 0
NestedTextIsUnique =
    (set : SetData) (events : List Posted) (text other : List ℕ)
    → IsTaskSet set → IsLaminar (masks set) → IsNestedText set events text
    → IsNestedText set events other → text ≡ other
