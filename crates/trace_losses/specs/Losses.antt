-- What the tasks of a trace lost. At each moment of its span something holds of each thread; the
-- numbers count these moments.
use Rattle.std.specs.Prelude.{◌≡◌, ℕ, List, length, count_by, slice_get, Option, Some}
use Rattle.task_set.specs.TaskSet.{SetData, priorities}
use Rattle.trace_losses.specs.Beside.{IsBeside}
use Rattle.trace_losses.specs.Book.{of_task}
use Rattle.trace_losses.specs.Moments.{is_ready_then, is_served, is_lost, losses, IsLongest}
use Rattle.trace_losses.specs.Moments.{AreOver}
use Rattle.trace_passages.specs.Passages.{span_of}
use Rattle.trace_losses.specs.Passages.{AreMoments}
use Rattle.trace_losses.specs.Watch.{IsWatch, IsMostOf}
use Rattle.trace_losses.specs.declared.loss.Loss.{Loss}
use Rattle.trace_passages.specs.declared.passage.Passage.{Passage}
use Rattle.trace_losses.specs.declared.seen.Seen.{Seen}
use Rattle.trace_losses.specs.declared.tally.Stretch.{Stretch}

-- of the tasks that ran in the stretch without being in the best set this one ran most, the least
-- urgent of several; or there is none
pub record IsRival (priorities : List ℕ) (moments : List (List Seen)) (stretch : Stretch)
    (rival : Option ℕ) : Type 0 where
  pub counts : List ℕ
  pub tasks : length counts ≡ length priorities
  pub counted : IsWatch stretch moments counts
  pub most : IsMostOf counts priorities (length priorities) rival

-- the numbers of a task are the counts of its moments, also of those in long stretches of lost
-- ones, with the first of its longest stretches of lost ones, and who ran meanwhile
pub record IsLoss (priorities : List ℕ) (moments : List (List Seen)) (t : ℕ)
    (loss : Loss) : Type 0 where
  pub ready : loss.ready ≡ count_by is_ready_then (of_task t moments)
  pub served : loss.served ≡ count_by is_served (of_task t moments)
  pub lost : loss.lost ≡ count_by is_lost (of_task t moments)
  pub over : AreOver (losses (of_task t moments)) loss.over
  pub longest : IsLongest (losses (of_task t moments)) loss.longest
  pub rival : IsRival priorities moments loss.longest loss.rival

-- the losses are those of the tasks at these moments
pub record AreLossesOf (priorities : List ℕ) (moments : List (List Seen))
    (losses : List Loss) : Type 0 where
  pub tasks : length losses ≡ length priorities
  pub each : (t : ℕ) (loss : Loss) → slice_get losses t ≡ Some loss
      → IsLoss priorities moments t loss

-- the span of the passages has so many moments; the losses are those of the tasks at what is seen
-- at each of them, and of each thread it is said at how many of those with a lost task it ran
-- without being in the best set
pub record AreLosses (set : SetData) (threads : ℕ) (passages : List Passage) (units : ℕ)
    (found : List Loss) (beside : List ℕ) : Type 0 where
  pub moments : List (List Seen)
  pub span : units ≡ span_of passages
  pub are : AreMoments set threads passages units moments
  pub losses : AreLossesOf (priorities set) moments found
  pub count : length beside ≡ threads
  pub counted : IsBeside moments beside
