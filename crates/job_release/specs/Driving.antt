-- How far a driver of jobs has come: per task, the jobs released and finished so far, and the
-- service it got. Private: the contracts of this crate's own functions.
use Rattle.std.specs.Prelude.{◌≡◌, ℕ, ◌+◌, ◌-◌, ◌*◌, ◌/◌, ◌^◌, ◌<◌, ◌≤◌, ◌⊎◌, ◌↔◌, ◌==◌, ◌++◌, Bool}
use Rattle.std.specs.Prelude.{true, List, [], ◌∷◌, length, get_or, map, take, All, sum_by, nat_lt}
use Rattle.std.specs.Prelude.{min, Option, None, if◌then◌else◌}
use Rattle.strong_apa.specs.State.{State, IsState, start_of, task_count, is_ready, is_linked}
use Rattle.job_release.specs.Jobs.{job_at, cost_of, goal_of}
use Rattle.job_release.specs.JobInput.{JobInputData, AreJobs, jobs_at, total_jobs}
use Rattle.job_release.specs.declared.input.Job.{Job}
use Rattle.job_release.specs.Driven.{IsReadyWhileWorkIsLeft, GetsNoMore, RunsOnlyReady}
use Rattle.job_release.specs.Moments.{Timeline, service_of, IsFinish}
use Rattle.job_release.specs.Moves.{place_of, later_place, last_place, is_other_place, moves_of}
use Rattle.job_release.specs.EventCauses.{ComesAt, HasCauseToChange}
use Rattle.job_release.specs.EventOrder.{AreInOrder, turn_after_all, event_of, own_turn}
use Rattle.job_release.specs.Scheduler.{SchedulerData, enough_room}
use Rattle.job_release.specs.WeakRuns.{elapsed_at}
use Rattle.task_set.specs.Event.{HasUnits}
use Rattle.task_set.specs.declared.event.Event.{Event}
use Rattle.job_release.specs.declared.driver.Driver.{Driver}
use Rattle.job_release.specs.declared.row.JobRow.{JobRow}

-- ---- one row
-- how many jobs of a row are finished
abbrev pub done_of : JobRow → ℕ
done_of row = length row.finishes.items

-- how often the task of a row moved
abbrev pub moves_in : JobRow → ℕ
moves_in row = row.moves

-- what the first n of these jobs ask for
abbrev pub asked_by : List Job → ℕ → ℕ
asked_by jobs n = sum_by cost_of (take n jobs)

-- a released job is not finished
abbrev pub HasWork : JobRow → Type 0
HasWork row = done_of row < row.released

-- the first job that is not finished was released, and has its cost
abbrev pub HasCost : JobRow → Type 0
HasCost row = HasWork row × (row.service ≡ goal_of row.jobs.items (done_of row))

-- a row of sizes that fit
pub record IsRow (row : JobRow) : Type 0 where
  pub few : done_of row ≤ row.released
  pub listed : row.released ≤ length row.jobs.items
  pub asked : row.asked ≡ asked_by row.jobs.items (done_of row)
  pub fits : row.asked ≤ 40000000000

-- job k is released at the moment
abbrev pub BeginsAt : ℕ → List Job → ℕ → Type 0
BeginsAt moment jobs k = (k < length jobs) × ((job_at jobs k).release ≡ moment)

-- a row before any job is released
pub record IsFresh (listed : List Job) (row : JobRow) : Type 0 where
  pub jobs : row.jobs.items ≡ listed
  pub released : row.released ≡ 0
  pub service : row.service ≡ 0
  pub asked : row.asked ≡ 0
  pub finishes : row.finishes.items ≡ []
  pub place : row.place ≡ None
  pub moves : row.moves ≡ 0

-- a row whose job is finished at the moment
pub record Finishes (moment : ℕ) (old new : JobRow) : Type 0 where
  pub jobs : new.jobs ≡ old.jobs
  pub released : new.released ≡ old.released
  pub service : new.service ≡ old.service
  pub asked : new.asked ≡ old.service
  pub finishes : new.finishes.items ≡ old.finishes.items ++ moment ∷ []
  pub place : new.place ≡ old.place
  pub moves : new.moves ≡ old.moves

-- a row whose jobs are released that begin at the moment
pub record Releases (moment : ℕ) (old new : JobRow) : Type 0 where
  pub jobs : new.jobs ≡ old.jobs
  pub service : new.service ≡ old.service
  pub asked : new.asked ≡ old.asked
  pub finishes : new.finishes ≡ old.finishes
  pub place : new.place ≡ old.place
  pub moves : new.moves ≡ old.moves
  pub more : old.released ≤ new.released
  pub begin : (k : ℕ) → old.released ≤ k → k < new.released → BeginsAt moment old.jobs.items k
  pub all : BeginsAt moment old.jobs.items new.released → ⊥

-- a row after these units: a linked task got them, on this processor, which may be another one than
-- last
pub record JobRowRuns (linked : Bool) (here : Option ℕ) (units : ℕ)
    (old new : JobRow) : Type 0 where
  pub jobs : new.jobs ≡ old.jobs
  pub released : new.released ≡ old.released
  pub asked : new.asked ≡ old.asked
  pub finishes : new.finishes ≡ old.finishes
  pub service : new.service ≡ old.service + (if linked then units else 0)
  pub place : new.place ≡ later_place old.place here
  pub moves : new.moves ≡ old.moves + (if is_other_place old.place here then 1 else 0)

-- ---- a row at a moment
-- what was done at a moment so far: by how much the service may exceed that of an unfinished job,
-- and below which moment jobs were released, and how many rounds of all tasks there were at the
-- moment
pub record Mark : Type 0 where
  pub slack : ℕ
  pub upto : ℕ
  pub phase : ℕ

-- time has passed up to the moment
abbrev pub grown : ℕ → Mark
grown moment = record { slack = 1; upto = moment; phase = 0 }

-- jobs with their cost are finished
abbrev pub settled : ℕ → Mark
settled moment = record { slack = 0; upto = moment; phase = 1 }

-- jobs that begin at the moment are released
abbrev pub supplied : ℕ → Mark
supplied moment = record { slack = 0; upto = moment + 1; phase = 2 }

-- the row of task t says what the moments so far give
pub record IsRowAt (states : Timeline) (horizon : ℕ) (is_ready_now : Bool) (moment : ℕ)
    (mark : Mark) (t : ℕ) (row : JobRow) : Type 0 where
  pub sizes : IsRow row
  pub jobs : AreJobs horizon row.jobs.items
  pub count : length row.jobs.items ≤ 4000
  pub past : (x : ℕ) → x < moment → IsReadyWhileWorkIsLeft states t row.jobs.items x
  pub past_service : (x : ℕ) → x < moment → GetsNoMore states t row.jobs.items x
  pub past_linked : (x : ℕ) → x < moment → RunsOnlyReady states t x
  pub service : row.service ≡ service_of states t moment
  pub finishes : (k d : ℕ) → k < done_of row
      → IsFinish states t (goal_of row.jobs.items k) moment (get_or row.finishes.items k d)
  pub unfinished : (x : ℕ) → x < moment → done_of row < length row.jobs.items
      → service_of states t x < goal_of row.jobs.items (done_of row)
  pub due_before : (k : ℕ) → k < row.released → (job_at row.jobs.items k).release < mark.upto
  pub due_next : row.released < length row.jobs.items
      → mark.upto ≤ (job_at row.jobs.items row.released).release
  pub low : row.asked ≤ row.service
  pub high : HasWork row → row.service < goal_of row.jobs.items (done_of row) + mark.slack
  pub idle : done_of row ≡ row.released → row.service ≡ row.asked
  pub rested : mark.slack ≡ 1 → done_of row ≡ row.released
      → row.service ≡ service_of states t (moment - 1)
  pub ready : (is_ready_now ≡ true) ↔ HasWork row
  pub place : row.place ≡ last_place states t moment
  pub moves : row.moves ≡ moves_of states t moment

-- ---- all rows
-- what stands for a row where there is none
abbrev pub job_row_at : List JobRow → ℕ → JobRow → JobRow
job_row_at rows t d = get_or rows t d

-- the jobs of the rows
abbrev pub jobs_of : List JobRow → List (List Job)
jobs_of rows = map (λ (row : JobRow). row.jobs.items) rows

-- how many events a row accounts for at a moment: two for each release and each finish so far, and
-- one for each that is due
abbrev pub work_of : ℕ → JobRow → ℕ
work_of moment row =
    2 * (row.released + done_of row)
    + (if nat_lt row.released (length row.jobs.items)
    then (if (job_at row.jobs.items row.released).release == moment then 1 else 0) else 0)
    + (if nat_lt (done_of row) row.released
    then (if row.service == goal_of row.jobs.items (done_of row) then 1 else 0) else 0)

-- the most units of a tick, as in the texts
abbrev pub most_units : ℕ
most_units = 1000000

-- how many ticks of so many units there may be before the moment
abbrev pub long_ticks : ℕ → ℕ
long_ticks moment = moment / most_units

-- what contracts see of a driver
pub record DriverData : Type 0 where
  pub scheduler : SchedulerData
  pub rows : List JobRow
  pub horizon : ℕ
  pub moment : ℕ

-- its parts, where this is seen of the scheduler
abbrev pub driver_of : {S : Type 0} → (S → SchedulerData) → Driver S → DriverData
driver_of seen driver = record {
  scheduler = seen driver.scheduler;
  rows = driver.rows.items;
  horizon = driver.horizon;
  moment = driver.moment;
}

-- the turn of task n, of so many tasks, where those below it are at one mark and the others at
-- another
abbrev pub turn_of : Mark → Mark → ℕ → ℕ → ℕ
turn_of moved left count n = left.phase * count + (moved.phase - left.phase) * n

-- up to this turn of a moment, of so many tasks, each event has come that has a cause, and no other
-- one
abbrev pub AreCausedUpTo : ℕ → ℕ → ℕ → List (List Job) → List Event → Timeline → Type 0
AreCausedUpTo count moment turn jobs events states =
    (t x : ℕ) (flag : Bool) → t < count → x ≤ moment → (x ≡ moment → own_turn count t flag < turn)
    → ComesAt events (event_of t flag) x ↔ HasCauseToChange states t (jobs_at jobs t) flag x

-- a driver that began with these parts has come so far: the rows of the tasks below n are at one
-- mark, and the others at another
pub record IsDriving (from now : DriverData) (n : ℕ) (moved left : Mark) : Type 0 where
  pub begins : now.scheduler.start ≡ from.scheduler.start
  pub horizon : now.horizon ≡ from.horizon
  pub same_jobs : jobs_of now.rows ≡ jobs_of from.rows
  pub state : IsState now.scheduler.now
  pub at_moment : now.scheduler.elapsed ≡ now.moment
  pub within : now.moment ≤ now.horizon
  pub horizon_fits : now.horizon ≤ 10000000
  pub one_each : length now.rows ≡ task_count now.scheduler.now
  pub few : total_jobs (jobs_of now.rows) ≤ 4000
  pub rows_moved : (t : ℕ) (d : JobRow) → t < n → t < length now.rows
      → IsRowAt now.scheduler.states now.horizon (is_ready now.scheduler.now t) now.moment moved t
      (job_row_at now.rows t d)
  pub rows_left : (t : ℕ) (d : JobRow) → n ≤ t → t < length now.rows
      → IsRowAt now.scheduler.states now.horizon (is_ready now.scheduler.now t) now.moment left t
      (job_row_at now.rows t d)
  pub timed : elapsed_at now.scheduler.events ≡ now.moment
  pub in_order : AreInOrder (length now.rows) 0 now.scheduler.events
  pub units : All HasUnits now.scheduler.events
  pub turn : turn_after_all (length now.rows) 0 now.scheduler.events
      ≤ turn_of moved left (length now.rows) n
  pub caused : AreCausedUpTo (length now.rows) now.moment (turn_of moved left (length now.rows) n)
      (jobs_of now.rows) now.scheduler.events now.scheduler.states
  pub room : enough_room ≤ now.scheduler.room + sum_by (work_of now.moment) now.rows
      + long_ticks now.moment + 1
  pub room_before : now.moment < now.horizon → enough_room ≤ now.scheduler.room
      + sum_by (work_of now.moment) now.rows + long_ticks now.moment

-- the same of the driver itself
abbrev pub Drives : {S : Type 0} → (S → SchedulerData) → Driver S → Driver S → ℕ → Mark → Mark
    → Type 0
Drives seen from now n moved left =
    IsDriving (driver_of seen from) (driver_of seen now) n moved left

-- a driver all of whose rows are at this mark
abbrev pub IsAt : {S : Type 0} → (S → SchedulerData) → Driver S → Driver S → Mark → Type 0
IsAt seen from now mark = Drives seen from now (length now.rows.items) mark mark

-- the first n rows, before any job of these is released
pub record AreFresh (jobs : List (List Job)) (n : ℕ) (rows : List JobRow) : Type 0 where
  pub count : length rows ≡ n
  pub each : (t : ℕ) (d : JobRow) → t < n → IsFresh (jobs_at jobs t) (job_row_at rows t d)

-- a driver of this input before anything has happened
pub record DriverBegins {S : Type 0} (seen : S → SchedulerData) (input : JobInputData)
    (driver : Driver S) : Type 0 where
  pub start : (seen driver.scheduler).start ≡ start_of input.set
  pub jobs : jobs_of driver.rows.items ≡ input.jobs
  pub horizon : driver.horizon ≡ input.horizon
  pub moment : driver.moment ≡ 0
  pub at_start : IsAt seen driver driver (settled 0)

-- ---- the next moment
-- the next moment is not after the next release of a row, nor after the moment at which its job,
-- where the task is linked, has its cost
pub record IsNotAfter (links : State) (moment next t : ℕ) (row : JobRow) : Type 0 where
  pub release : row.released < length row.jobs.items
      → next ≤ (job_at row.jobs.items row.released).release
  pub finish : is_linked links t ≡ true → row.service + next ≤ goal_of row.jobs.items (done_of row)
      + moment

-- the next moment is one of these two
abbrev pub IsDueAt : State → ℕ → ℕ → ℕ → JobRow → Type 0
IsDueAt links moment next t row =
    BeginsAt next row.jobs.items row.released
    ⊎ ((is_linked links t ≡ true)
    × (row.service + next ≡ goal_of row.jobs.items (done_of row) + moment))

-- the earlier of a moment and the next one at which something is to be done for a task
pub record IsEarlier (links : State) (moment next t : ℕ) (row : JobRow) (earlier : ℕ) : Type 0 where
  pub later : moment < earlier
  pub within : earlier ≤ next
  pub not_after : IsNotAfter links moment earlier t row
  pub due : (earlier ≡ next) ⊎ IsDueAt links moment earlier t row

-- the last moment to which a tick goes
abbrev pub last_of_tick : ℕ → ℕ → ℕ
last_of_tick horizon moment = min horizon (moment + most_units)

-- the next moment at which something is to be done, or to which a tick goes
pub record IsNextMoment (links : State) (rows : List JobRow)
    (horizon moment next : ℕ) : Type 0 where
  pub later : moment < next
  pub within : next ≤ horizon
  pub units : next ≤ moment + most_units
  pub not_after : (t : ℕ) (d : JobRow) → t < length rows
      → IsNotAfter links moment next t (job_row_at rows t d)
  pub due : (next ≡ last_of_tick horizon moment)
      ⊎ ((t : ℕ) × (t < length rows)
      × ((d : JobRow) → IsDueAt links moment next t (job_row_at rows t d)))

-- a row that can run so many units
pub record RunFits (units : ℕ) (row : JobRow) : Type 0 where
  pub service : row.service + units < 2 ^ 64
  pub moves : row.moves + 1 < 2 ^ 32

-- each row after these units
pub record JobRowsRun (links : State) (units : ℕ) (old new : List JobRow) : Type 0 where
  pub count : length new ≡ length old
  pub each : (t : ℕ) (d : JobRow) → t < length old
      → JobRowRuns (is_linked links t) (place_of links t) units (job_row_at old t d)
      (job_row_at new t d)
