-- The text that compares the jobs of an input under weak and under strong scheduling: how often
-- tasks moved, a line for each job with its finish under both and under which of them it is late,
-- and a line for each task with the worst and the mean response of its finished jobs and the number
-- of its late ones under both. All of it follows from the input and from what is linked at each
-- moment. Lines end with a line feed, fields are separated by one space, and numbers are canonical.
use Rattle.std.specs.Prelude.{ℕ, ◌-◌, ◌/◌, Bool, true, false, ◌&&◌, List, [], ◌∷◌, ◌++◌, length}
use Rattle.std.specs.Prelude.{codes, nat_le, nat_lt, max, fold, sum, Option, Some, None, option_map}
use Rattle.std.specs.List.{flat_map, filter_map, range_with_len}
use Rattle.affinity_mask.specs.Number.{canonical_number}
use Rattle.affinity_mask.specs.ProcSet.{passing_below}
use Rattle.text_fields.specs.EventText.{name_of}
use Rattle.text_fields.specs.LineText.{line}
use Rattle.job_release.specs.Jobs.{job_at, goal_of, due_of}
use Rattle.job_release.specs.JobInput.{JobInputData, jobs_at}
use Rattle.job_release.specs.JobsText.{finish_of}
use Rattle.job_release.specs.Moments.{Timeline, service_of}
use Rattle.job_release.specs.Moves.{moves_of_all}

-- ---- a job under one scheduler
-- the moment at which job k of the task t is finished, if it is by the horizon
abbrev pub finish_under : JobInputData → Timeline → ℕ → ℕ → Option ℕ
finish_under input states t k = finish_of states t (goal_of (jobs_at input.jobs t) k) input.horizon

-- it is due at a moment up to the horizon, and then its task does not have its units
abbrev pub is_late_at : Timeline → ℕ → ℕ → ℕ → Option ℕ → Bool
is_late_at states t goal horizon None = false
is_late_at states t goal horizon (Some due) =
    nat_le due horizon && nat_lt (service_of states t due) goal

-- whether job k of the task t is late
abbrev pub is_late : JobInputData → Timeline → ℕ → ℕ → Bool
is_late input states t k =
    is_late_at states t (goal_of (jobs_at input.jobs t) k) input.horizon
    (due_of (jobs_at input.jobs t) k)

-- ---- the jobs of a task under one scheduler
-- how long after its release job k is finished, if it is
abbrev pub response_under : JobInputData → Timeline → ℕ → ℕ → Option ℕ
response_under input states t k =
    option_map (λ finish. finish - (job_at (jobs_at input.jobs t) k).release)
    (finish_under input states t k)

-- the responses of those of the first n jobs that are finished
abbrev pub responses : JobInputData → Timeline → ℕ → ℕ → List ℕ
responses input states t n = filter_map (response_under input states t) (range_with_len 0 n)

-- how many of the first n jobs are late
abbrev pub late_count : JobInputData → Timeline → ℕ → ℕ → ℕ
late_count input states t n = length (passing_below (is_late input states t) n)

-- the greatest of these responses
abbrev pub worst_of : List ℕ → ℕ
worst_of list = fold max 0 list

-- the worst and the mean of these responses, where there are any
unfoldable pub responses_text : List ℕ → List ℕ
responses_text [] = codes "- -"
responses_text (first ∷ rest) =
    canonical_number (worst_of (first ∷ rest)) ++ codes " "
    ++ canonical_number (sum (first ∷ rest) / length (first ∷ rest))

-- ---- the lines
-- the finish of a job
abbrev pub finish_text : Option ℕ → List ℕ
finish_text None = codes "-"
finish_text (Some finish) = canonical_number finish

-- under which schedulers a job is late
abbrev pub mark_text : Bool → Bool → List ℕ
mark_text false false = codes "-"
mark_text true false = codes "weak"
mark_text false true = codes "strong"
mark_text true true = codes "both"

-- a job of a task of this name: its number and its release
unfoldable pub job_head : List ℕ → ℕ → ℕ → List ℕ
job_head name k release =
    codes "job " ++ name ++ codes " " ++ canonical_number k ++ codes " " ++ canonical_number release

-- its finish under both, and under which of them it is late
unfoldable pub outcomes_text : Option ℕ → Option ℕ → List ℕ → List ℕ
outcomes_text weak strong mark =
    codes " " ++ finish_text weak ++ codes " " ++ finish_text strong ++ codes " " ++ mark

-- job k of the task t
abbrev pub row_of_job : JobInputData → Timeline → Timeline → ℕ → ℕ → List ℕ
row_of_job input weak strong t k =
    line (job_head (name_of input.set t) k (job_at (jobs_at input.jobs t) k).release
    ++ outcomes_text (finish_under input weak t k) (finish_under input strong t k)
    (mark_text (is_late input weak t k) (is_late input strong t k)))

-- the jobs of the task t
abbrev pub rows_of_task : JobInputData → Timeline → Timeline → ℕ → List ℕ
rows_of_task input weak strong t =
    flat_map (row_of_job input weak strong t) (range_with_len 0 (length (jobs_at input.jobs t)))

-- the jobs of a task under one scheduler: their worst and their mean response, and how many are
-- late
unfoldable pub figures_text : List ℕ → ℕ → List ℕ
figures_text list late = responses_text list ++ codes " " ++ canonical_number late

-- the figures of all jobs of the task t under one scheduler
abbrev pub figures_of_task : JobInputData → Timeline → ℕ → List ℕ
figures_of_task input states t =
    figures_text (responses input states t (length (jobs_at input.jobs t)))
    (late_count input states t (length (jobs_at input.jobs t)))

-- a task of this name
unfoldable pub task_row : List ℕ → ℕ → List ℕ → List ℕ → List ℕ
task_row name jobs weak strong =
    line (codes "task " ++ name ++ codes " jobs " ++ canonical_number jobs ++ codes " weak " ++ weak
    ++ codes " strong " ++ strong)

-- the task t
abbrev pub row_of_task : JobInputData → Timeline → Timeline → ℕ → List ℕ
row_of_task input weak strong t =
    task_row (name_of input.set t) (length (jobs_at input.jobs t)) (figures_of_task input weak t)
    (figures_of_task input strong t)

-- ---- the text
-- how often tasks moved before the horizon
abbrev pub all_moves : JobInputData → Timeline → ℕ
all_moves input states = moves_of_all states (length input.jobs) input.horizon

-- the header, the horizon, and how often tasks moved
unfoldable pub weak_jobs_heading : ℕ → ℕ → ℕ → ℕ → List ℕ
weak_jobs_heading version horizon weak strong =
    line (codes "weakjobs " ++ canonical_number version)
    ++ line (codes "horizon " ++ canonical_number horizon)
    ++ line (codes "moves weak " ++ canonical_number weak ++ codes " strong "
    ++ canonical_number strong)

-- the heading, all jobs, all tasks and the end
unfoldable pub weak_jobs_text : JobInputData → Timeline → Timeline → List ℕ
weak_jobs_text input weak strong =
    let tasks = range_with_len 0 (length input.set.tasks) in
    weak_jobs_heading input.version input.horizon (all_moves input weak) (all_moves input strong)
    ++ flat_map (rows_of_task input weak strong) tasks
    ++ flat_map (row_of_task input weak strong) tasks ++ line (codes "end")
