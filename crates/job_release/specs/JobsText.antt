-- The text of a run of jobs: a line for each job, by task and then by job, with the moment of its
-- release, that of its finish and the time between, or with '-' for both where it is not finished
-- by the horizon. Lines end with a line feed, fields are separated by one space, and numbers are
-- canonical.
use Rattle.std.specs.Prelude.{ℕ, ◌-◌, Bool, zero, suc, List, ◌++◌, length, codes, nat_le, Option}
use Rattle.std.specs.Prelude.{Some, None, if◌then◌else◌}
use Rattle.std.specs.List.{flat_map, range_with_len}
use Rattle.affinity_mask.specs.Number.{canonical_number}
use Rattle.strong_apa.specs.declared.reply.Entry.{Entry}
use Rattle.strong_apa.specs.State.{start_of}
use Rattle.text_fields.specs.EventText.{name_of}
use Rattle.text_fields.specs.LineText.{line}
use Rattle.job_release.specs.Jobs.{job_at, goal_of}
use Rattle.job_release.specs.JobInput.{JobInputData, jobs_at}
use Rattle.job_release.specs.Moments.{Timeline, state_of_moment, service_of}

-- the first of two that there is
abbrev pub first_of : Option ℕ → Option ℕ → Option ℕ
first_of (Some x) other = Some x
first_of None other = other

-- the least number up to n that passes a test, if there is one
unfoldable pub first_upto : (ℕ → Bool) → ℕ → Option ℕ
first_upto test zero = if test 0 then Some 0 else None
first_upto test (suc n) = first_of (first_upto test n) (if test (suc n) then Some (suc n) else None)

-- the moment at which a job of the task is finished that is finished after so many units, if it is
-- by the horizon
abbrev pub finish_of : Timeline → ℕ → ℕ → ℕ → Option ℕ
finish_of states t goal horizon = first_upto (λ x. nat_le goal (service_of states t x)) horizon

-- the finish and the response of a job that was released at this moment; where the jobs are served
-- no finish is before its release (the law finish_follows_release), so the response is their plain
-- difference
abbrev pub response_text : ℕ → Option ℕ → List ℕ
response_text release None = codes "- -"
response_text release (Some finish) =
    canonical_number finish ++ codes " " ++ canonical_number (finish - release)

-- job k of a task of this name
unfoldable pub job_line : List ℕ → ℕ → ℕ → Option ℕ → List ℕ
job_line name k release finish =
    line (name ++ codes " " ++ canonical_number k ++ codes " " ++ canonical_number release
    ++ codes " " ++ response_text release finish)

-- job k of task t
abbrev pub line_of_job : JobInputData → Timeline → ℕ → ℕ → List ℕ
line_of_job input states t k =
    let jobs = jobs_at input.jobs t in
    job_line (name_of input.set t) k (job_at jobs k).release
    (finish_of states t (goal_of jobs k) input.horizon)

-- the jobs of task t
abbrev pub lines_of_task : JobInputData → Timeline → ℕ → List ℕ
lines_of_task input states t =
    flat_map (line_of_job input states t) (range_with_len 0 (length (jobs_at input.jobs t)))

-- the header with the version of the input, and the horizon
abbrev pub heading_text : JobInputData → List ℕ
heading_text input = codes "jobs " ++ line (canonical_number input.version) ++ codes "horizon "
    ++ line (canonical_number input.horizon)

-- the heading, the jobs and the end
unfoldable pub jobs_text : JobInputData → List Entry → List ℕ
jobs_text input history =
    heading_text input ++ flat_map
    (lines_of_task input (state_of_moment (start_of input.set) history))
    (range_with_len 0 (length input.set.tasks))
    ++ codes "end\n"
