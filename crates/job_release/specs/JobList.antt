-- The canonical text of version 2 of jobs that stand in one list. It has no skipped lines and no
-- further blanks, its numbers and lists are canonical, and no job has a deadline. Lines end with a
-- line feed, and fields are separated by one space.
use Rattle.std.specs.Prelude.{ℕ, List, ◌++◌, codes}
use Rattle.std.specs.List.{flat_map}
use Rattle.affinity_mask.specs.Number.{canonical_number}
use Rattle.task_set.specs.TaskSet.{SetData}
use Rattle.text_fields.specs.EventText.{name_of}
use Rattle.text_fields.specs.LineText.{line, processors_line, task_line}
use Rattle.job_release.specs.declared.job_list.ListedJob.{ListedJob}

-- a job of a task of the set
unfoldable pub listed_job_line : SetData → ListedJob → List ℕ
listed_job_line set job =
    line (codes "job " ++ name_of set job.task ++ codes " " ++ canonical_number job.release
    ++ codes " " ++ canonical_number job.cost)

-- how far the jobs go
abbrev pub horizon_line : ℕ → List ℕ
horizon_line horizon = line (codes "horizon " ++ canonical_number horizon)

-- the header, the processors, the horizon, the tasks, the jobs in their order, and the end
unfoldable pub job_list_text : SetData → ℕ → List ListedJob → List ℕ
job_list_text set horizon jobs =
    codes "jobs 2\n" ++ processors_line set ++ horizon_line horizon ++ flat_map task_line set.tasks
    ++ flat_map (listed_job_line set) jobs
    ++ codes "end\n"
