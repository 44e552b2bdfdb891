-- The canonical text of a list of jobs as it is written.
use Rattle.std.proofs.Common.{◌≡◌, ℕ, List, [], ◌∷◌, ◌++◌, codes, append_assoc}
use Rattle.std.specs.List.{flat_map}
use Rattle.affinity_mask.specs.Number.{canonical_number}
use Rattle.task_set.specs.TaskSet.{SetData}
use Rattle.text_fields.specs.EventText.{name_of}
use Rattle.text_fields.specs.LineText.{processors_line, task_line}
use Rattle.job_release.specs.JobList.{listed_job_line, horizon_line, job_list_text}
use Rattle.job_release.specs.declared.job_list.ListedJob.{ListedJob}

job_pieces : (old a b c d e f g : List ℕ) → old ++ a ++ b ++ c ++ d ++ e ++ f ++ g ≡ old ++ (a ++ b ++ c ++ d ++ e ++ f ++ g)
job_pieces old a b c d e f g = simp append_assoc

pub listed_job_written : (set : SetData) (job : ListedJob) (t0 t1 t2 t3 t4 t5 t6 t7 : List ℕ) → t1 ≡ t0 ++ codes "job "
    → t2 ≡ t1 ++ name_of set job.task → t3 ≡ t2 ++ 32 ∷ []
    → t4 ≡ t3 ++ canonical_number job.release → t5 ≡ t4 ++ 32 ∷ [] → t6 ≡ t5 ++ canonical_number job.cost → t7 ≡ t6 ++ 10 ∷ []
    → t7 ≡ t0 ++ listed_job_line set job
unfolding listed_job_line
listed_job_written set job t0 t1 t2 t3 t4 t5 t6 t7 e1 e2 e3 e4 e5 e6 e7 =
    rw (e7, e6, e5, e4, e3, e2, e1) (job_pieces t0 (codes "job ") (name_of set job.task) (codes " ") (canonical_number job.release)
    (codes " ") (canonical_number job.cost) (10 ∷ []))

horizon_pieces : (old a b c : List ℕ) → old ++ a ++ b ++ c ≡ old ++ (a ++ b ++ c)
horizon_pieces old a b c = simp append_assoc

pub horizon_written : (horizon : ℕ) (t0 t1 t2 t3 : List ℕ) → t1 ≡ t0 ++ codes "horizon " → t2 ≡ t1 ++ canonical_number horizon
    → t3 ≡ t2 ++ 10 ∷ [] → t3 ≡ t0 ++ horizon_line horizon
horizon_written horizon t0 t1 t2 t3 e1 e2 e3 = rw (e3, e2, e1) (horizon_pieces t0 (codes "horizon ") (canonical_number horizon) (10 ∷ []))

list_pieces : (a b c d e f : List ℕ) → [] ++ a ++ b ++ c ++ d ++ e ++ f ≡ a ++ b ++ c ++ d ++ e ++ f
list_pieces a b c d e f = simp append_assoc

pub list_written : (set : SetData) (horizon : ℕ) (jobs : List ListedJob) (t0 t1 t2 t3 t4 t5 t6 : List ℕ) → t0 ≡ []
    → t1 ≡ t0 ++ codes "jobs 2\n" → t2 ≡ t1 ++ processors_line set
    → t3 ≡ t2 ++ horizon_line horizon → t4 ≡ t3 ++ flat_map task_line set.tasks → t5 ≡ t4 ++ flat_map (listed_job_line set) jobs
    → t6 ≡ t5 ++ codes "end\n" → t6 ≡ job_list_text set horizon jobs
unfolding job_list_text
list_written set horizon jobs t0 t1 t2 t3 t4 t5 t6 e0 e1 e2 e3 e4 e5 e6 =
    rw (e6, e5, e4, e3, e2, e1, e0) (list_pieces (codes "jobs 2\n") (processors_line set) (horizon_line horizon)
    (flat_map task_line set.tasks) (flat_map (listed_job_line set) jobs) (codes "end\n"))
