-- The lines as they are written, piece by piece.
use Rattle.std.proofs.Common.{◌≡◌, ℕ, List, [], ◌∷◌, ◌++◌, length, codes, Option, append_assoc, refl}
use Rattle.std.specs.List.{flat_map, range_with_len}
use Rattle.affinity_mask.specs.Number.{canonical_number}
use Rattle.text_fields.specs.LineText.{line}
use Rattle.job_release.specs.JobInput.{JobInputData}
use Rattle.job_release.specs.Moments.{Timeline}
use Rattle.job_release.specs.WeakJobsText.{job_head, outcomes_text, finish_text, task_row, weak_jobs_heading, weak_jobs_text, all_moves}
use Rattle.job_release.specs.WeakJobsText.{rows_of_task, row_of_task}

head_pieces : (t a b c d e f : List ℕ) → t ++ a ++ b ++ c ++ d ++ e ++ f ≡ t ++ (a ++ b ++ c ++ d ++ e ++ f)
head_pieces t a b c d e f = simp append_assoc

pub head_written : (name : List ℕ) (k release : ℕ) (t0 t1 t2 t3 t4 t5 t6 : List ℕ) → t1 ≡ t0 ++ codes "job " → t2 ≡ t1 ++ name
    → t3 ≡ t2 ++ 32 ∷ [] → t4 ≡ t3 ++ canonical_number k → t5 ≡ t4 ++ 32 ∷ []
    → t6 ≡ t5 ++ canonical_number release → t6 ≡ t0 ++ job_head name k release
unfolding job_head
head_written name k release t0 t1 t2 t3 t4 t5 t6 e1 e2 e3 e4 e5 e6 =
    rw (e6, e5, e4, e3, e2, e1) (head_pieces t0 (codes "job ") name (codes " ") (canonical_number k) (codes " ") (canonical_number release))

outcome_pieces : (t a b c d e f g : List ℕ) → t ++ a ++ b ++ c ++ d ++ e ++ f ++ g ≡ t ++ ((a ++ b ++ c ++ d ++ e ++ f) ++ g)
outcome_pieces t a b c d e f g = simp append_assoc

pub outcomes_written : (weak strong : Option ℕ) (mark : List ℕ) (t0 t1 t2 t3 t4 t5 t6 t7 : List ℕ) → t1 ≡ t0 ++ 32 ∷ []
    → t2 ≡ t1 ++ finish_text weak → t3 ≡ t2 ++ 32 ∷ [] → t4 ≡ t3 ++ finish_text strong
    → t5 ≡ t4 ++ 32 ∷ [] → t6 ≡ t5 ++ mark → t7 ≡ t6 ++ 10 ∷ [] → t7 ≡ t0 ++ line (outcomes_text weak strong mark)
unfolding outcomes_text
outcomes_written weak strong mark t0 t1 t2 t3 t4 t5 t6 t7 e1 e2 e3 e4 e5 e6 e7 =
    rw (e7, e6, e5, e4, e3, e2, e1) (outcome_pieces t0 (codes " ") (finish_text weak) (codes " ") (finish_text strong) (codes " ") mark
    (10 ∷ []))

-- the two halves of a job's line
pub row_written : (head rest t0 t1 t2 : List ℕ) → t1 ≡ t0 ++ head → t2 ≡ t1 ++ line rest → t2 ≡ t0 ++ line (head ++ rest)
row_written head rest t0 t1 t2 e1 e2 = rw (e2, e1) (halves t0 head rest (10 ∷ []))
  where
    halves : (t a b c : List ℕ) → t ++ a ++ (b ++ c) ≡ t ++ ((a ++ b) ++ c)
    halves t a b c = simp append_assoc

heading_pieces : (a b c d e f g h i j k : List ℕ) → [] ++ (a ++ b) ++ c ++ (d ++ e) ++ f ++ (g ++ h) ++ (i ++ j) ++ k ≡ ((a ++ b) ++ c)
    ++ ((d ++ e) ++ f) ++ ((g ++ h ++ i ++ j) ++ k)
heading_pieces a b c d e f g h i j k = simp append_assoc

pub heading_written : (version horizon weak strong : ℕ) (t0 t1 t2 t3 t4 t5 t6 t7 : List ℕ) → t0 ≡ []
    → t1 ≡ t0 ++ (codes "weakjobs " ++ canonical_number version) → t2 ≡ t1 ++ 10 ∷ []
    → t3 ≡ t2 ++ (codes "horizon " ++ canonical_number horizon) → t4 ≡ t3 ++ 10 ∷ []
    → t5 ≡ t4 ++ (codes "moves weak " ++ canonical_number weak) → t6 ≡ t5 ++ (codes " strong " ++ canonical_number strong)
    → t7 ≡ t6 ++ 10 ∷ [] → t7 ≡ weak_jobs_heading version horizon weak strong
unfolding weak_jobs_heading
heading_written version horizon weak strong t0 t1 t2 t3 t4 t5 t6 t7 e0 e1 e2 e3 e4 e5 e6 e7 =
    rw (e7, e6, e5, e4, e3, e2, e1, e0) (heading_pieces (codes "weakjobs ") (canonical_number version) (10 ∷ []) (codes "horizon ")
    (canonical_number horizon) (10 ∷ [])
    (codes "moves weak ") (canonical_number weak) (codes " strong ") (canonical_number strong) (10 ∷ []))

task_pieces : (t a b c d e f g h i : List ℕ) → t ++ a ++ b ++ (c ++ d) ++ e ++ f ++ g ++ h ++ i ≡ t
    ++ ((a ++ b ++ c ++ d ++ e ++ f ++ g ++ h) ++ i)
task_pieces t a b c d e f g h i = simp append_assoc

pub task_written : (name : List ℕ) (jobs : ℕ) (weak strong : List ℕ) (t0 t1 t2 t3 t4 t5 t6 t7 t8 : List ℕ) → t1 ≡ t0 ++ codes "task "
    → t2 ≡ t1 ++ name → t3 ≡ t2 ++ (codes " jobs " ++ canonical_number jobs)
    → t4 ≡ t3 ++ codes " weak " → t5 ≡ t4 ++ weak → t6 ≡ t5 ++ codes " strong " → t7 ≡ t6 ++ strong → t8 ≡ t7 ++ 10 ∷ []
    → t8 ≡ t0 ++ task_row name jobs weak strong
unfolding task_row
task_written name jobs weak strong t0 t1 t2 t3 t4 t5 t6 t7 t8 e1 e2 e3 e4 e5 e6 e7 e8 =
    rw (e8, e7, e6, e5, e4, e3, e2, e1) (task_pieces t0 (codes "task ") name (codes " jobs ") (canonical_number jobs) (codes " weak ") weak
    (codes " strong ") strong (10 ∷ []))

pub text_written : (input : JobInputData) (weak strong : Timeline) (t0 t1 t2 t3 : List ℕ)
    → t0 ≡ weak_jobs_heading input.version input.horizon (all_moves input weak) (all_moves input strong)
    → t1 ≡ t0 ++ flat_map (rows_of_task input weak strong) (range_with_len 0 (length input.set.tasks))
    → t2 ≡ t1 ++ flat_map (row_of_task input weak strong) (range_with_len 0 (length input.set.tasks)) → t3 ≡ t2 ++ codes "end\n"
    → t3 ≡ weak_jobs_text input weak strong
unfolding weak_jobs_text
text_written input weak strong t0 t1 t2 t3 e0 e1 e2 e3 = rw (e3, e2, e1, e0) refl
