-- The jobs of a trace, as they are listed, and the line before them.
use Rattle.std.proofs.Common.{◌≡◌, ℕ, ◌<◌, ◌≤◌, List, [], ◌∷◌, ◌++◌, map, Option, ap, ◌∙◌, arith}
use Rattle.std.specs.Prelude.{All, codes}
use Rattle.std.proofs.lemmas.List.Elements.{All-map, All-weaker}
use Rattle.job_release.specs.declared.job_list.ListedJob.{ListedJob}
use Rattle.kernel_trace.specs.StampText.{stamp_text}
use Rattle.trace_losses.specs.Jobs.{IsJobWithin}
use Rattle.trace_losses.specs.declared.job.TraceJob.{TraceJob}
use Rattle.commands.specs.ImportJobs.{IsNarrow, listed, clock_line}

pub narrow : (tasks span : ℕ) (jobs : List TraceJob) → span ≤ 10000000 → All (IsJobWithin tasks span) jobs → All IsNarrow jobs
narrow tasks span jobs most within =
    All-weaker (IsJobWithin tasks span) IsNarrow
    (λ job is. let fits = is.fits in record { release = omega (arith, fits, most); units = omega (arith, fits, most) }) jobs within

pub of_tasks : (tasks span : ℕ) (jobs : List TraceJob) → All (IsJobWithin tasks span) jobs
    → All (λ (job : ListedJob). job.task < tasks) (map listed jobs)
of_tasks tasks span jobs within =
    All-map (λ (job : ListedJob). job.task < tasks) listed jobs
    (All-weaker (IsJobWithin tasks span) (λ (job : TraceJob). job.task < tasks) (λ job is. is.task) jobs within)

pub clock_written : (clock : Option ℕ) (list none word stamp end text : List ℕ) → none ≡ [] → word ≡ none ++ codes "# moment 0 is at "
    → stamp ≡ word ++ stamp_text clock → end ≡ stamp ++ 10 ∷ [] → text ≡ end ++ list → text ≡ clock_line clock ++ list
clock_written clock list none word stamp end text a b c d e =
    e
    ∙ ap (λ (t : List ℕ). t ++ list)
    (d ∙ ap (λ (t : List ℕ). t ++ 10 ∷ []) (c
    ∙ ap (λ (t : List ℕ). t ++ stamp_text clock) (b ∙ ap (λ (t : List ℕ). t ++ codes "# moment 0 is at ") a)))
