use Rattle.std.proofs.Common.{◌≡◌, ℕ, List, length, ap, ◌∙◌}
use Rattle.job_release.specs.Moves.{moves_of_all}
use Rattle.job_release.specs.declared.input.Job.{Job}
use Rattle.job_release.specs.WeakJobsText.{all_moves}
use Rattle.job_release.proofs.ComparisonWritten.{text_written}
use Rattle.job_release.proofs.comparison.comparison_text.Goals as goal

pub returns : goal.returns
returns g c =
    let input = c.args.input.now in
    let weak = (g.W.JobScheduler.seen c.args.weak.now.scheduler).states in
    let strong = (g.S.JobScheduler.seen c.args.strong.now.scheduler).states in
    let weak_moves : c.moves.result ≡ all_moves input weak = c.moves.ensures
    ∙ ap (λ (jobs : List (List Job)). moves_of_all weak (length jobs) c.args.weak.now.horizon) c.requires.weak.jobs
    ∙ ap (λ (h : ℕ). moves_of_all weak (length input.jobs) h) c.requires.weak.horizon in
    let strong_moves : c.moves-2.result ≡ all_moves input strong = c.moves-2.ensures
    ∙ ap (λ (jobs : List (List Job)). moves_of_all strong (length jobs) c.args.strong.now.horizon) c.requires.strong.jobs
    ∙ ap (λ (h : ℕ). moves_of_all strong (length input.jobs) h) c.requires.strong.horizon in
    text_written input weak strong _ _ _ _ (rw (weak_moves, strong_moves) at c.in_ok-text.ensures)
    c.in_ok-write_jobs.ensures c.in_ok-write_tasks.ensures c.in_ok-extend_from_slice.ensures.items
