use Rattle.std.proofs.Common.{◌≡◌, List, [], ◌∷◌, ◌++◌, sym, ap, ◌∙◌, arith}
use Rattle.std.proofs.lemmas.List.FromFn.{map-range_with_len_more}
use Rattle.job_release.specs.Jobs.{periodic_job}
use Rattle.job_release.specs.declared.input.Job.{Job}
use Rattle.job_release.proofs.Released.{released_below}
use Rattle.job_release.proofs.input.JobTask.jobs.Goals as goal

pub overflow_cast-release : goal.overflow_cast-release
overflow_cast-release c =
    let below = released_below c.args.self.now c.loop-k.k c.args.horizon (omega (arith, c.loop-k-test.true, c.count-k-end.ensures)) in
    let fits = c.ranges.horizon.fits in
    omega (arith, below, fits, c.release.ensures)

pub loop-k-preserved : goal.loop-k-preserved
loop-k-preserved c =
    let task = c.args.self.now in
    let pushed : c.push.new.self.items ≡ c.loop-k.jobs.items ++ periodic_job task c.loop-k.k
    ∷ [] = rw c.release.ensures at c.in_ok-push.ensures.items in
    pushed ∙ ap (λ (jobs : List Job). jobs ++ periodic_job task c.loop-k.k ∷ []) c.loop-k.invariant
    ∙ sym (map-range_with_len_more (periodic_job task) 0 c.loop-k.k c.loop-k.k (omega arith))
