use Rattle.job_release.proofs.Serving.{text_of_both}
use Rattle.job_release.proofs.compare.compare_both.Goals as goal

pub returns : goal.returns
returns c =
    text_of_both c.args.input.now c.args.weak.now c.args.strong.now _ c.requires.weak
    (rw c.scheduler.ensures at c.events-valid.ensures.valid) c.requires.strong c.requires.runs c.in_ok-text.ensures
