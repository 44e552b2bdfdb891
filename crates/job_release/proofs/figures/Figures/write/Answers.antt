use Rattle.std.proofs.Common.{append_assoc}
use Rattle.job_release.specs.WeakJobsText.{figures_text}
use Rattle.job_release.proofs.figures.Figures.write.Goals as goal

pub returns : goal.returns
unfolding figures_text
returns c = λ list late is.
    rw (c.in_ok-write_number.ensures, c.in_ok-push.ensures.items, c.in_ok-write_responses.ensures list late is, is.late) (simp append_assoc)
