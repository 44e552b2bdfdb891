use Rattle.std.proofs.Common.{refl, ◌∙◌}
use Rattle.commands.proofs.Following.{followed_start}
use Rattle.commands.proofs.check.judge.Goals as goal

pub judge_by-requires-clause-followed : goal.judge_by-requires-clause-followed
judge_by-requires-clause-followed g c =
    followed_start c.args.schedule.now c.in_ok-checker.checker (c.in_ok-checker.ensures.links ∙ rw c.set.ensures.value refl)
    (c.in_ok-checker.ensures.contexts ∙ rw c.set.ensures.value refl) c.in_ok-checker.ensures.valid
