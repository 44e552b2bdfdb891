use Rattle.std.proofs.Common.{ap, ◌∙◌}
use Rattle.strong_apa.specs.State.{State}
use Rattle.strong_apa.specs.Chain.{state_after_shift, task_put_out}
use Rattle.strong_apa.proofs.Readiness.{ready_already}
use Rattle.link_table.proofs.links.Links.shift.Goals as goal

pub returns-clause-links : goal.returns-clause-links
returns-clause-links c = c.enter.ensures.shifted ∙ ap (λ (s : State). state_after_shift s c.args.t c.args.chain.now)
    (ready_already c.args.self.now c.args.t c.requires.waits.ready)

pub returns-clause-out : goal.returns-clause-out
returns-clause-out c = c.enter.ensures.out ∙ ap (λ (s : State). task_put_out s c.args.chain.now)
    (ready_already c.args.self.now c.args.t c.requires.waits.ready)
