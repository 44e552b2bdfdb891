use Rattle.reach_certificate.proofs.CatchingUp.{caught_up-then}
use Rattle.reach_certificate.proofs.contexts.Contexts.catch_up.Goals as goal

pub returns : goal.returns
returns c =
    rw (← c.filling_chain.ensures.value, ← c.coming_chain.ensures.value)
    (caught_up-then c.args.links.now c.processors.ensures.valid c.filling_chain.result.now c.coming_chain.result.now c.args.self.now
    c.catch_up_along.new.self c.catch_up_along-2.new.self c.requires.processors c.catch_up_along.ensures c.catch_up_along-2.ensures)
