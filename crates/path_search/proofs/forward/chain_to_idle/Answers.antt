use Rattle.strong_apa.specs.Chain.{EndsIdle}
use Rattle.strong_apa.proofs.Masks.{online_below}
use Rattle.path_search.specs.Paths.{EndsIn}
use Rattle.path_search.proofs.ChainPaths.{IsLeastIfAny-same, EndsIn-idle, idle-EndsIn}
use Rattle.path_search.proofs.forward.chain_to_idle.Goals as goal

pub chain_into-requires-clause-ends : goal.chain_into-requires-clause-ends
chain_into-requires-clause-ends c = λ p h. online_below c.args.links.now c.idle-idle.ensures.valid p
    ((c.idle-idle.ensures.contents p).0 h).0

pub returns-clause-least : goal.returns-clause-least
returns-clause-least c =
    let s = c.args.links.now in
    IsLeastIfAny-same (EndsIn s c.args.t c.idle-idle.result) (EndsIdle s c.args.t)
    (EndsIn-idle s c.args.t c.idle-idle.result c.idle-idle.ensures.contents)
    (idle-EndsIn s c.args.t c.idle-idle.result c.idle-idle.ensures.contents)
    c.chain_into.result c.chain_into.ensures
