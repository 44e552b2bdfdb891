use Rattle.strong_apa.specs.Chain.{IsChainOf, EndsOnTask}
use Rattle.path_search.specs.Paths.{EndsIn}
use Rattle.path_search.proofs.ChainPaths.{IsLeastIfAny-same, EndsIn-one, one-EndsIn, EndsIn-task, task-EndsIn, start_below}
use Rattle.path_search.proofs.forward.chain_to.Goals as goal

pub chain_into-requires-clause-ends : goal.chain_into-requires-clause-ends
chain_into-requires-clause-ends c = start_below c.args.links.now c.args.p c.one.result c.one.ensures c.requires.processor

pub returns-clause-processor : goal.returns-clause-processor
returns-clause-processor c =
    IsLeastIfAny-same (EndsIn c.args.links.now c.args.t c.one.result) (λ chain. IsChainOf c.args.links.now c.args.t chain c.args.p)
    (EndsIn-one c.args.links.now c.args.t c.args.p c.one.result c.one.ensures)
    (one-EndsIn c.args.links.now c.args.t c.args.p c.one.result c.one.ensures)
    c.chain_into.result c.chain_into.ensures

pub returns-clause-occupant : goal.returns-clause-occupant
returns-clause-occupant c = λ d on.
    IsLeastIfAny-same (EndsIn c.args.links.now c.args.t c.one.result) (EndsOnTask c.args.links.now c.args.t d)
    (EndsIn-task c.args.links.now c.args.t c.args.p c.one.result c.one.ensures c.processors.ensures.valid d on)
    (task-EndsIn c.args.links.now c.args.t c.args.p c.one.result c.one.ensures c.processors.ensures.valid d on)
    c.chain_into.result c.chain_into.ensures
